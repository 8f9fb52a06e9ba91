-- A whole scan: its calls of `next`, joined.
use Rattle.std.specs.Prelude.{◌≡◌, ◌≢◌, ℕ, ◌≤◌, ◌⊎◌, List, [], ◌∷◌, ◌++◌, length, Result, Err, Option, Some, None}
use Rattle.resp_errors.specs.declared.redis_error.RedisError.{RedisError}
use Rattle.resp_value.specs.declared.value.Value.{Value}
use Rattle.resp_command.specs.Connection.{Connection}
use Rattle.resp_command.specs.ScanReplies.{Given, answers_in, latest}
use Rattle.resp_command.specs.Scans.{ScanState, Requests, Fits, Next, budget_used_up}

module _ {X : Type 0} (n : ℕ) (Of : Value → X → Type 0) where
  -- calls of `next`, one after another, which gave these answers
  abbrev pub Calls : Connection → Connection → ScanState X → List (Result X RedisError)
      → ScanState X → Type 0
  Calls old new s [] t = (new ≡ old) × (t ≡ s)
  Calls old new s (x ∷ answers) t = (between : Connection) × (r : ScanState X)
      × Next n Of old between s (Some x) r × Calls between new r answers t

  -- the answers of a whole scan with a budget of k: those that waited, and those to its requests;
  -- and in the end the cursor is 0, or the budget was used up
  pub record WholeScan (old new : Connection) (s : ScanState X) (k : ℕ)
      (answers : List (Result X RedisError)) : Type 0 where
    pub givens : List (Given X)
    pub requests : Requests n Of old new s.command s.cursor givens
    pub fits : Fits n Of s.cursor givens
    pub within : length givens ≤ k
    pub answered :
        ((answers ≡ s.waiting ++ answers_in givens) × (latest s.cursor givens ≡ 0))
        ⊎ ((answers ≡ (s.waiting ++ answers_in givens) ++ Err budget_used_up ∷ [])
        × (latest s.cursor givens ≢ 0) × (length givens ≡ k))

  -- a scan that is called until it answers nothing is a whole one, and answers nothing ever after
  abbrev pub LawOfScans : Type 0
  LawOfScans = (old mid new : Connection) (s t u : ScanState X) (k : ℕ)
      (answers : List (Result X RedisError)) → s.budget ≡ Some k → Calls old mid s answers t
      → Next n Of mid new t None u
      → WholeScan old new s k answers
      × ((later : Connection) (answer : Option (Result X RedisError)) (v : ScanState X)
      → Next n Of new later u answer v → (answer ≡ None) × (later ≡ new) × (v ≡ u))
