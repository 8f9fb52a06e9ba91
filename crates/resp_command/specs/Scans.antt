-- What a scan does: its requests, and what each call of `next` answers.
use Rattle.std.specs.Prelude.{◌≡◌, ◌≢◌, ℕ, ◌<◌, ◌-◌, ◌+◌, ◌*◌, ◌^◌, ◌⊎◌, List, [], ◌∷◌, ◌++◌, length, take, codes}
use Rattle.std.specs.Prelude.{Result, Ok, Err, Option, Some, None}
use Rattle.resp_errors.specs.declared.kinds.ErrorKind.TheVariants.{Client}
use Rattle.resp_errors.specs.declared.redis_error.RedisError.{RedisError}
use Rattle.resp_errors.specs.declared.redis_error.RedisError.TheVariants.{General, OutOfMemory}
use Rattle.resp_value.specs.declared.value.Value.{Value}
use Rattle.resp_command.specs.Call.{CommandCall, PackedCall, needed}
use Rattle.resp_command.specs.Command.{Command}
use Rattle.resp_command.specs.Connection.{push_room, Connection}
use Rattle.resp_command.specs.Cursors.{with_cursor}
use Rattle.resp_command.specs.Packed.{packed_or_none}
use Rattle.resp_command.specs.PackingLaw.{LawOfPacking}
use Rattle.resp_command.specs.ScanReplies.{Given, GivesFirst, Gives, as_answers, answers_in, latest}
use Rattle.resp_command.specs.Taken.{TakesOneThing}
use Rattle.resp_command.specs.declared.batch.Batch.{Batch}

-- where a scan stands
pub record ScanState (X : Type 0) : Type 0 where
  pub command : Command
  -- the latest cursor
  pub cursor : ℕ
  -- answers that are there already
  pub waiting : List (Result X RedisError)
  -- how many requests it may still make; none: it has ended
  pub budget : Option ℕ

-- the request with this cursor
abbrev pub scan_request : Command → ℕ → List ℕ
scan_request c cursor = packed_or_none (with_cursor cursor c).args

-- a packed command was sent and answered with this; or memory ran out before it
abbrev pub SendsPacked : Connection → Connection → List ℕ → Result Value RedisError → Type 0
SendsPacked old new q answer =
    PackedCall old new q answer ⊎ ((answer ≡ Err OutOfMemory) × (new ≡ old))

-- the one refusal of a scan whose budget is used up
abbrev pub budget_used_up : RedisError
budget_used_up = General Client (codes "scan budget used up") None

module _ {X : Type 0} (n : ℕ) (Of : Value → X → Type 0) where
  -- a scan's first request: it reads only as the command's arguments; whatever bytes arrive, one
  -- reply takes one thing from them and those before; and it gives what the reply or a refusal
  -- determines
  pub record FirstRequest (old new : Connection) (c : Command)
      (given : Result (Batch X) RedisError) : Type 0 where
    pub answer : Result Value RedisError
    pub reads_only : LawOfPacking c.args
    pub takes_one : (link : Connection) (arrived : List ℕ) →
        TakesOneThing link.limits (push_room link) (needed c) (link.received ++ arrived)
    pub call : CommandCall old new c answer (λ reply. answer ≡ Ok reply)
    pub gives : GivesFirst n Of answer given

  -- a first request over some connection gave this error
  pub record CannotStart (old : Connection) (c : Command) (e : RedisError) : Type 0 where
    pub new : Connection
    pub sent : FirstRequest old new c (Err e)

  -- a later request, the same with a cursor
  pub record LaterRequest (old new : Connection) (c : Command) (cursor : ℕ) (given : Given X) :
      Type 0 where
    pub answer : Result Value RedisError
    pub reads_only : LawOfPacking (with_cursor cursor c).args
    pub takes_one : (link : Connection) (arrived : List ℕ) →
        TakesOneThing link.limits (push_room link) 1 (link.received ++ arrived)
    pub sends : SendsPacked old new (scan_request c cursor) answer
    pub gives : Gives n Of answer given

  -- requests, one after another, each with the latest cursor
  abbrev pub Requests : Connection → Connection → Command → ℕ → List (Given X) → Type 0
  Requests old new c cursor [] = new ≡ old
  Requests old new c cursor (given ∷ givens) = (between : Connection)
      × LaterRequest old between c cursor given
      × Requests between new c (latest cursor (given ∷ [])) givens

  -- no request came after cursor 0
  abbrev pub Fits : ℕ → List (Given X) → Type 0
  Fits cursor givens = (i : ℕ) → i < length givens → latest cursor (take i givens) ≢ 0

  -- a scan without waiting answers asked, by its budget, until there were answers: only the last
  -- request may have given some
  pub record Asked (old new : Connection) (c : Command) (from k : ℕ) (cursor left : ℕ)
      (givens : List (Given X)) : Type 0 where
    pub requests : Requests old new c from givens
    pub fits : Fits from givens
    pub budget : length givens + left ≡ k
    pub latest_is : cursor ≡ latest from givens
    pub early : answers_in (take (length givens - 1) givens) ≡ []

  -- the scan stands after the batch of its first reply
  pub record Starts (old new : Connection) (c : Command) (k : ℕ) (s : ScanState X) : Type 0 where
    pub batch : Batch X
    pub sent : FirstRequest old new c (Ok batch)
    pub stands : s ≡ record {
      command = c;
      cursor = batch.cursor;
      waiting = as_answers batch.results.items;
      budget = Some k;
    }

  -- a call of `next` of a scan that stood at s, which then stands at t
  pub data Next (old new : Connection) (s : ScanState X) (answer : Option (Result X RedisError))
      (t : ScanState X) : Type 0 where
    -- it had ended
    ended : s.budget ≡ None → s.waiting ≡ [] → answer ≡ None → t ≡ s → new ≡ old
        → Next old new s answer t
    -- an answer was there: no request is made
    waited : (x : Result X RedisError) → s.waiting ≡ x ∷ t.waiting → answer ≡ Some x
        → t ≡ record s { waiting = t.waiting } → new ≡ old → Next old new s answer t
    -- requests gave answers, of which this is the first
    asked : (k left : ℕ) (givens : List (Given X)) (x : Result X RedisError)
        → s.budget ≡ Some k → s.waiting ≡ []
        → Asked old new s.command s.cursor k t.cursor left givens
        → answers_in givens ≡ x ∷ t.waiting → answer ≡ Some x
        → t ≡ record s { cursor = t.cursor; waiting = t.waiting; budget = Some left }
        → Next old new s answer t
    -- the cursor became 0, or was it, and there is no more answer
    done : (k left : ℕ) (givens : List (Given X)) → s.budget ≡ Some k → s.waiting ≡ []
        → Asked old new s.command s.cursor k 0 left givens
        → answers_in givens ≡ [] → answer ≡ None
        → t ≡ record s { cursor = 0; waiting = []; budget = Some left }
        → Next old new s answer t
    -- the budget was used up before the cursor became 0
    used_up : (k : ℕ) (givens : List (Given X)) → s.budget ≡ Some k → s.waiting ≡ []
        → Asked old new s.command s.cursor k t.cursor 0 givens
        → answers_in givens ≡ [] → t.cursor ≢ 0 → answer ≡ Some (Err budget_used_up)
        → t ≡ record s { cursor = t.cursor; waiting = []; budget = None }
        → Next old new s answer t

-- no scan answers more often than this
abbrev pub most_answers : ℕ → Option ℕ → ℕ
most_answers n None = n
most_answers n (Some left) = n + (left * 2 ^ 64 + 1)
