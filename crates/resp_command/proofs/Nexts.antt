-- A call of `next` of a scan, from what its requests gave.
use Rattle.std.proofs.Common.{◌≡◌, ◌≢◌, ℕ, List, [], ◌∷◌, refl, ap, ◌∙◌, Result, Err, Option, Some, None, ◌⊎◌, inl, inr}
use Rattle.std.specs.Prelude.{Vec}
use Rattle.std.specs.Global.{Global}
use Rattle.std.specs.Result.{result_map_both}
use Rattle.resp_errors.specs.declared.parsing_error.ParsingError.{ParsingError}
use Rattle.resp_errors.specs.declared.redis_error.RedisError.{RedisError}
use Rattle.resp_errors.specs.Errors.{error_of_parsing}
use Rattle.resp_value.specs.declared.value.Value.{Value}
use Rattle.resp_command.specs.Command.{Command}
use Rattle.resp_command.specs.Connection.{Connection}
use Rattle.resp_command.specs.ScanReplies.{as_answers, answers_in}
use Rattle.resp_command.specs.Scans.{Next, ScanState, budget_used_up}
use Rattle.resp_command.specs.Scans.Next.{waited, asked, done, used_up}
use Rattle.resp_command.specs.Fetching.{Fetches}
use Rattle.resp_command.specs.declared.fetching.FetchedPage.TheVariants.{Results, Failed, Nothing}
use Rattle.resp_command.specs.declared.fetching.Fetched.{Fetched}

module _ {X : Type 0} where
  -- the state of these parts
  abbrev pub standing : Command → ℕ → List (Result X ParsingError) → Option ℕ → ScanState X
  standing c cursor results left = record { command = c; cursor = cursor; waiting = as_answers results; budget = left }

  abbrev pub as_answer : Result X ParsingError → Result X RedisError
  as_answer r = result_map_both (λ x. x) error_of_parsing r

module _ {X : Type 0} (n : ℕ) (Of : Value → X → Type 0) where
  pub next_waited : (w : Connection) (c : Command) (u : ℕ) (xs ys : List (Result X ParsingError)) (l : Option ℕ)
      (x : Result X ParsingError) (a : Result X RedisError) → xs ≡ x ∷ ys → a ≡ as_answer x
      → Next n Of w w (standing c u xs l) (Some a) (standing c u ys l)
  next_waited w c u xs ys l x a e i = waited a (ap as_answers e ∙ rw (← i) refl) refl refl refl

  module _ (old new : Connection) (c : Command) (u k : ℕ) (w w' : List (Result X ParsingError)) (l : Option ℕ)
      (s : Fetched X) (h : Fetches n Of old new c u k s) (e : w ≡ []) (f : l ≡ Some k) where
    pub next_fetched : (v : Vec (Result X ParsingError) Global) (x : Result X ParsingError) (a : Result X RedisError)
        → s.page ≡ Results v → v.items ≡ x ∷ w' → a ≡ as_answer x
        → Next n Of old new (standing c u w l) (Some a) (standing c s.cursor w' (Some s.left))
    next_fetched v x a g m is =
        let i : (answers_in h.givens ≡ as_answers v.items) × (v.items ≢ []) = rw g at h.page in
        rw (e, f) (asked k s.left h.givens a refl refl h.asked (i.0 ∙ ap as_answers m ∙ rw (← is) refl) refl refl)

    pub next_failed : (x : RedisError) → s.page ≡ Failed x → w' ≡ []
        → Next n Of old new (standing c u w l) (Some (Err x)) (standing c s.cursor w' (Some s.left))
    next_failed x g m = rw (e, f, m) (asked k s.left h.givens (Err x) refl refl h.asked (rw g at h.page) refl refl)

    pub next_done : s.page ≡ Nothing → w' ≡ [] → s.cursor ≡ 0
        → Next n Of old new (standing c u w l) None (standing c s.cursor w' (Some s.left))
    next_done g m z =
        rw (e, f, m, z) (done k s.left h.givens refl refl (rw z at h.asked) (rw g at h.page) refl refl)

    pub next_used_up : (x : RedisError) → s.page ≡ Nothing → w' ≡ [] → s.cursor ≢ 0 → x ≡ budget_used_up
        → Next n Of old new (standing c u w l) (Some (Err x)) (standing c s.cursor w' None)
    next_used_up x g m z is =
        rw (e, f, m, is) (last (rw g at h.page) (h.nothing g))
      where
        last : answers_in h.givens ≡ [] → (s.cursor ≡ 0) ⊎ (s.left ≡ 0)
            → Next n Of old new (standing c u [] (Some k)) (Some (Err budget_used_up)) (standing c s.cursor [] None)
        last i (inl a) = absurd (z a)
        last i (inr a) = used_up k h.givens refl refl (rw a at h.asked) i z refl refl
