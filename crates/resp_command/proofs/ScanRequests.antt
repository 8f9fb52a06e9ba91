-- One more request of a scan.
use Rattle.std.proofs.Common.{◌≡◌, ◌≢◌, ℕ, zero, suc, ◌-◌, ◌<◌, ◌≤◌, List, [], ◌∷◌, ◌++◌, length, take, length-append}
use Rattle.std.proofs.Common.{append_assoc, refl, sym, ap, ◌∙◌, arith, Ok, Err}
use Rattle.std.proofs.lemmas.List.{append-nil, take_all}
use Rattle.std.proofs.lemmas.Grind.{common_steps}
use Rattle.resp_value.specs.declared.value.Value.{Value}
use Rattle.resp_command.specs.Command.{Command}
use Rattle.resp_command.specs.Connection.{Connection}
use Rattle.resp_command.specs.ScanReplies.{Given, answers_of, answers_in, latest}
use Rattle.resp_command.specs.Scans.{LaterRequest, Requests, Fits, Asked}

module _ {X : Type 0} where
  latest_step : (u : ℕ) (g : Given X) (gs : List (Given X)) → latest (latest u (g ∷ [])) gs ≡ latest u (g ∷ gs)
  latest_step u (Ok page) gs = refl
  latest_step u (Err e) gs = refl

  pub latest_append : (u : ℕ) (gs hs : List (Given X)) → latest u (gs ++ hs) ≡ latest (latest u gs) hs
  latest_append u [] hs = refl
  latest_append u (g ∷ gs) hs = sym (latest_step u g (gs ++ hs)) ∙ latest_append (latest u (g ∷ [])) gs hs
      ∙ ap (λ v. latest v hs) (latest_step u g gs)

  pub answers_append : (gs hs : List (Given X)) → answers_in (gs ++ hs) ≡ answers_in gs ++ answers_in hs
  answers_append [] hs = refl
  answers_append (g ∷ gs) hs = rw (answers_append gs hs)
      (sym (append_assoc (answers_of g) (answers_in gs) (answers_in hs)))

  take_front : (gs : List (Given X)) (g : Given X) (i : ℕ) → i ≤ length gs → take i (gs ++ g ∷ []) ≡ take i gs
  take_front gs g i h = grind (arith, common_steps)

module _ {X : Type 0} (n : ℕ) (Of : Value → X → Type 0) where
  pub requests_append : (old mid new : Connection) (c : Command) (u : ℕ) (gs hs : List (Given X))
      → Requests n Of old mid c u gs → Requests n Of mid new c (latest u gs) hs → Requests n Of old new c u (gs ++ hs)
  requests_append old mid new c u [] hs e more = rw (← e) more
  requests_append old mid new c u (g ∷ gs) hs e more =
      (e.0, e.1, requests_append e.0 mid new c (latest u (g ∷ [])) gs hs e.2 (rw (latest_step u g gs) more))

  fits_tail : (u : ℕ) (g : Given X) (gs : List (Given X)) → Fits n Of u (g ∷ gs) → Fits n Of (latest u (g ∷ [])) gs
  fits_tail u g gs h i l = λ z. h (suc i) (omega (arith, l)) (sym (latest_step u g (take i gs)) ∙ z)

  pub fits_append : (u : ℕ) (gs hs : List (Given X)) → Fits n Of u gs → Fits n Of (latest u gs) hs
      → Fits n Of u (gs ++ hs)
  fits_append u [] hs h k i l = k i l
  fits_append u (g ∷ gs) hs h k zero l = h zero (omega arith)
  fits_append u (g ∷ gs) hs h k (suc i) l =
      let rest = fits_append (latest u (g ∷ [])) gs hs (fits_tail u g gs h) (rw (latest_step u g gs) k) i
      (omega (arith, l)) in
      λ z. rest (latest_step u g (take i (gs ++ hs)) ∙ z)

  fits_one : (u : ℕ) (g : Given X) → u ≢ 0 → Fits n Of u (g ∷ [])
  fits_one u g z zero l = z
  fits_one u g z (suc i) l = absurd (omega (arith, l))

  -- requests that gave no answer so far
  pub record Fetching (old now : Connection) (c : Command) (u k cursor left : ℕ) : Type 0 where
    pub givens : List (Given X)
    pub asked : Asked n Of old now c u k cursor left givens
    pub none : answers_in givens ≡ []

  pub fetching_first : (old : Connection) (c : Command) (u k : ℕ) → Fetching old old c u k u k
  fetching_first old c u k = record {
    givens = [];
    asked = record {
      requests = refl;
      fits = λ i l. absurd (omega (arith, l));
      budget = omega arith;
      latest_is = refl;
      early = refl;
    };
    none = refl;
  }

  module _ (old now new : Connection) (c : Command) (u k cursor left : ℕ) (s : Fetching old now c u k cursor left)
      (go : cursor ≢ 0) (some : 0 < left) (g : Given X) (one : LaterRequest n Of now new c cursor g) where
    pub asked_more : Asked n Of old new c u k (latest cursor (g ∷ [])) (left - 1) (s.givens ++ g ∷ [])
    asked_more = record {
      requests = requests_append old now new c u s.givens (g ∷ []) s.asked.requests
          (rw (← s.asked.latest_is) (new, one, refl));
      fits = fits_append u s.givens (g ∷ []) s.asked.fits (rw (← s.asked.latest_is) (fits_one cursor g go));
      budget = omega (arith, s.asked.budget, length-append s.givens (g ∷ []));
      latest_is = ap (λ v. latest v (g ∷ [])) s.asked.latest_is ∙ sym (latest_append u s.givens (g ∷ []));
      early =
          let e : length (s.givens ++ g ∷ []) - 1 ≡ length s.givens = omega (arith, length-append s.givens (g ∷ [])) in
          rw (
            e,
            take_front s.givens g (length s.givens) (omega arith),
            take_all (length s.givens) s.givens
                (omega arith),
          ) s.none;
    }

    pub its_answers : answers_in (s.givens ++ g ∷ []) ≡ answers_of g
    its_answers = answers_append s.givens (g ∷ []) ∙ ap (λ xs. xs ++ answers_in (g ∷ [])) s.none
        ∙ append-nil (answers_of g)

    pub fetching_more : answers_of g ≡ [] → Fetching old new c u k (latest cursor (g ∷ [])) (left - 1)
    fetching_more e = record {
      givens = s.givens ++ g ∷ [];
      asked = asked_more;
      none = its_answers ∙ e;
    }
