-- Calls of `next`, joined.
use Rattle.std.proofs.Common.{◌≡◌, ◌≢◌, ℕ, ◌+◌, ◌⊎◌, inl, inr, List, [], ◌∷◌, ◌++◌, length, length-append, refl, sym}
use Rattle.std.proofs.Common.{ap, ◌∙◌, arith, Result, Err, Option, Some, None}
use Rattle.std.proofs.lemmas.List.{append-nil}
use Rattle.resp_errors.specs.declared.redis_error.RedisError.{RedisError}
use Rattle.resp_value.specs.declared.value.Value.{Value}
use Rattle.resp_command.specs.Connection.{Connection}
use Rattle.resp_command.specs.ScanReplies.{Given, answers_in, latest}
use Rattle.resp_command.specs.Scans.{ScanState, Requests, Fits, Next, budget_used_up}
use Rattle.resp_command.specs.Scans.Next.{ended, waited, asked, done, used_up}
use Rattle.resp_command.specs.ScanLaw.{Calls, WholeScan, LawOfScans}
use Rattle.resp_command.proofs.ScanRequests.{latest_append, answers_append, requests_append, fits_append}

module _ {X : Type 0} (n : ℕ) (Of : Value → X → Type 0) where
  abbrev Answers : Type 0
  Answers = List (Result X RedisError)

  -- a scan that has ended answers nothing
  ended_next : (old new : Connection) (s t : ScanState X) (a : Option (Result X RedisError)) → s.budget ≡ None
      → s.waiting ≡ [] → Next n Of old new s a t → (a ≡ None) × (new ≡ old) × (t ≡ s)
  ended_next old new s t a b w (ended e1 e2 e3 e4 e5) = (e3, e5, e4)
  ended_next old new s t a b w (waited x e1 e2 e3 e4) = absurd (let f = sym w ∙ e1 in cc)
  ended_next old new s t a b w (asked k left gs x e1 e2 h e3 e4 e5) = absurd (let f = sym b ∙ e1 in cc)
  ended_next old new s t a b w (done k left gs e1 e2 h e3 e4 e5) = absurd (let f = sym b ∙ e1 in cc)
  ended_next old new s t a b w (used_up k gs e1 e2 h e3 e4 e5 e6) = absurd (let f = sym b ∙ e1 in cc)

  -- nor does one whose cursor is 0
  none_fit : (gs : List (Given X)) → Fits n Of 0 gs → gs ≡ []
  none_fit [] h = refl
  none_fit (g ∷ gs) h = absurd (h 0 (omega arith) refl)

  finished_next : (old new : Connection) (s t : ScanState X) (a : Option (Result X RedisError)) → s.cursor ≡ 0
      → s.waiting ≡ [] → Next n Of old new s a t → (a ≡ None) × (new ≡ old) × (t ≡ s)
  finished_next old new s t a z w (ended e1 e2 e3 e4 e5) = (e3, e5, e4)
  finished_next old new s t a z w (waited x e1 e2 e3 e4) = absurd (let f = sym w ∙ e1 in cc)
  finished_next old new s t a z w (asked k left gs x e1 e2 h e3 e4 e5) =
      let none : gs ≡ [] = none_fit gs (rw z at h.fits) in
      absurd (let f = sym (ap answers_in none) ∙ e3 in cc)
  finished_next old new s t a z w (done k left gs e1 e2 h e3 e4 e5) =
      let none : gs ≡ [] = none_fit gs (rw z at h.fits) in
      let same : new ≡ old = rw none at h.requests in
      let kept : left ≡ k = omega (arith, h.budget, ap length none) in
      (e4, same, e5 ∙ rw (kept, ← e1, ← e2, ← z) refl)
  finished_next old new s t a z w (used_up k gs e1 e2 h e3 e4 e5 e6) =
      let none : gs ≡ [] = none_fit gs (rw z at h.fits) in
      absurd (e4 (h.latest_is ∙ ap (latest s.cursor) none ∙ z))

  -- what calls did so far
  record Going (old new : Connection) (s t : ScanState X) (k : ℕ) (answers : Answers) : Type 0 where
    pub givens : List (Given X)
    pub requests : Requests n Of old new s.command s.cursor givens
    pub fits : Fits n Of s.cursor givens
    pub command : t.command ≡ s.command
    pub left : ℕ
    pub budget : t.budget ≡ Some left
    pub spent : length givens + left ≡ k
    pub latest_is : t.cursor ≡ latest s.cursor givens
    pub answered : s.waiting ++ answers_in givens ≡ answers ++ t.waiting

  record Over (old new : Connection) (s t : ScanState X) (k : ℕ) (answers : Answers) : Type 0 where
    pub givens : List (Given X)
    pub requests : Requests n Of old new s.command s.cursor givens
    pub fits : Fits n Of s.cursor givens
    pub budget : t.budget ≡ None
    pub waiting : t.waiting ≡ []
    pub spent : length givens ≡ k
    pub latest_is : latest s.cursor givens ≢ 0
    pub answered : answers ≡ (s.waiting ++ answers_in givens) ++ Err budget_used_up ∷ []

  no_calls : (old new : Connection) (s t : ScanState X) (answers : Answers) → s.budget ≡ None → s.waiting ≡ []
      → Calls n Of old new s answers t → (answers ≡ []) × (new ≡ old) × (t ≡ s)
  no_calls old new s t [] b w h = (refl, h.0, h.1)
  no_calls old new s t (x ∷ answers) b w h = absurd (let f = (ended_next old h.0 s h.1 (Some x) b w h.2).0 in cc)

  -- one call, and then those that follow
  step : (old mid new : Connection) (s r t : ScanState X) (k : ℕ) (x : Result X RedisError) (answers : Answers)
      → s.budget ≡ Some k → Next n Of old mid s (Some x) r → Calls n Of mid new r answers t
      → ((j : ℕ) → r.budget ≡ Some j → Going mid new r t j answers ⊎ Over mid new r t j answers)
      → Going old new s t k (x ∷ answers) ⊎ Over old new s t k (x ∷ answers)
  step old mid new s r t k x answers b (ended e1 e2 e3 e4 e5) more go = absurd (let f = e3 in cc)
  step old mid new s r t k x answers b (done k' left gs e1 e2 a e3 e4 e5) more go = absurd (let f = e4 in cc)
  step old mid new s r t k x answers b (waited y e1 e2 e3 e4) more go = after_waiting (go k (ap (λ q. q.budget) e3 ∙ b))
    where
      same : y ≡ x
      same = let f = e2 in cc

      after_waiting : Going mid new r t k answers ⊎ Over mid new r t k answers → Going old new s t k (x ∷ answers)
          ⊎ Over old new s t k (x ∷ answers)
      after_waiting (inl p) = inl (record {
        givens = p.givens;
        requests = rw (← e4, ← ap (λ q. q.command) e3, ← ap (λ q. q.cursor) e3) p.requests;
        fits = rw (← ap (λ q. q.cursor) e3) p.fits;
        command = p.command ∙ ap (λ q. q.command) e3;
        left = p.left;
        budget = p.budget;
        spent = p.spent;
        latest_is = p.latest_is ∙ ap (λ q. latest q.cursor p.givens) e3;
        answered = rw (e1, same) (ap (λ l. x ∷ l) p.answered);
      })
      after_waiting (inr p) = inr (record {
        givens = p.givens;
        requests = rw (← e4, ← ap (λ q. q.command) e3, ← ap (λ q. q.cursor) e3) p.requests;
        fits = rw (← ap (λ q. q.cursor) e3) p.fits;
        budget = p.budget;
        waiting = p.waiting;
        spent = p.spent;
        latest_is = rw (← ap (λ q. q.cursor) e3) p.latest_is;
        answered = rw (e1, same) (ap (λ l. x ∷ l) p.answered);
      })
  step old mid new s r t k x answers b (asked k' left gs y e1 e2 a e3 e4 e5) more go = after_asking
      (go left (ap (λ q. q.budget) e5))
    where
      same : y ≡ x
      same = let f = e4 in cc

      known : k' ≡ k
      known = let f = sym e1 ∙ b in cc

      command_is : r.command ≡ s.command
      command_is = ap (λ q. q.command) e5

      all : (hs : List (Given X)) → answers_in (gs ++ hs) ≡ x ∷ (r.waiting ++ answers_in hs)
      all hs = answers_append gs hs ∙ rw (e3, same) refl

      requests_are : (hs : List (Given X)) → Requests n Of mid new r.command r.cursor hs
          → Requests n Of old new s.command s.cursor (gs ++ hs)
      requests_are hs q = requests_append n Of old mid new s.command s.cursor gs hs a.requests
          (rw (← command_is, ← a.latest_is) q)

      fits_are : (hs : List (Given X)) → Fits n Of r.cursor hs → Fits n Of s.cursor (gs ++ hs)
      fits_are hs q = fits_append n Of s.cursor gs hs a.fits (rw (← a.latest_is) q)

      latest_are : (hs : List (Given X)) → latest s.cursor (gs ++ hs) ≡ latest r.cursor hs
      latest_are hs = latest_append s.cursor gs hs ∙ ap (λ v. latest v hs) (sym a.latest_is)

      after_asking : Going mid new r t left answers ⊎ Over mid new r t left answers → Going old new s t k (x ∷ answers)
          ⊎ Over old new s t k (x ∷ answers)
      after_asking (inl p) = inl (record {
        givens = gs ++ p.givens;
        requests = requests_are p.givens p.requests;
        fits = fits_are p.givens p.fits;
        command = p.command ∙ command_is;
        left = p.left;
        budget = p.budget;
        spent = omega (arith, p.spent, a.budget, known, length-append gs p.givens);
        latest_is = p.latest_is ∙ sym (latest_are p.givens);
        answered = rw e2 (all p.givens ∙ ap (λ l. x ∷ l) p.answered);
      })
      after_asking (inr p) = inr (record {
        givens = gs ++ p.givens;
        requests = requests_are p.givens p.requests;
        fits = fits_are p.givens p.fits;
        budget = p.budget;
        waiting = p.waiting;
        spent = omega (arith, p.spent, a.budget, known, length-append gs p.givens);
        latest_is = rw (latest_are p.givens) p.latest_is;
        answered = rw (e2, all p.givens) (ap (λ l. x ∷ l) p.answered);
      })
  step old mid new s r t k x answers b (used_up k' gs e1 e2 a e3 e4 e5 e6) more go =
      let known : k' ≡ k = (let f = sym e1 ∙ b in cc) in
      let rest = no_calls mid new r t answers (ap (λ q. q.budget) e6) (ap (λ q. q.waiting) e6) more in
      let is : x ≡ Err budget_used_up = (let f = e5 in cc) in
      inr (record {
        givens = gs;
        requests = rw rest.1 a.requests;
        fits = a.fits;
        budget = ap (λ q. q.budget) (rest.2 ∙ e6);
        waiting = ap (λ q. q.waiting) (rest.2 ∙ e6);
        spent = omega (arith, a.budget, known);
        latest_is = rw (← a.latest_is) e4;
        answered = rw (rest.0, is, e2, e3) refl;
      })

  joined : (old new : Connection) (s t : ScanState X) (k : ℕ) (answers : Answers) → s.budget ≡ Some k
      → Calls n Of old new s answers t → Going old new s t k answers ⊎ Over old new s t k answers
  joined old new s t k [] b h = inl (record {
    givens = [];
    requests = h.0;
    fits = λ i l. absurd (omega (arith, l));
    command = ap (λ r. r.command) h.1;
    left = k;
    budget = ap (λ r. r.budget) h.1 ∙ b;
    spent = omega arith;
    latest_is = ap (λ r. r.cursor) h.1;
    answered = append-nil s.waiting ∙ ap (λ r. r.waiting) (sym h.1);
  })
  joined old new s t k (x ∷ answers) b h = step old h.0 new s h.1 t k x answers b h.2 h.3
      (λ j c. joined h.0 new h.1 t j answers c h.3)

  pub law_of_scans : LawOfScans n Of
  law_of_scans old mid new s t u k answers b h last = whole (joined old mid s t k answers b h)
    where
      Later : Type 0
      Later = (later : Connection) (answer : Option (Result X RedisError)) (v : ScanState X)
          → Next n Of new later u answer v → (answer ≡ None) × (later ≡ new) × (v ≡ u)

      whole : Going old mid s t k answers ⊎ Over old mid s t k answers → WholeScan n Of old new s k answers × Later
      whole (inr p) =
          let rest = ended_next mid new t u None p.budget p.waiting last in (
            record {
              givens = p.givens;
              requests = rw rest.1 p.requests;
              fits = p.fits;
              within = omega (arith, p.spent);
              answered = inr (p.answered, p.latest_is, p.spent);
            },
            λ later a v next. ended_next new later u v a (ap (λ q. q.budget) rest.2 ∙ p.budget)
                (ap (λ q. q.waiting) rest.2 ∙ p.waiting) next,
          )
      whole (inl p) = at last
        where
          at : Next n Of mid new t None u → WholeScan n Of old new s k answers × Later
          at (ended e1 e2 e3 e4 e5) = absurd (let f = sym e1 ∙ p.budget in cc)
          at (waited x e1 e2 e3 e4) = absurd (let f = e2 in cc)
          at (asked k' left gs x e1 e2 a e3 e4 e5) = absurd (let f = e4 in cc)
          at (used_up k' gs e1 e2 a e3 e4 e5 e6) = absurd (let f = e5 in cc)
          at (done k' left gs e1 e2 a e3 e4 e5) =
              let known : k' ≡ p.left = (let f = sym e1 ∙ p.budget in cc) in (
                record {
                  givens = p.givens ++ gs;
                  requests = requests_append n Of old mid new s.command s.cursor p.givens gs p.requests
                      (rw (← p.command, ← p.latest_is) a.requests);
                  fits = fits_append n Of s.cursor p.givens gs p.fits (rw (← p.latest_is) a.fits);
                  within = omega (arith, p.spent, a.budget, known, length-append p.givens gs);
                  answered = inl (
                    (let f = p.answered in rw (answers_append p.givens gs, e3, append-nil (answers_in p.givens), f, e2)
                        (sym (append-nil answers))),
                    latest_append s.cursor p.givens gs ∙ ap (λ v. latest v gs) (sym p.latest_is) ∙ sym a.latest_is,
                  );
                },
                λ later x v next. finished_next new later u v x (ap (λ q. q.cursor) e5) (ap (λ q. q.waiting) e5) next,
              )
