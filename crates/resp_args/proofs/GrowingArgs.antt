-- Lists of arguments that grow at their end.
use Rattle.std.proofs.Common.{◌≡◌, ℕ, ◌+◌, List, [], ◌∷◌, ◌++◌, length, get_or, set, ◌<◌, suc, zero, ap, ◌∙◌}
use Rattle.std.proofs.Common.{append_assoc, refl, arith, Vec, Global, sym, subst, ⊎_elim, ◌⊎◌, inl, inr, append-nil}
use Rattle.std.proofs.Common.{length-append, map, Result, Ok, Err, OnOk, OnErr}
use Rattle.std.specs.Borrow.{Bor}
use Rattle.std.specs.Result.{IsErr, IsErrAnd}
use Rattle.std.proofs.lemmas.Bool.{cases_lt}
use Rattle.std.proofs.lemmas.List.Sorted.{IsPermutation-refl}
use Rattle.std.proofs.lemmas.List.{flat_map_more, get_or_append_left, map_push}
use Rattle.std.proofs.Math.Seq.{get_or-append_seam}
use Rattle.std.specs.List.{AllZip, Any}
use Rattle.resp_errors.specs.declared.redis_error.RedisError.{RedisError}
use Rattle.resp_args.specs.Args.{Args, args_of, extended, Appends, GivesEach, IsPrefix, IsRefusal, Writes, GivesBoth}
use Rattle.resp_args.specs.Args.{InSomeOrder, GivesInSomeOrder, Failure, FailsEach, FailsLast, FailsBoth}
use Rattle.resp_args.specs.Args.{FailsInSomeOrder}

AllZip-append : {A B : Type 0} (R : A → B → Type 0) (xs : List A) (ys : List B) (x : A) (y : B) → AllZip R xs ys → R x y
    → AllZip R (xs ++ x ∷ []) (ys ++ y ∷ [])
AllZip-append R [] [] x y h r = (r, tt)
AllZip-append R [] (z ∷ ys) x y h r = absurd h
AllZip-append R (z ∷ xs) [] x y h r = absurd h
AllZip-append R (z ∷ xs) (w ∷ ys) x y h r = (h.0, AllZip-append R xs ys x y h.1 r)

pub GivesEach-append : {X : Type 0} (Gives : X → Args → Type 0) (xs : List X) (x : X) (a b : Args)
    → GivesEach Gives xs a → Gives x b → GivesEach Gives (xs ++ x ∷ []) (a ++ b)
GivesEach-append Gives xs x a b each gives =
    record {
      lists = each.lists ++ b ∷ [];
      each = AllZip-append Gives xs each.lists x b each.each gives;
      joined = ap (λ c. c ++ b) each.joined ∙ flat_map_more (λ given. given) [] each.lists b;
    }

pub Appends-trans : (P Q R : Args → Type 0) (old mid new : Args) → Appends P old mid → Appends Q mid new
    → ((a b : Args) → P a → Q b → R (a ++ b)) → Appends R old new
Appends-trans P Q R old mid new first then both = (
  first.0 ++ then.0,
  then.1 ∙ (ap (λ c. c ++ then.0) first.1 ∙ append_assoc old first.0 then.0),
  both first.0 then.0
      first.2 then.2,
)

pub args_of-set_last : (vs : List (Vec ℕ Global)) (i : ℕ) (v d : Vec ℕ Global) (more : List ℕ) → i + 1 ≡ length vs
    → v.items ≡ (get_or vs i d).items ++ more → args_of (set vs i v) ≡ extended (args_of vs) more
args_of-set_last [] i v d more last e = absurd (omega arith)
args_of-set_last (u ∷ []) zero v d more last e = ap (λ b. b ∷ []) e
args_of-set_last (u ∷ []) (suc i) v d more last e = absurd (omega arith)
args_of-set_last (u ∷ w ∷ vs) zero v d more last e = absurd (omega arith)
args_of-set_last (u ∷ w ∷ vs) (suc i) v d more last e = ap (λ args. u.items ∷ args)
    (args_of-set_last (w ∷ vs) i v d more (omega arith) e)

pub args_of-set_same : (vs : List (Vec ℕ Global)) (i : ℕ) (v d : Vec ℕ Global) → i < length vs → v.items
    ≡ (get_or vs i d).items → args_of (set vs i v) ≡ args_of vs
args_of-set_same [] i v d inside e = absurd (omega arith)
args_of-set_same (u ∷ vs) zero v d inside e = ap (λ b. b ∷ args_of vs) e
args_of-set_same (u ∷ vs) (suc i) v d inside e = ap (λ args. u.items ∷ args) (args_of-set_same vs i v d (omega arith) e)

Any-last : {X : Type 0} (P : X → Type 0) (xs : List X) (x : X) → Any P (xs ++ x ∷ []) → Any P xs ⊎ P x
Any-last P xs x any =
    let k = any.0 in
    let y = any.1 in
    elim (cases_lt k (length xs)) [
      | inl inside ↦ inl (k, y, inside, sym (get_or_append_left xs (x ∷ []) y k inside) ∙ any.3, any.4)
      | inr past ↦
          let last : k ≡ length xs = omega (arith, length-append xs (x ∷ []), any.2, past) in
          inr (subst P (sym any.3 ∙ (ap (λ i. get_or (xs ++ x ∷ []) i y) last ∙ get_or-append_seam xs x [] y)) any.4)
    ]

Any-amid : {X : Type 0} (P : X → Type 0) (xs : List X) (x : X) (rest : List X) → P x → Any P (xs ++ x ∷ rest)
Any-amid P xs x rest p = (length xs, x, omega (arith, length-append xs (x ∷ rest)), get_or-append_seam xs x rest x, p)

-- some items are written, and the rest are not
pub record Progress {X : Type 0} (Gives : X → Args → Type 0) (Refuses : X → Type 0) (all rest : List X)
    (old new : Args) : Type 0 where
  pub done : List X
  pub split : all ≡ done ++ rest
  pub appended : Appends (GivesEach Gives done) old new
  pub taken : Any Refuses done → ⊥

pub progress_start : {X : Type 0} (Gives : X → Args → Type 0) (Refuses : X → Type 0) (all : List X) (old : Args)
    → Progress Gives Refuses all all old old
progress_start Gives Refuses all old = record {
  done = [];
  split = refl;
  appended = ([], sym (append-nil old), record { lists = []; each = tt; joined = refl });
  taken = λ any. absurd (omega (arith, any.2));
}

-- one item more that an iterator gave and that isn't written yet
pub progress_more : {X : Type 0} (Gives : X → Args → Type 0) (Refuses : X → Type 0) (given : List (Bor X))
    (item : Bor X) (old new : Args) → Progress Gives Refuses (map (λ x. x.now) given) [] old new
    → Progress Gives Refuses (map (λ x. x.now) (given ++ item ∷ [])) (item.now ∷ []) old new
progress_more Gives Refuses given item old new p = record {
  done = p.done;
  split = map_push (λ x. x.now) given item ∙ ap (λ items. items ++ item.now ∷ []) (p.split ∙ append-nil p.done);
  appended = p.appended;
  taken = p.taken;
}

pub progress_step : {X : Type 0} (Gives : X → Args → Type 0) (Refuses : X → Type 0) (all : List X) (x : X)
    (rest : List X) (old mid new : Args) → Progress Gives Refuses all (x ∷ rest) old mid → Appends (Gives x) mid new
    → (Refuses x → ⊥) → Progress Gives Refuses all rest old new
progress_step Gives Refuses all x rest old mid new p appends taken = record {
  done = p.done ++ x ∷ [];
  split = p.split ∙ sym (append_assoc p.done (x ∷ []) rest);
  appended = Appends-trans (GivesEach Gives p.done) (Gives x) (GivesEach Gives (p.done ++ x ∷ [])) old mid new
      p.appended appends (λ a b before now. GivesEach-append Gives p.done x a b before now);
  taken = λ any. ⊎_elim p.taken taken (Any-last Refuses p.done x any);
}

pub progress_end : {X : Type 0} (Gives : X → Args → Type 0) (Refuses : X → Type 0) (all : List X) (old new : Args)
    → Progress Gives Refuses all [] old new → Appends (GivesEach Gives all) old new × (Any Refuses all → ⊥)
progress_end Gives Refuses all old new p =
    let e : all ≡ p.done = p.split ∙ append-nil p.done in (
      subst (λ items. Appends (GivesEach Gives items) old new) (sym e) p.appended,
      λ any. p.taken
          (subst (Any Refuses) e any),
    )

pub progress_fails : {X : Type 0} (Gives : X → Args → Type 0) (Refuses : X → Type 0) (all : List X) (x : X)
    (rest : List X) (old mid new : Args) (r : Result (Unit {0}) RedisError) (e : RedisError)
    → Progress Gives Refuses all (x ∷ rest) old mid → IsPrefix mid new × IsRefusal (Refuses x) e → IsErr r
    × IsErrAnd r (λ d. d ≡ e) → Writes (GivesEach Gives all) (Any Refuses all) old new r
progress_fails Gives Refuses all x rest old mid new (Ok y) e p fails is = absurd (cc (is.0))
progress_fails Gives Refuses all x rest old mid new (Err d) e p fails is =
    let prefix = fails.0 in (
      (
        p.appended.0 ++ prefix.0,
        prefix.1 ∙
            (ap (λ c. c ++ prefix.0) p.appended.1 ∙ append_assoc old p.appended.0 prefix.0),
      ),
      subst (IsRefusal (Any Refuses all)) (sym is.1)
          (⊎_elim (λ memory. inl memory)
          (λ refused. inr (refused.0, subst (Any Refuses) (sym p.split) (Any-amid Refuses p.done x rest refused.1)))
          fails.1),
    )

pub progress_failed : {X : Type 0} (Gives : X → Args → Type 0) (Refuses : X → Type 0) (Fails : X → Failure)
    (all : List X) (x : X) (rest : List X) (old mid new : Args) (r : Result (Unit {0}) RedisError) (e : RedisError)
    → Progress Gives Refuses all (x ∷ rest) old mid → IsPrefix mid new × IsRefusal (Refuses x) e
    → Fails x mid new (Err e) → IsErr r × IsErrAnd r (λ d. d ≡ e) → FailsEach Gives Refuses Fails all old new r
progress_failed Gives Refuses Fails all x rest old mid new (Ok y) e p written failed is = tt
progress_failed Gives Refuses Fails all x rest old mid new (Err d) e p written failed is =
    record {
      before = p.done;
      item = x;
      after = rest;
      in_order = p.split;
      taken = p.taken;
      reached = mid;
      whole =
          p.appended;
      prefix = written.0;
      refusal = subst (IsRefusal (Refuses x)) (sym is.1) written.1;
      failed = subst
          (λ d. Fails x mid new (Err d)) (sym is.1) failed;
    }

pub progress_failed_last : {X : Type 0} (Gives : X → Args → Type 0) (Refuses : X → Type 0) (Fails : X → Failure)
    (all : List X) (x : X) (old mid new : Args) (r : Result (Unit {0}) RedisError) (e : RedisError)
    → Progress Gives Refuses all (x ∷ []) old mid → IsPrefix mid new × IsRefusal (Refuses x) e → Fails x mid new (Err e)
    → IsErr r × IsErrAnd r (λ d. d ≡ e) → FailsLast Gives Refuses Fails all old new r
unfolding progress_failed
progress_failed_last Gives Refuses Fails all x old mid new (Ok y) e p written failed is = tt
progress_failed_last Gives Refuses Fails all x old mid new (Err d) e p written failed is =
    (progress_failed Gives Refuses Fails all x [] old mid new (Err d) e p written failed is, refl)

-- the order in which the items stand is one of them
standing : {X : Type 0} (items : List X) (P : List X → Type 0) → P items → InSomeOrder items P
standing items P holds = record { order = items; permuted = IsPermutation-refl items; holds = holds }

pub in_some_order : {X : Type 0} (Gives : X → Args → Type 0) (items : List X) (Refused : Type 0) (old new : Args)
    (r : Result (Unit {0}) RedisError) → Writes (GivesEach Gives items) Refused old new r
    → Writes (GivesInSomeOrder Gives items) Refused old new r
in_some_order Gives items Refused old new (Ok x) written =
    ((written.0.0, written.0.1, standing items (λ order. GivesEach Gives order written.0.0) written.0.2), written.1)
in_some_order Gives items Refused old new (Err e) written = written

-- one value was written, and then another
pub writes_both : (P Q : Args → Type 0) (R S : Type 0) (old mid new : Args) (r : Result (Unit {0}) RedisError)
    → Appends P old mid × (R → ⊥) → Writes Q S mid new r → Writes (GivesBoth P Q) (R ⊎ S) old new r
writes_both P Q R S old mid new (Ok x) first second = (
  Appends-trans P Q (GivesBoth P Q) old mid new first.0 second.0
      (λ a b p q. record { before = a; after = b; first = p; second = q; joined = refl }),
  λ refused. ⊎_elim first.1
      second.1 refused,
)
writes_both P Q R S old mid new (Err e) first second =
    let more = first.0.0 in
    let prefix = second.0 in (
      (more ++ prefix.0, prefix.1 ∙ (ap (λ c. c ++ prefix.0) first.0.1 ∙ append_assoc old more prefix.0)),
      ⊎_elim (λ memory. inl memory) (λ refused. inr (refused.0, inr refused.1)) second.1,
    )

-- the first of two values fails
pub fails_first : (P : Args → Type 0) (F G : Failure) (old new : Args) (r : Result (Unit {0}) RedisError)
    (e : RedisError) → F old new (Err e) → IsErr r × IsErrAnd r (λ d. d ≡ e) → FailsBoth P F G old new r
fails_first P F G old new (Ok x) e failed is = tt
fails_first P F G old new (Err d) e failed is = inl (subst (λ d. F old new (Err d)) (sym is.1) failed)

-- the second of two values fails, where it fails
pub fails_second : (P Q : Args → Type 0) (S : Type 0) (F G : Failure) (old mid new : Args)
    (r : Result (Unit {0}) RedisError) → Appends P old mid → Writes Q S mid new r → G mid new r
    → FailsBoth P F G old new r
fails_second P Q S F G old mid new (Ok x) first second failed = tt
fails_second P Q S F G old mid new (Err e) first second failed = inr
    (record { reached = mid; whole = first; prefix = second.0; failed = failed })

pub failed_in_some_order : {X : Type 0} (Gives : X → Args → Type 0) (Refuses : X → Type 0) (Fails : X → Failure)
    (items : List X) (old new : Args) (r : Result (Unit {0}) RedisError) → FailsEach Gives Refuses Fails items old new r
    → FailsInSomeOrder Gives Refuses Fails items old new r
failed_in_some_order Gives Refuses Fails items old new (Ok x) failed = tt
failed_in_some_order Gives Refuses Fails items old new (Err e) failed = standing items _ failed

length-extended : (args : Args) (more : List ℕ) → length (extended args more) ≡ length args
length-extended [] more = refl
length-extended (arg ∷ []) more = refl
length-extended (arg ∷ next ∷ args) more = ap suc (length-extended (next ∷ args) more)

-- an argument that is open stays so
pub still_there : (old new : Args) (more : List ℕ) (r : Result (Unit {0}) RedisError) → OnOk r (new ≡ extended old more)
    → OnErr r (new ≡ old) → 0 < length old → 0 < length new
still_there old new more (Ok x) ok err there = subst (λ args. 0 < length args) (sym ok)
    (subst (λ n. 0 < n) (sym (length-extended old more)) there)
still_there old new more (Err e) ok err there = subst (λ args. 0 < length args) (sym err) there
