-- What the attempts so far came to.
use Rattle.std.proofs.Common.{◌≡◌, ℕ, ◌+◌, ◌-◌, ◌<◌, Bool, true, false, List, [], ◌∷◌, ◌++◌, length, refl, inl, inr}
use Rattle.std.proofs.Common.{Result, Ok, Err, length-append, zero-add, arith}
use Rattle.std.specs.List.{FoldsTo}
use Rattle.std.proofs.lemmas.Fn.{FoldsTo-push}
use Rattle.resp_pipeline.specs.Retried.{TriedAgain, Retried}

module _ {C T E G : Type 0} (attempts : C → C → Result T E → Type 0)
    (decides : G → E → Bool → G → Type 0) (budget : ℕ) (first : G) (old : C) where
  -- attempts were refused with errors to be tried again, and as many more may be
  pub record SoFar (left : ℕ) (again : G) (now : C) : Type 0 where
    pub errors : List E
    pub tried : FoldsTo (TriedAgain attempts decides) (first, old) errors (again, now)
    pub count : length errors + left ≡ budget

  pub none_yet : SoFar budget first old
  none_yet = record { errors = []; tried = refl; count = zero-add budget }

  pub one_more : (left : ℕ) (again : G) (now : C) (e : E) (after : G) (new : C)
      → SoFar left again now → 0 < left → attempts now new (Err e) → decides again e true after
      → SoFar (left - 1) after new
  one_more left again now e after new so_far some refused decided = record {
    errors = so_far.errors ++ (e ∷ []);
    tried = FoldsTo-push _ (first, old) so_far.errors (again, now) e (after, new) so_far.tried
        (record { refused = refused; again = decided });
    count = rw (length-append so_far.errors (e ∷ [])) (let h = so_far.count in omega arith);
  }

  pub answered : (left : ℕ) (again : G) (now new : C) (x : T) → SoFar left again now
      → attempts now new (Ok x) → Retried attempts decides budget first again old new (Ok x)
  answered left again now new x so_far last = record {
    errors = so_far.errors;
    between = (again, now);
    tried = so_far.tried;
    within = let h = so_far.count in omega arith;
    last = last;
    stops = refl;
  }

  pub used_up : (left : ℕ) (again : G) (now new : C) (e : E) → SoFar left again now → left ≡ 0
      → attempts now new (Err e) → Retried attempts decides budget first again old new (Err e)
  used_up left again now new e so_far none last = record {
    errors = so_far.errors;
    between = (again, now);
    tried = so_far.tried;
    within = let h = so_far.count in omega arith;
    last = last;
    stops = inl (let h = so_far.count in omega arith, refl);
  }

  pub stopped : (left : ℕ) (again : G) (now new : C) (e : E) (after : G) → SoFar left again now
      → 0 < left → attempts now new (Err e) → decides again e false after
      → Retried attempts decides budget first after old new (Err e)
  stopped left again now new e after so_far some last decided = record {
    errors = so_far.errors;
    between = (again, now);
    tried = so_far.tried;
    within = let h = so_far.count in omega arith;
    last = last;
    stops = inr (let h = so_far.count in omega arith, decided);
  }
