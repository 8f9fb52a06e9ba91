-- Replies that are taken one after another, and what is made of them.
use Rattle.std.proofs.Common.{◌≡◌, List, [], ◌∷◌, ◌++◌, sym, ◌∙◌, append_assoc, Some, None, refl, ap, subst}
use Rattle.std.proofs.lemmas.List.{append-nil}
use Rattle.resp_from.specs.Replies.{GivesNext}

-- what is made of those that were taken, and what shows the others
pub record AtSome {V : Type 0} (Left Made : List V → Type 0) (all : List V) : Type 0 where
  pub done : List V
  pub others : List V
  pub whole : all ≡ done ++ others
  pub left : Left others
  pub made : Made done

pub record Next {R V : Type 0} (Shows : R → V → Type 0) (Left : List V → Type 0) (r : R) (done all : List V) : Type 0
  where
    pub value : V
    pub others : List V
    pub whole : all ≡ done ++ (value ∷ others)
    pub shown : Shows r value
    pub left : Left others

module _ {R V : Type 0} (Shows : R → V → Type 0) (Left : List V → Type 0) where
  pub next : (r : R) (done others all : List V) → all ≡ done ++ others → GivesNext Shows Left (Some r) others
      → Next Shows Left r done all
  next r done [] all whole given = absurd given
  next r done (v ∷ vs) all whole given = record {
    value = v;
    others = vs;
    whole = whole;
    shown = given.0;
    left = given.1;
  }

  no-more : (others : List V) → GivesNext {R = R} Shows Left None others → others ≡ []
  no-more [] given = refl
  no-more (v ∷ vs) given = absurd given

  -- nothing is left: of all was made
  pub all_done : (Before Made : List V → Type 0) (all : List V) (h : AtSome Before Made all)
      → GivesNext {R = R} Shows Left None h.others → Made all
  all_done Before Made all h given =
      let whole : all ≡ h.done = h.whole ∙ (ap (λ vs. h.done ++ vs) (no-more h.others given) ∙ append-nil h.done) in
      subst Made (sym whole) h.made

  pub at_next : (Before Made Grown : List V → Type 0) (r : R) (all : List V) (h : AtSome Before Made all)
      → GivesNext Shows Left (Some r) h.others
      → ((done : List V) (v : V) → Made done → Shows r v → Grown (done ++ v ∷ [])) → AtSome Left Grown all
  at_next Before Made Grown r all h given grows =
      let n = next r h.done h.others all h.whole given in
      record {
        done = h.done ++ n.value ∷ [];
        others = n.others;
        whole = n.whole ∙ sym (append_assoc h.done (n.value ∷ []) n.others);
        left = n.left;
        made = grows h.done n.value h.made n.shown;
      }

-- before the first
pub at_first : {V : Type 0} (Left Made : List V → Type 0) (all : List V) → Left all → Made [] → AtSome Left Made all
at_first Left Made all left made = record { done = []; others = all; whole = refl; left = left; made = made }
