-- Lists of links that all work.
use Rattle.std.proofs.Common.{◌≡◌, ◌∙◌, sym, ap, arith, ℕ, ◌-◌, Bool, true, false, List, [], ◌∷◌, ◌++◌, length, refl, if◌then◌else◌}
use Rattle.std.proofs.Common.{append-nil, length-append, not}
use Rattle.std.specs.List.{All}
use Rattle.std.proofs.lemmas.List.Elements.{All-head, All-tail}
use Rattle.resp_command.specs.Connection.{Connection}
use Rattle.resp_connect.specs.Pools.{AllWork, IsPool}

module _ {L : Type 0} (of_link : L → Connection) where
  -- one more at the end
  pub all_and_last : (links : List L) (link : L) → AllWork of_link links → (of_link link).broken ≡ false
      → AllWork of_link (links ++ link ∷ [])
  all_and_last [] link all works = (works, tt)
  all_and_last (first ∷ links) link all works = (all.0, all_and_last links link all.1 works)

  -- without the one at the end
  pub before_last : (links : List L) (link : L) → AllWork of_link (links ++ link ∷ []) → AllWork of_link links
  before_last [] link all = tt
  before_last (first ∷ links) link all = (all.0, before_last links link all.1)

  pub last_works : (links : List L) (link : L) → AllWork of_link (links ++ link ∷ [])
      → (of_link link).broken ≡ false
  last_works [] link all = all.0
  last_works (first ∷ links) link all = last_works links link all.1

-- what is known of all is known of the one at the end
pub last_has : {L : Type 0} (Known : L → Type 0) (links : List L) (link : L) → All Known (links ++ link ∷ []) → Known link
last_has Known [] link all = All-head Known link [] all
last_has Known (first ∷ links) link all = last_has Known links link (All-tail Known first _ all)

-- a list from which nothing could be taken
pub no_elements : {L : Type 0} (links : List L) → length links ≡ 0 → links ≡ []
no_elements [] none = refl
no_elements (first ∷ links) none = cc

-- a link that is given back and kept, or for which there was no room
module _ {L : Type 0} (of_link : L → Connection) (links : List L) (link : L) (lent most : ℕ) where
  pub given_back : (kept : Bool) (new : List L) → new ≡ (if kept then links ++ link ∷ [] else links)
      → IsPool of_link links lent most → (lent ≡ 0 → ⊥) → (of_link link).broken ≡ false
      → IsPool of_link new (lent - 1) most
  given_back true new is pool some works = record {
    work = rw is (all_and_last of_link links link pool.work works);
    within = (let before = pool.within in let len = ap length is ∙ length-append links (link ∷ []) in
        omega (arith, before, len, some));
  }
  given_back false new is pool some works = record {
    work = rw is pool.work;
    within = (let before = pool.within in let len = ap length is in omega (arith, before, len));
  }

-- none waited, and none is taken
pub none_waited : {L : Type 0} (old new : List L) → old ≡ new ++ [] → length old ≡ 0 → (old ≡ []) × (new ≡ old)
none_waited old new is none = (no_elements old none, sym (is ∙ append-nil new))

pub is_false : (b : Bool) → not b ≡ true → b ≡ false
is_false false h = refl
is_false true h = cc
