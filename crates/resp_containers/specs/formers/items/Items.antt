-- How `Items` stores its elements, so that a recursive type may refer to itself through it: it does
-- so as the `Vec` inside does.
use mathlib.Core.Path.{◌≡◌, refl, sym}
use mathlib.Core.List.{List, []}
use mathlib.Core.Former.{Former, this, list, via, children}
use base.Stored.{code_map}
use denote.RattleType.{RattleType}
use denote.HoleLaws.{Alike}
use denote.HolePlaces.{Recodes, struct_places, laid}
use denote.Hole.Carrier.{listed, list-listed}
use denote.Hole.Fix.{over}
use denote.Param.Weighed.{Weighed, w_list}
use denote.Model.Placed.{view_places}
use Rattle.std.specs.formers.vec.Vec as vec
use Rattle.std.specs.declared.alloc.Global.{Global}
use Rattle.std.specs.contracts.alloc.Global as global
use Rattle.std.specs.contracts.impls.GlobalAllocator.TheImpl.{ghosts}
use Rattle.resp_containers.specs.declared.items.Items.TheInside.{Inside}
use Rattle.resp_containers.specs.declared.items.Items.TheView.{view, invariant}
use Rattle.resp_containers.specs.contracts.items.Items as items
use Rattle.resp_containers.specs.contracts.items.Items.TheInside as inside

abbrev pub the_former : Former {0} → Former {0}
the_former inner = list inner

abbrev pub the_weighed : {inner : Former {0}} → Weighed inner → Weighed (the_former inner)
the_weighed weighed = w_list weighed

pub the_empty : List ⊥
the_empty = []

abbrev pub the_items : (X : Type 0) → List X → List X
the_items X elements = elements

pub the_items_listed : (X : Type 0) (elements : List X)
    → listed _ (children (the_former this) X elements) ≡ the_items X elements
the_items_listed X elements = list-listed X elements

-- the one field, a `Vec`
abbrev stored : Former {0}
stored = via (vec.the_former this Global) Inside (λ X it. it.items) (λ X v. record { items = v })
    (λ X it. refl) (λ X v. refl)

module _ (R S : RattleType) (along : R.Denot → S.Denot) where
  pub the_places : Alike R S along
      → Alike (items.the_row R) (items.the_row S) ((the_former this).map R.Denot S.Denot along)
  the_places alike = view_places stored (list this) view (λ X Y k it. refl) (λ X it. refl)
      R.Denot S.Denot along (items.the_row R).coded (items.the_row S).coded
      (invariant R.Denot) (invariant S.Denot)
      (λ it p q. refl) (λ it p q. refl) (λ it p. tt) (λ it p. tt)
      (over (inside.the_row R)) (over (inside.the_row S))
      (struct_places (inside.the_type R) (inside.the_type S)
      (vec.mapped along, tt) _ (λ it. refl) refl
      (laid _ _ _ (vec.the_places global.the_row ghosts R S along alike), tt))

  pub the_codes_placed : Recodes R S along
      → Recodes (items.the_row R) (items.the_row S) ((the_former this).map R.Denot S.Denot along)
  the_codes_placed recodes elements =
      sym (code_map R.coded.code S.coded.code along (λ x. sym (recodes x)) elements)
