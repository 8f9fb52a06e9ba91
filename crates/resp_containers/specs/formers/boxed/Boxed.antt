-- How `Boxed` stores its value, so that a recursive type may refer to itself through it: it does so
-- as the `Box` inside does.
use mathlib.Core.Path.{refl}
use mathlib.Core.Former.{Former, this, const, pair, via}
use base.Stored.{gnil}
use base.Fml.{ftrue}
use denote.RattleType.{RattleType}
use denote.Memory.{part_of}
use denote.RawPtr.{Ptr}
use denote.Sharing.{nothing}
use denote.HoleLaws.{Alike}
use denote.HolePlaces.{Recodes, struct_places, laid, one_value}
use denote.Hole.Fix.{over}
use denote.Param.Weighed.{Weighed}
use denote.Model.Placed.{view_places}
use Rattle.std.specs.declared.boxed.Box.{Box}
use Rattle.std.specs.contracts.boxed.Box as box
use Rattle.std.specs.declared.alloc.Global.{Global}
use Rattle.std.specs.contracts.alloc.Global as global
use Rattle.std.specs.contracts.impls.GlobalAllocator.TheImpl.{ghosts}
use Rattle.resp_containers.specs.declared.boxed.Boxed.TheInside.{Inside}
use Rattle.resp_containers.specs.declared.boxed.Boxed.TheView.{view, invariant}
use Rattle.resp_containers.specs.contracts.boxed.Boxed as boxed
use Rattle.resp_containers.specs.contracts.boxed.Boxed.TheInside as inside

abbrev pub the_former : Former {0} → Former {0}
the_former inner = inner

abbrev pub the_weighed : {inner : Former {0}} → Weighed inner → Weighed (the_former inner)
the_weighed weighed = weighed

-- the one field, a `Box`: its address and allocator, and its value
abbrev stored : Former {0}
stored = via (pair (const (Ptr × Global)) this) Inside
    (λ X b. ((b.inner.ptr, b.inner.alloc), b.inner.value))
    (λ X v. record { inner = record { ptr = v.0.0; alloc = v.0.1; value = v.1 } })
    (λ X b. refl) (λ X v. refl)

-- the same box with another value
abbrev holding : {X Y : Type 0} → Box X Global → Y → Box Y Global
holding b y = record { ptr = b.ptr; alloc = b.alloc; value = y }

abbrev box_row : RattleType → RattleType
box_row R = box.the_row R global.the_row ghosts

module _ (R S : RattleType) (along : R.Denot → S.Denot) where
  box_places : Alike R S along → Alike (box_row R) (box_row S) (λ b. holding b (along b.value))
  unfolding part_of
  box_places alike = record {
    mir_same = λ i.
        (box_row (one_value R (alike.mir_same i) (λ _. ftrue) (λ _ _. nothing) gnil)).mir;
    own_same = λ b i.
        (box_row (one_value R (alike.mir_same i) (alike.own_same b.value i)
        (alike.shr_same b.value i) gnil)).own_val (holding b tt);
    shr_same = λ b i.
        (box_row (one_value R (alike.mir_same i) (alike.own_same b.value i)
        (alike.shr_same b.value i) gnil)).shr_at (holding b tt);
  }

  pub the_places : Alike R S along
      → Alike (boxed.the_row R) (boxed.the_row S) ((the_former this).map R.Denot S.Denot along)
  the_places alike = view_places stored this view (λ X Y k b. refl) (λ X b. refl)
      R.Denot S.Denot along (boxed.the_row R).coded (boxed.the_row S).coded
      (invariant R.Denot) (invariant S.Denot)
      (λ b p q. refl) (λ b p q. refl) (λ b p. tt) (λ b p. tt)
      (over (inside.the_row R)) (over (inside.the_row S))
      (struct_places (inside.the_type R) (inside.the_type S)
      ((λ b. holding b (along b.value)), tt) _ (λ b. refl) refl
      (laid _ _ _ (box_places alike), tt))

  pub the_codes_placed : Recodes R S along
      → Recodes (boxed.the_row R) (boxed.the_row S) ((the_former this).map R.Denot S.Denot along)
  the_codes_placed recodes value = recodes value
