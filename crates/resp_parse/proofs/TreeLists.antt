-- The elements of open aggregates in a tree.
use Rattle.std.proofs.Common.{◌≡◌, List, [], ◌∷◌, ◌++◌, refl}
use Rattle.resp_value.specs.declared.value.Value.{Value}
use Rattle.resp_parse.specs.declared.elements.Elements.{Elements}
use Rattle.resp_parse.specs.declared.elements.Elements.TheVariants.{Values}
use Rattle.resp_parse.specs.declared.open_aggregates.OpenAggregate.{OpenAggregate}
use Rattle.resp_parse.specs.declared.shape.ElementsKind.{ElementsKind}
use Rattle.resp_parse.specs.declared.shape.ElementsKind.TheVariants as elements_kind
use Rattle.resp_parse.specs.KeptElements.{kept_as}
use Rattle.resp_parse.specs.TreeBuilders.{elements_of, HoldsElements, HoldsWhole}

-- one more is opened inside them
pub opened-lists : (outer : List Elements) (elements : Elements) (fs : List OpenAggregate)
    → HoldsElements outer elements fs → outer ++ (elements ∷ []) ≡ Values [] ∷ elements_of fs
opened-lists outer elements [] h = rw (h.0, h.1) refl
opened-lists outer elements (f ∷ fs) h = rw (h.0, h.1) refl

-- a value stands after them
pub appended : (outer : List Elements) (elements after : Elements) (fs : List OpenAggregate) (v : Value)
    → ((kind : ElementsKind) (vs : List Value) → elements ≡ kept_as kind vs → after ≡ kept_as kind (vs ++ v ∷ []))
    → HoldsElements outer elements fs → HoldsWhole outer after fs v
appended outer elements after [] v k h = (h.0, k elements_kind.Array [] h.1)
appended outer elements after (f ∷ fs) v k h = (h.0, k f.kind f.seen h.1)
