-- What the iterators over pairs have left.
use Rattle.std.specs.Prelude.{List}
use Rattle.std.specs.Borrow.{Bor}
use Rattle.resp_value.specs.declared.value.Value.{Value}
use Rattle.resp_value.specs.declared.map_iter.MapIter.{MapIter}
use Rattle.resp_value.specs.declared.map_iter.OwnedMapIter.{OwnedMapIter}
use Rattle.resp_value.specs.declared.map_iter.Rest.{Rest}
use Rattle.resp_value.specs.declared.map_iter.Rest.TheVariants.{Entries, Elements}
use Rattle.std.specs.Vec.Iter.{into_iter_items}
use Rattle.resp_value.specs.declared.map_iter.OwnedRest.{OwnedRest}
use Rattle.resp_value.specs.declared.map_iter.OwnedRest.TheVariants as owned
use Rattle.resp_value.specs.Views.{pairs}

abbrev rest_of : Rest → List (Value × Value)
rest_of (Entries entries) = entries.now
rest_of (Elements elements) = pairs elements.now

-- the pairs that are left
abbrev pub pairs_left : MapIter → List (Value × Value)
pairs_left it = rest_of it.rest

-- the values that a borrowed pair refers to
abbrev pub referents : Bor Value × Bor Value → Value × Value
referents pair = (pair.0.now, pair.1.now)

abbrev owned_rest_of : OwnedRest → List (Value × Value)
owned_rest_of (owned.Entries entries) = into_iter_items entries
owned_rest_of (owned.Elements elements) = pairs (into_iter_items elements)

-- the pairs that are left
abbrev pub owned_pairs_left : OwnedMapIter → List (Value × Value)
owned_pairs_left it = owned_rest_of it.rest
