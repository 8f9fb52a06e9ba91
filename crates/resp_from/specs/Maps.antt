-- Replies as maps and as sets (RESP3, "Maps", "Sets"; RESP, "Arrays", "Nulls").
use Rattle.std.specs.Prelude.{◌≡◌, cond, List, [], Option, Some}
use Rattle.std.specs.List.{AllZip}
use Rattle.resp_value.specs.declared.value.Value.{Value, out-Value}
use Rattle.resp_value.specs.Views.{pairs_of, sequence_of}
use Rattle.resp_containers.specs.Keyed.{Keying, IsMerged, IsDeduplicated}
use Rattle.resp_from.specs.Attributes.{stripped}
use Rattle.resp_from.specs.Wrappers.{is_nil}

-- the key and the value of a pair are these
abbrev pub OfPair : {K V : Type 0} → (Value → K → Type 0) → (Value → V → Type 0) → Value × Value
    → K × V → Type 0
OfPair OfKey OfValue pair entry = OfKey pair.0 entry.0 × OfValue pair.1 entry.1

-- the pairs are these entries, those with equal keys merged
pub record HoldsMap {K V : Type 0} (keying : Keying K) (OfKey : Value → K → Type 0)
    (OfValue : Value → V → Type 0) (pairs : List (Value × Value)) (entries : List (K × V))
    : Type 0 where
  pub converted : List (K × V)
  pub each : AllZip (OfPair OfKey OfValue) pairs converted
  pub merged : IsMerged keying converted entries

-- the items are these members, each once
pub record HoldsSet {X : Type 0} (keying : Keying X) (Of : Value → X → Type 0) (items : List Value)
    (members : List X) : Type 0 where
  pub converted : List X
  pub each : AllZip Of items converted
  pub deduplicated : IsDeduplicated keying converted members

-- the pairs of a reply without its attribute; none of nothing
abbrev pub map_pairs : Value → Option (List (Value × Value))
map_pairs reply = cond (is_nil (out-Value (stripped reply))) (Some []) (pairs_of (stripped reply))

-- the reply is a map of these entries
pub record OfMap {K V : Type 0} (keying : Keying K) (OfKey : Value → K → Type 0)
    (OfValue : Value → V → Type 0) (reply : Value) (entries : List (K × V)) : Type 0 where
  pub pairs : List (Value × Value)
  pub found : map_pairs reply ≡ Some pairs
  pub holds : HoldsMap keying OfKey OfValue pairs entries

-- the reply, without its attribute, is a set of these members
pub record OfSet {X : Type 0} (keying : Keying X) (Of : Value → X → Type 0) (reply : Value)
    (members : List X) : Type 0 where
  pub items : List Value
  pub found : sequence_of (stripped reply) ≡ Some items
  pub holds : HoldsSet keying Of items members
