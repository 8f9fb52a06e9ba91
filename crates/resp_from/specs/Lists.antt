-- Replies as lists of values of one type (RESP, "Arrays", "Bulk strings", "Nulls"; RESP3, "Maps",
-- "Sets").
use Rattle.std.specs.Prelude.{◌≡◌, ℕ, Bool, true, false, List, [], ◌∷◌, length, map}
use Rattle.std.specs.List.{AllZip}
use Rattle.resp_value.specs.declared.value.Value.{Value, Map, out-Value}
use Rattle.resp_value.specs.declared.value.Value.TheOpen.{Value-F}
use Rattle.resp_from.specs.Rules.{OfList, OfBytes}

-- a map of one pair for each pair
abbrev pub single_maps : List (Value × Value) → List Value
single_maps pairs = map (λ pair. Map (pair ∷ [])) pairs

-- a reply, as it stands, is the list of these values
abbrev pub IsVec : {X : Type 0} → ℕ → Bool → (Value → X → Type 0) → Value-F Value → List X → Type 0
IsVec n each Of (Value-F.Array items) xs = OfList n Of items xs
IsVec n each Of (Value-F.Set items) xs = OfList n Of items xs
IsVec n each Of (Value-F.Map pairs) xs = AllZip Of (single_maps pairs) xs
IsVec n each Of (Value-F.BulkString bytes) xs = OfBytes each Of bytes xs
IsVec n each Of Value-F.Nil xs = xs ≡ []
IsVec n each Of _ xs = ⊥

-- the reply is the list of these values
abbrev pub OfVec : {X : Type 0} → ℕ → Bool → (Value → X → Type 0) → Value → List X → Type 0
OfVec n each Of reply xs = IsVec n each Of (out-Value reply) xs

-- an array, a bulk string or nothing
abbrev pub is_array_like : Value-F Value → Bool
is_array_like (Value-F.Array items) = true
is_array_like (Value-F.BulkString bytes) = true
is_array_like Value-F.Nil = true
is_array_like _ = false

-- the reply, one of these, is the list of these values, of which there are `size`
pub record OfArray {X : Type 0} (size n : ℕ) (each : Bool) (Of : Value → X → Type 0) (reply : Value)
    (items : List X) : Type 0 where
  pub like : is_array_like (out-Value reply) ≡ true
  pub listed : OfVec n each Of reply items
  pub sized : length items ≡ size
