-- A reply is one value of a type at most.
use Rattle.std.specs.Prelude.{◌≡◌}
use Rattle.std.specs.declared.cmp.Ordering.{Ordering}
use Rattle.resp_value.specs.declared.value.Value.{Value}

-- two values of one reply look the same
abbrev pub IsSingleValued : {X S : Type 0} → (Value → X → Type 0) → (X → S) → Type 0
IsSingleValued {X} Of seen = (reply : Value) (x y : X) → Of reply x → Of reply y → seen x ≡ seen y

-- the order of a key depends on no more than what it looks like
abbrev pub GoesBySeen : {X S : Type 0} → (X → X → Ordering) → (X → S) → Type 0
GoesBySeen {X} cmp seen = (x y z : X) → seen x ≡ seen y → cmp z x ≡ cmp z y

-- what a pair looks like
abbrev pub pair_seen : {X Y S T : Type 0} → (X → S) → (Y → T) → X × Y → S × T
pair_seen seen other_seen pair = (seen pair.0, other_seen pair.1)
