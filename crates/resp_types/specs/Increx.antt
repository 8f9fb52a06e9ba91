-- The two numbers of an increment (Redis, INCREX; RESP, "Arrays").
use Rattle.std.specs.Prelude.{◌≡◌, ℤ, false, [], ◌∷◌}
use Rattle.std.specs.Int.{w64}
use Rattle.resp_value.specs.declared.value.Value.{Value}
use Rattle.resp_from.specs.Integers.{OfInteger, SignedNumber, SignedText}
use Rattle.resp_from.specs.Lists.{OfArray}
use Rattle.resp_types.specs.declared.increx.IncrexResult.{IncrexResult}

-- the reply is an array of the value and then of the increment
abbrev pub OfIncrex : Value → IncrexResult → Type 0
OfIncrex reply r = OfArray 2 0 false (λ v x. x ≡ v) reply (r.value ∷ r.actual_increment ∷ [])

-- both are integers of 64 bits
abbrev pub AreIntegers : IncrexResult → ℤ × ℤ → Type 0
AreIntegers r numbers = OfInteger (SignedNumber w64) (SignedText w64) r.value numbers.0
    × OfInteger (SignedNumber w64) (SignedText w64) r.actual_increment numbers.1
