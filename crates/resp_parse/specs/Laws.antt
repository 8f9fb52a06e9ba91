-- The laws of the grammar: bytes have at most one reading, however they go on; while they have none
-- they can go on to one; and a higher limit on the levels keeps each reading that isn't too deep.
use Rattle.std.specs.Prelude.{◌≡◌, ◌≢◌, ℕ, List, ◌++◌}
use Rattle.resp_value.specs.declared.value.Value.{Value}
use Rattle.resp_errors.specs.declared.kinds.FrameFault.{FrameFault}
use Rattle.resp_errors.specs.declared.kinds.FrameFault.TheVariants.{TooDeep}
use Rattle.resp_parse.specs.Grammar.{WellFormed, Malformed}

-- of two prefixes of the same bytes, a x and b y: well-formed ones are one list and have one value,
-- malformed ones are one list and have one fault, and none is well-formed beside a malformed one
pub record LawOfPrefixes (d : ℕ) (a x b y : List ℕ) : Type 0 where
  pub values : (v w : Value) → a ++ x ≡ b ++ y → WellFormed d a v → WellFormed d b w → (a ≡ b) × (v ≡ w)
  pub faults : (f g : FrameFault) → a ++ x ≡ b ++ y → Malformed d a f → Malformed d b g →
      (a ≡ b) × (f ≡ g)
  pub apart : (v : Value) (f : FrameFault) → a ++ x ≡ b ++ y → WellFormed d a v → Malformed d b f → ⊥

-- bytes that go on to where a fault shows
pub record Completion (d : ℕ) (b : List ℕ) : Type 0 where
  pub more : List ℕ
  pub fault : FrameFault
  pub malformed : Malformed d (b ++ more) fault

-- what spells a value within d levels spells it within e, and what ends in a fault within d levels,
-- other than that of a value too deep, ends in that fault within e
pub record MoreLevels (d e : ℕ) (b : List ℕ) : Type 0 where
  pub well_formed : (v : Value) → WellFormed d b v → WellFormed e b v
  pub malformed : (f : FrameFault) → f ≢ TooDeep → Malformed d b f → Malformed e b f
