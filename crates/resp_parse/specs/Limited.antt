-- What stands at the start of bytes for a reader with limits: the grammar's values and faults that
-- show within the limit on the size, and one fault more, of a value that passes it.
use Rattle.std.specs.Prelude.{◌≡◌, ◌<◌, ◌≤◌, ◌+◌, ℕ, List, ◌++◌, length, take}
use Rattle.resp_value.specs.declared.value.Value.{Value}
use Rattle.resp_errors.specs.declared.kinds.FrameFault.{FrameFault}
use Rattle.resp_errors.specs.declared.kinds.FrameFault.TheVariants.{TooLong}
use Rattle.resp_parse.specs.declared.limits.Limits.{Limits}
use Rattle.resp_parse.specs.Grammar.{WellFormed, Joined}
use Rattle.resp_parse.specs.Prefixes.{HasMalformedPrefix, FaultShownBy, IsIncomplete}

-- the bytes spell the value, and are no more than it may have
pub record WellFormedWithin (l : Limits) (b : List ℕ) (v : Value) : Type 0 where
  pub well_formed : WellFormed l.depth b v
  pub few : length b ≤ l.bytes

-- the bytes spell the values, each within the limits, joined in order
unfoldable pub ReadsWithin : Limits → List ℕ → List Value → Type 0
ReadsWithin l b vs = Joined (WellFormedWithin l) b vs

-- the first bytes, as many as a value may have
abbrev pub first_bytes : Limits → List ℕ → List ℕ
first_bytes l b = take l.bytes b

-- a prefix of the bytes spells the value, and the rest follows it
pub record HasValue (l : Limits) (b : List ℕ) (v : Value) (rest : List ℕ) : Type 0 where
  pub prefix : List ℕ
  pub whole : b ≡ prefix ++ rest
  pub well_formed : WellFormedWithin l prefix v

-- there are more bytes than a value may have, and those that it may have are incomplete
pub record PassesSize (l : Limits) (b : List ℕ) : Type 0 where
  pub more : l.bytes < length b
  pub incomplete : IsIncomplete l.depth (first_bytes l b)

-- among the bytes that a value may have the grammar's fault shows, or the value passes the limit
pub data HasFault (l : Limits) (b : List ℕ) (f : FrameFault) : Type 0 where
  within : HasMalformedPrefix l.depth (first_bytes l b) f → HasFault l b f
  too_long : f ≡ TooLong → PassesSize l b → HasFault l b f

-- the first n bytes end where a fault shows: that of a value that passes the limit, at the byte
-- that does
pub data FaultShownAt (l : Limits) (b : List ℕ) (n : ℕ) : Type 0 where
  within : FaultShownBy l.depth (first_bytes l b) n → FaultShownAt l b n
  too_long : n ≡ l.bytes + 1 → PassesSize l b → FaultShownAt l b n

-- no prefix spells a value, none ends in a fault, and a value may have more: more bytes are awaited
pub record Awaits (l : Limits) (b : List ℕ) : Type 0 where
  pub few : length b ≤ l.bytes
  pub incomplete : IsIncomplete l.depth b

-- what is found at the start of bytes
pub data Found (l : Limits) (b : List ℕ) : Type 0 where
  value : (v : Value) (rest : List ℕ) → HasValue l b v rest → Found l b
  fault : (f : FrameFault) → HasFault l b f → Found l b
  more : Awaits l b → Found l b

-- a value, a fault, or more bytes awaited: one of them, and in one way
pub record OneReading (l : Limits) (b : List ℕ) : Type 0 where
  pub values : (v w : Value) (r s : List ℕ) → HasValue l b v r → HasValue l b w s → (v ≡ w) × (r ≡ s)
  pub faults : (f g : FrameFault) → HasFault l b f → HasFault l b g → f ≡ g
  pub value_or_fault : (v : Value) (r : List ℕ) (f : FrameFault) → HasValue l b v r → HasFault l b f → ⊥
  pub value_or_more : (v : Value) (r : List ℕ) → HasValue l b v r → Awaits l b → ⊥
  pub fault_or_more : (f : FrameFault) → HasFault l b f → Awaits l b → ⊥
