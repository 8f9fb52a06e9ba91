-- What stands at the start of bytes.
use Rattle.std.specs.Prelude.{◌≡◌, ◌≤◌, ℕ, List, ◌++◌, length, take}
use Rattle.resp_value.specs.declared.value.Value.{Value}
use Rattle.resp_errors.specs.declared.kinds.FrameFault.{FrameFault}
use Rattle.resp_parse.specs.Grammar.{WellFormed, Malformed}

-- a prefix of the bytes spells the value, and the rest follows it
pub record HasWellFormedPrefix (d : ℕ) (b : List ℕ) (v : Value) (rest : List ℕ) : Type 0 where
  pub prefix : List ℕ
  pub whole : b ≡ prefix ++ rest
  pub well_formed : WellFormed d prefix v

-- a prefix of the bytes ends where the fault shows
pub record HasMalformedPrefix (d : ℕ) (b : List ℕ) (f : FrameFault) : Type 0 where
  pub prefix : List ℕ
  pub rest : List ℕ
  pub whole : b ≡ prefix ++ rest
  pub malformed : Malformed d prefix f

-- the first n bytes end where a fault shows
pub record FaultShownBy (d : ℕ) (b : List ℕ) (n : ℕ) : Type 0 where
  pub within : n ≤ length b
  pub fault : FrameFault
  pub malformed : Malformed d (take n b) fault

-- no prefix spells a value, and none ends in a fault: more bytes are awaited
pub record IsIncomplete (d : ℕ) (b : List ℕ) : Type 0 where
  pub no_value : (v : Value) (rest : List ℕ) → HasWellFormedPrefix d b v rest → ⊥
  pub no_fault : (f : FrameFault) → HasMalformedPrefix d b f → ⊥
