-- What reading gives is what stands at the start.
use Rattle.std.proofs.Common.{◌≡◌, ℕ, ◌+◌, ◌≤◌, List, ◌++◌, length, take, ap, sym, ◌∙◌, subst, append_assoc, arith}
use Rattle.std.proofs.lemmas.Grind.{common_steps}
use Rattle.resp_value.specs.declared.value.Value.{Value}
use Rattle.resp_errors.specs.declared.kinds.FrameFault.{FrameFault}
use Rattle.resp_parse.specs.PlainReading.{got, fault, incomplete, read}
use Rattle.resp_parse.specs.Grammar.{Malformed}
use Rattle.resp_parse.specs.Prefixes.{HasWellFormedPrefix, HasMalformedPrefix, FaultShownBy, IsIncomplete}
use Rattle.resp_parse.proofs.ReadingMeetsGrammar.{read-well_formed, read-malformed, well_formed-reads, malformed-reads}

pub HasWellFormedPrefix-from_read : (d : ℕ) (b rest : List ℕ) (v : Value) → read d b ≡ got v rest
    → HasWellFormedPrefix d b v rest
HasWellFormedPrefix-from_read d b rest v e =
    let h = read-well_formed d b rest v e in record { prefix = h.prefix; whole = h.whole; well_formed = h.is }

pub read-from_HasWellFormed : (d : ℕ) (b rest : List ℕ) (v : Value) → HasWellFormedPrefix d b v rest → read d b
    ≡ got v rest
read-from_HasWellFormed d b rest v h = ap (read d) h.whole ∙ well_formed-reads d h.prefix rest v h.well_formed

pub HasMalformedPrefix-from_read : (d : ℕ) (b rest : List ℕ) (f : FrameFault) → read d b ≡ fault f rest
    → HasMalformedPrefix d b f
HasMalformedPrefix-from_read d b rest f e =
    let h = read-malformed d b rest f e in record { prefix = h.prefix; rest = rest; whole = h.whole; malformed = h.is }

-- the bytes before those that follow the fault show it
pub FaultShownBy-from_read : (d : ℕ) (b rest : List ℕ) (f : FrameFault) (n : ℕ) → read d b ≡ fault f rest
    → n + length rest ≡ length b → FaultShownBy d b n
FaultShownBy-from_read d b rest f n e l =
    let h = read-malformed d b rest f e in
    let whole : b ≡ h.prefix ++ rest = h.whole in
    let size : length b ≡ length h.prefix + length rest = ap length whole ∙ grind (arith, common_steps) in
    let n_is : n ≡ length h.prefix = omega (arith, l, size) in
    let front : take (length h.prefix) (h.prefix ++ rest) ≡ h.prefix = grind (arith, common_steps) in
    record {
      within = omega (arith, l);
      fault = f;
      malformed = subst (λ x. Malformed d x f)
          (sym (ap (λ k. take k b) n_is ∙ ap (take (length h.prefix)) whole ∙ front)) h.is;
    }

-- bytes that come after show it too
pub FaultShownBy-longer : (d : ℕ) (b more : List ℕ) (n : ℕ) → FaultShownBy d b n → FaultShownBy d (b ++ more) n
FaultShownBy-longer d b more n h =
    let l : n ≤ length b = h.within in
    let same : take n (b ++ more) ≡ take n b = grind (arith, common_steps) in
    record {
      within = grind (arith, common_steps);
      fault = h.fault;
      malformed = subst (λ x. Malformed d x h.fault)
          (sym same) h.malformed;
    }

pub HasMalformedPrefix-longer : (d : ℕ) (b more : List ℕ) (f : FrameFault) → HasMalformedPrefix d b f
    → HasMalformedPrefix d (b ++ more) f
HasMalformedPrefix-longer d b more f h = record {
  prefix = h.prefix;
  rest = h.rest ++ more;
  whole = ap (λ z. z ++ more) h.whole
      ∙ append_assoc h.prefix h.rest more;
  malformed = h.malformed;
}

no_value : (d : ℕ) (b : List ℕ) → read d b ≡ incomplete → (v : Value) (rest : List ℕ) → HasWellFormedPrefix d b v rest
    → ⊥
no_value d b e v rest h = let k : incomplete ≡ got v rest = sym e ∙ read-from_HasWellFormed d b rest v h in cc

no_fault : (d : ℕ) (b : List ℕ) → read d b ≡ incomplete → (f : FrameFault) → HasMalformedPrefix d b f → ⊥
no_fault d b e f h =
    let k : incomplete ≡ fault f h.rest = sym e ∙ ap (read d) h.whole
    ∙ malformed-reads d h.prefix h.rest f h.malformed in cc

pub IsIncomplete-from_read : (d : ℕ) (b : List ℕ) → read d b ≡ incomplete → IsIncomplete d b
IsIncomplete-from_read d b e = record { no_value = no_value d b e; no_fault = no_fault d b e }
