-- What a reader with limits finds at the start of bytes is what reading finds among those that a value may have.
use Rattle.std.proofs.Common.{◌≡◌, ℕ, zero, suc, ◌+◌, ◌-◌, ◌<◌, ◌≤◌, List, ◌++◌, length, take, drop, refl, ap, sym, ◌∙◌}
use Rattle.std.proofs.Common.{subst, arith, append_assoc, ◌⊎◌, inl, inr}
use Rattle.std.proofs.lemmas.Grind.{common_steps}
use Rattle.std.proofs.lemmas.List.{append-nil, append_cancel_left, length-append, take-append-le}
use Rattle.std.proofs.Math.Seq.{take-append-add}
use Rattle.resp_value.specs.declared.value.Value.{Value}
use Rattle.resp_errors.specs.declared.kinds.FrameFault.{FrameFault}
use Rattle.resp_errors.specs.declared.kinds.FrameFault.TheVariants.{TooLong}
use Rattle.resp_parse.specs.declared.limits.Limits.{Limits}
use Rattle.resp_parse.specs.PlainReading.{ReadOutcome, got, fault, incomplete, read}
use Rattle.resp_parse.specs.Limited as limited
use Rattle.resp_parse.specs.Prefixes.{HasMalformedPrefix, HasWellFormedPrefix, IsIncomplete, FaultShownBy}
use Rattle.resp_parse.specs.Limited.{WellFormedWithin, HasValue, HasFault, PassesSize, Awaits, Found, more, OneReading}
use Rattle.resp_parse.specs.Limited.{FaultShownAt, first_bytes}
use Rattle.resp_parse.proofs.PrefixReads.{HasWellFormedPrefix-from_read, HasMalformedPrefix-from_read}
use Rattle.resp_parse.proofs.PrefixReads.{IsIncomplete-from_read, FaultShownBy-longer, HasMalformedPrefix-longer}
use Rattle.resp_parse.proofs.Prefixes.{law_of_prefixes}
use Rattle.resp_parse.proofs.ReadingMeetsGrammar.{well_formed-reads, malformed-reads}

-- what is incomplete is read as incomplete
reads-incomplete : (d : ℕ) (b : List ℕ) → IsIncomplete d b → read d b ≡ incomplete
reads-incomplete d b h = by_outcome (read d b) refl
  where
    by_outcome : (o : ReadOutcome Value) → read d b ≡ o → read d b ≡ incomplete
    by_outcome (got v rest) e = absurd (h.no_value v rest (HasWellFormedPrefix-from_read d b rest v e))
    by_outcome (fault f rest) e = absurd (h.no_fault f (HasMalformedPrefix-from_read d b rest f e))
    by_outcome incomplete e = e

module _ (l : Limits) (b : List ℕ) where
  value-reads : (v : Value) (rest : List ℕ) → (h : HasValue l b v rest) → read l.depth (first_bytes l b)
      ≡ got v (take (l.bytes - length h.prefix) rest)
  value-reads v rest h =
      let few : length h.prefix ≤ l.bytes = h.well_formed.few in
      let sum : l.bytes ≡ length h.prefix + (l.bytes - length h.prefix) = omega (arith, few) in
      ap (read l.depth) (ap (λ n. take n b) sum ∙ ap (take (length h.prefix + (l.bytes - length h.prefix))) h.whole ∙
      take-append-add h.prefix rest (l.bytes - length h.prefix))
      ∙ well_formed-reads l.depth h.prefix (take (l.bytes - length h.prefix) rest) v h.well_formed.well_formed

  awaits-reads : Awaits l b → read l.depth (first_bytes l b) ≡ incomplete
  awaits-reads h =
      let few : length b ≤ l.bytes = h.few in
      let all : take l.bytes b ≡ b = grind (arith, common_steps) in
      ap (read l.depth) all ∙ reads-incomplete l.depth b h.incomplete

  -- a fault of the grammar, or a value that passes the limit
  fault-reads : (f : FrameFault) → HasFault l b f
      → ((rest : List ℕ) × (read l.depth (first_bytes l b) ≡ fault f rest)) ⊎ ((f ≡ TooLong) × PassesSize l b)
  fault-reads f (HasFault.within h) = inl
      (h.rest, ap (read l.depth) h.whole ∙ malformed-reads l.depth h.prefix h.rest f h.malformed)
  fault-reads f (HasFault.too_long e h) = inr (e, h)

  passes-reads : PassesSize l b → read l.depth (first_bytes l b) ≡ incomplete
  passes-reads h = reads-incomplete l.depth (first_bytes l b) h.incomplete

  one_value : (v w : Value) (r s : List ℕ) → HasValue l b v r → HasValue l b w s → (v ≡ w) × (r ≡ s)
  one_value v w r s h k =
      let one = (law_of_prefixes l.depth h.prefix r k.prefix s).values v w (sym h.whole ∙ k.whole)
      h.well_formed.well_formed k.well_formed.well_formed in
      (one.1, append_cancel_left h.prefix r s (sym h.whole ∙ k.whole ∙ ap (λ x. x ++ s) (sym one.0)))

  one_fault : (f g : FrameFault) → HasFault l b f → HasFault l b g → f ≡ g
  one_fault f g h k = elim (fault-reads f h) [
    | inl p ↦ elim (fault-reads g k) [
      | inl q ↦ (let same : fault f p.0 ≡ fault g q.0 = sym p.1 ∙ q.1 in cc)
      | inr q ↦ absurd (let same : fault f p.0 ≡ incomplete = sym p.1 ∙ passes-reads q.1 in cc)
    ]
    | inr p ↦ elim (fault-reads g k) [
      | inl q ↦ absurd (let same : fault g q.0 ≡ incomplete = sym q.1 ∙ passes-reads p.1 in cc)
      | inr q ↦ p.0 ∙ sym q.0
    ]
  ]

  value_or_fault : (v : Value) (r : List ℕ) (f : FrameFault) → HasValue l b v r → HasFault l b f → ⊥
  value_or_fault v r f h k = elim (fault-reads f k) [
    | inl q ↦ (let same : got v (take (l.bytes - length h.prefix) r) ≡ fault f q.0 = sym (value-reads v r h) ∙ q.1 in
        cc)
    | inr q ↦ (let same : got v (take (l.bytes - length h.prefix) r) ≡ incomplete = sym (value-reads v r h) ∙
        passes-reads q.1 in cc)
  ]

  value_or_more : (v : Value) (r : List ℕ) → HasValue l b v r → Awaits l b → ⊥
  value_or_more v r h k =
      let same : got v (take (l.bytes - length h.prefix) r) ≡ incomplete = sym (value-reads v r h) ∙ awaits-reads k in
      cc

  fault_or_more : (f : FrameFault) → HasFault l b f → Awaits l b → ⊥
  fault_or_more f h k = elim (fault-reads f h) [
    | inl q ↦ (let same : fault f q.0 ≡ incomplete = sym q.1 ∙ awaits-reads k in cc)
    | inr q ↦ (let more : l.bytes < length b = q.1.more in let few : length b ≤ l.bytes = k.few in omega (
      arith,
      more,
      few,
    ))
  ]

  pub one_reading : OneReading l b
  one_reading = record {
    values = one_value;
    faults = one_fault;
    value_or_fault = value_or_fault;
    value_or_more = value_or_more;
    fault_or_more = fault_or_more;
  }

-- a value that the grammar has among the bytes that it may have
pub first-value : (l : Limits) (b rest : List ℕ) (v : Value) → HasWellFormedPrefix l.depth (first_bytes l b) v rest
    → HasValue l b v (rest ++ drop l.bytes b)
first-value l b rest v h =
    let whole : take l.bytes b ≡ h.prefix ++ rest = h.whole in
    let size : length (take l.bytes b) ≡ length h.prefix + length rest = ap length whole
    ∙ grind (arith, common_steps) in
    let few : length (take l.bytes b) ≤ l.bytes = grind (arith, common_steps) in
    let parts : b ≡ take l.bytes b ++ drop l.bytes b = grind (arith, common_steps) in
    record {
      prefix = h.prefix;
      whole = parts ∙ ap (λ x. x ++ drop l.bytes b) whole ∙ append_assoc h.prefix rest (drop l.bytes b);
      well_formed = record { well_formed = h.well_formed; few = omega (arith, size, few) };
    }

either-more : (l : Limits) (b : List ℕ) → IsIncomplete l.depth (first_bytes l b)
    → (length b ≤ l.bytes) ⊎ (l.bytes < length b) → Found l b
either-more l b h (inl few) =
    let all : take l.bytes b ≡ b = grind (arith, common_steps) in
    more (record { few = few; incomplete = subst (IsIncomplete l.depth) all h })
either-more l b h (inr l') = limited.fault TooLong (HasFault.too_long refl (record { more = l'; incomplete = h }))

compared : (m n : ℕ) → (m ≤ n) ⊎ (n < m)
compared m n = compare m n
  where
    compare : (m n : ℕ) → (m ≤ n) ⊎ (n < m)
    compare zero n = inl (omega arith)
    compare (suc m) zero = inr (omega arith)
    compare (suc m) (suc n) = elim (compare m n) [
      | inl l ↦ inl (omega (arith, l))
      | inr l ↦ inr (omega (arith, l))
    ]

pub found : (l : Limits) (b : List ℕ) → Found l b
found l b = by_outcome (read l.depth (first_bytes l b)) refl
  where
    by_outcome : (o : ReadOutcome Value) → read l.depth (first_bytes l b) ≡ o → Found l b
    by_outcome (got v rest) e = limited.value v (rest ++ drop l.bytes b)
        (first-value l b rest v (HasWellFormedPrefix-from_read l.depth (first_bytes l b) rest v e))
    by_outcome (fault f rest) e = limited.fault f
        (HasFault.within (HasMalformedPrefix-from_read l.depth (first_bytes l b) rest f e))
    by_outcome incomplete e = either-more l b (IsIncomplete-from_read l.depth (first_bytes l b) e)
        (compared (length b) l.bytes)

-- where a value may have all bytes, what the grammar finds

module _ (l : Limits) (b : List ℕ) (few : length b ≤ l.bytes) where
  pub HasValue-all : (rest : List ℕ) (v : Value) → HasWellFormedPrefix l.depth b v rest → HasValue l b v rest
  HasValue-all rest v h =
      let size : length b ≡ length h.prefix + length rest = ap length h.whole ∙ length-append h.prefix rest in
      record {
        prefix = h.prefix;
        whole = h.whole;
        well_formed = record
            { well_formed = h.well_formed; few = omega (arith, size, few) };
      }

  pub HasFault-all : (f : FrameFault) → HasMalformedPrefix l.depth b f → HasFault l b f
  HasFault-all f h =
      let all : take l.bytes b ≡ b = grind (arith, common_steps) in
      HasFault.within (subst (λ x. HasMalformedPrefix l.depth x f) (sym all) h)

-- With more bytes after them.

pub HasValue-longer : (l : Limits) (b after rest : List ℕ) (v : Value) → HasValue l b v rest
    → HasValue l (b ++ after) v (rest ++ after)
HasValue-longer l b after rest v h = record {
  prefix = h.prefix;
  whole = ap (λ z. z ++ after) h.whole
      ∙ append_assoc h.prefix rest after;
  well_formed = h.well_formed;
}

take-append : (n : ℕ) (x y : List ℕ) → (n ≤ length x) ⊎ (length x < n) → take n (x ++ y) ≡ take n x
    ++ take (n - length x) y
take-append n x y (inl l) =
    let none : n - length x ≡ 0 = omega (arith, l) in
    take-append-le n x y l ∙ sym (ap (λ k. take n x ++ take k y) none ∙ append-nil (take n x))
take-append n x y (inr l) =
    let sum : n ≡ length x + (n - length x) = omega (arith, l) in
    let all : take n x ≡ x = grind (arith, common_steps) in
    ap (λ k. take k (x ++ y)) sum ∙ take-append-add x y (n - length x) ∙ ap (λ z. z ++ take (n - length x) y) (sym all)

-- the first bytes are those that were, and perhaps some more
first-longer : (l : Limits) (b after : List ℕ) → first_bytes l (b ++ after) ≡ first_bytes l b
    ++ take (l.bytes - length b) after
first-longer l b after = take-append l.bytes b after (compared l.bytes (length b))

-- they are those that were, where these passed the limit
first-same : (l : Limits) (b after : List ℕ) → l.bytes < length b → first_bytes l (b ++ after) ≡ first_bytes l b
first-same l b after h = take-append-le l.bytes b after (omega (arith, h))

PassesSize-longer : (l : Limits) (b after : List ℕ) → PassesSize l b → PassesSize l (b ++ after)
PassesSize-longer l b after h =
    let n : length (b ++ after) ≡ length b + length after = length-append b after in
    let m = h.more in
    record {
      more = omega (arith, n, m);
      incomplete = subst (IsIncomplete l.depth) (sym (first-same l b after h.more))
          h.incomplete;
    }

pub HasFault-longer : (l : Limits) (b after : List ℕ) (f : FrameFault) → HasFault l b f → HasFault l (b ++ after) f
HasFault-longer l b after f (HasFault.within h) = HasFault.within
    (subst (λ x. HasMalformedPrefix l.depth x f) (sym (first-longer l b after))
    (HasMalformedPrefix-longer l.depth (first_bytes l b) (take (l.bytes - length b) after) f h))
HasFault-longer l b after f (HasFault.too_long e h) = HasFault.too_long e (PassesSize-longer l b after h)

pub FaultShownAt-longer : (l : Limits) (b after : List ℕ) (n : ℕ) → FaultShownAt l b n → FaultShownAt l (b ++ after) n
FaultShownAt-longer l b after n (FaultShownAt.within h) = FaultShownAt.within
    (subst (λ x. FaultShownBy l.depth x n) (sym (first-longer l b after))
    (FaultShownBy-longer l.depth (first_bytes l b) (take (l.bytes - length b) after) n h))
FaultShownAt-longer l b after n (FaultShownAt.too_long e h) = FaultShownAt.too_long e (PassesSize-longer l b after h)
