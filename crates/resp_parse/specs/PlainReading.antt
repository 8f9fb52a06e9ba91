-- Reading a value from the start of bytes, as a function. The relations of `Grammar` say what it
-- has to give; the proofs show that it does, and that the parser gives the same.
use Rattle.std.specs.Prelude.{ℕ, zero, suc, cond, ◌&&◌, ◌==◌, List, [], ◌∷◌, Option, None, Some, Result, Ok, Err}
use Rattle.std.specs.Str.{is_utf8}
use Rattle.resp_value.specs.declared.value.Value.{Value}
use Rattle.resp_errors.specs.declared.kinds.FrameFault.{FrameFault}
use Rattle.resp_errors.specs.declared.kinds.FrameFault.TheVariants.{TooDeep, UnknownType, LineNotUtf8, BodyEnd}
use Rattle.resp_parse.specs.declared.type_byte.TypeByte.{TypeByte}
use Rattle.resp_parse.specs.TypeBytes.{type_of}
use Rattle.resp_parse.specs.Grammar.{Announcement, complete, body, elements, invalid, announced}

-- what was read and what follows it; a fault and what follows its place; or neither yet
pub data ReadOutcome (A : Type 0) : Type 0 where
  got : A → List ℕ → ReadOutcome A
  fault : FrameFault → List ℕ → ReadOutcome A
  incomplete : ReadOutcome A

-- one reading after another
abbrev pub then : {A B : Type 0} → ReadOutcome A → (A → List ℕ → ReadOutcome B) → ReadOutcome B
then (got x rest) more = more x rest
then (fault f rest) more = fault f rest
then incomplete more = incomplete

-- the text up to the first CR LF
abbrev pub line : List ℕ → ReadOutcome (List ℕ)
line [] = incomplete
line (b ∷ []) = incomplete
line (b ∷ c ∷ bs) = cond ((b == 13) && (c == 10))
    (got [] bs)
    (then (line (c ∷ bs)) (λ text rest. got (b ∷ text) rest))

-- the CR LF of a body
abbrev pub end_of_body : List ℕ → ReadOutcome (List ℕ)
end_of_body [] = incomplete
end_of_body (b ∷ []) = cond (b == 13) incomplete (fault BodyEnd [])
end_of_body (b ∷ c ∷ bs) = cond (b == 13)
    (cond (c == 10) (got [] bs) (fault BodyEnd bs))
    (fault BodyEnd (c ∷ bs))

-- a body of n bytes, its CR LF included
abbrev pub read_body : ℕ → List ℕ → ReadOutcome (List ℕ)
read_body zero bs = end_of_body bs
read_body (suc n) [] = incomplete
read_body (suc n) (b ∷ bs) = then (read_body n bs) (λ x rest. got (b ∷ x) rest)

-- n elements
abbrev pub read_elements : (List ℕ → ReadOutcome Value) → ℕ → List ℕ → ReadOutcome (List Value)
read_elements P zero bs = got [] bs
read_elements P (suc n) bs =
    then (P bs) (λ v rest. then (read_elements P n rest) (λ vs after. got (v ∷ vs) after))

-- the value or the fault that was made
abbrev pub made : Result Value FrameFault → List ℕ → ReadOutcome Value
made (Ok v) rest = got v rest
made (Err f) rest = fault f rest

-- what a header announces
abbrev pub read_announced : (List ℕ → ReadOutcome Value) → Announcement → List ℕ → ReadOutcome Value
read_announced P (complete v) bs = got v bs
read_announced P (body n make) bs = then (read_body n bs) (λ x rest. made (make x) rest)
read_announced P (elements n make) bs = then (read_elements P n bs) (λ vs rest. made (make vs) rest)
read_announced P (invalid f) bs = fault f bs

-- what a line of this text announces, for a value of this type
abbrev pub read_line : (List ℕ → ReadOutcome Value) → TypeByte → List ℕ → List ℕ → ReadOutcome Value
read_line P kind text bs =
    cond (is_utf8 text) (read_announced P (announced kind text) bs) (fault LineNotUtf8 bs)

-- a value of this type, from its line on; no type is a fault
abbrev pub read_typed : (List ℕ → ReadOutcome Value) → Option TypeByte → List ℕ → ReadOutcome Value
read_typed P (Some kind) bs = then (line bs) (read_line P kind)
read_typed P None bs = fault UnknownType bs

-- a value, where d levels are left
abbrev pub read : ℕ → List ℕ → ReadOutcome Value
read d [] = incomplete
read zero (c ∷ bs) = fault TooDeep bs
read (suc d) (c ∷ bs) = read_typed (read d) (type_of c) bs
