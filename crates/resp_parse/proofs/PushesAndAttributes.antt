-- What bodies and elements make.
use Rattle.std.proofs.Common.{◌≡◌, ℕ, suc, ◌-◌, true, false, Some, None, List, [], ◌∷◌, ◌++◌, length, take, refl, ap}
use Rattle.std.proofs.Common.{◌∙◌, arith}
use Rattle.std.specs.Str.{is_utf8}
use Rattle.std.proofs.lemmas.Grind.{common_steps}
use Rattle.resp_value.specs.declared.value.Value.{Value, BulkString, Nil, Attribute}
use Rattle.resp_value.specs.Names.{kind_named}
use Rattle.resp_parse.specs.Grammar.{push_kind, last_element, attribute}
use Rattle.resp_parse.specs.declared.elements.Waits.{Waits}
use Rattle.resp_parse.specs.declared.elements.Waits.TheVariants.{Nothing, Key}
use Rattle.resp_parse.specs.KeptElements.{padded, waits_in}
use Rattle.resp_value.specs.Views.{pairs}

-- pairs of some elements are some
padded-some : (v : Value) (vs : List Value) → padded (v ∷ vs) ≡ [] → ⊥
padded-some v [] e = cc
padded-some v (w ∷ vs) e = cc

pub push_kind-text : (v : Value) (name : List ℕ) → v ≡ BulkString name → is_utf8 name ≡ true → push_kind v
    ≡ Some (kind_named name)
push_kind-text v name e u = ap push_kind e ∙ rw u refl

pub push_kind-bytes : (v : Value) (name : List ℕ) → v ≡ BulkString name → is_utf8 name ≡ false → push_kind v ≡ None
push_kind-bytes v name e u = ap push_kind e ∙ rw u refl

-- the last element in a last pair
abbrev pub last_of : Waits → Value × Value → Value
last_of Key p = p.0
last_of Nothing p = p.1

-- the last of elements that stand in pairs, and the pairs before it
pub last-taken : (vs : List Value) (rest : List (Value × Value)) (p : Value × Value) → padded vs ≡ rest ++ p ∷ []
    → (last_of (waits_in vs) p ≡ last_element vs) × (rest ≡ pairs (take (length vs - 1) vs))
last-taken [] rest p e = absurd (grind (arith, common_steps, ap length e))
last-taken (key ∷ []) [] p e = (let i : p ≡ (key, Nil) = cc in ap (λ q. q.0) i, refl)
last-taken (key ∷ []) (r ∷ rest) p e = absurd (grind (arith, common_steps, ap length e))
last-taken (key ∷ value ∷ []) [] p e = (let i : p ≡ (key, value) = cc in ap (λ q. q.1) i, refl)
last-taken (key ∷ value ∷ []) (r ∷ rest) p e = absurd (grind (arith, common_steps, ap length e))
last-taken (key ∷ value ∷ next ∷ vs) [] p e = absurd (let z : padded (next ∷ vs) ≡ [] = cc in padded-some next vs z)
last-taken (key ∷ value ∷ next ∷ vs) (r ∷ rest) p e =
    let i : r ≡ (key, value) = cc in
    let j : padded (next ∷ vs) ≡ rest ++ p ∷ [] = cc in
    let all = last-taken (next ∷ vs) rest p j in
    let n : length (key ∷ value ∷ next ∷ vs) - 1 ≡ suc (suc (length (next ∷ vs) - 1)) = omega arith in
    (all.0, rw (i, n) (ap (λ ps. (key, value) ∷ ps) all.1))

-- an attribute, by its last element
last_element-append : (prefix : List Value) (v : Value) → last_element (prefix ++ v ∷ []) ≡ v
last_element-append [] v = refl
last_element-append (x ∷ []) v = refl
last_element-append (x ∷ y ∷ prefix) v = last_element-append (y ∷ prefix) v

last_element-popped : (elements prefix : List Value) (v : Value) → elements ≡ prefix ++ v ∷ [] → last_element elements
    ≡ v
last_element-popped elements prefix v e = ap last_element e ∙ last_element-append prefix v

take-popped : (elements prefix : List Value) (v : Value) → elements ≡ prefix ++ v ∷ []
    → take (length elements - 1) elements ≡ prefix
take-popped elements prefix v e = rw e (grind (arith, common_steps))

pub attribute-popped : (elements prefix : List Value) (v : Value) → elements ≡ prefix ++ v ∷ [] → attribute elements
    ≡ Attribute v (pairs prefix)
attribute-popped elements prefix v e =
    let l : last_element elements ≡ v = last_element-popped elements prefix v e in
    let t : take (length elements - 1) elements ≡ prefix = take-popped elements prefix v e in
    rw (l, t) refl
