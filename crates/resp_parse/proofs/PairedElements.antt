-- The elements of a map or an attribute, two by two.
use Rattle.std.proofs.Common.{◌≡◌, ℕ, length, slice_set, List, [], ◌∷◌, ◌++◌, Option, None, Some, MatchOption, refl, ap}
use Rattle.std.proofs.Common.{sym, ◌∙◌, arith}
use Rattle.std.proofs.lemmas.Grind.{common_steps}
use Rattle.std.proofs.lemmas.List.{same_from_push, set-append_right}
use Rattle.resp_value.specs.declared.value.Value.{Value, Nil}
use Rattle.resp_value.specs.Views.{pairs}
use Rattle.resp_parse.specs.declared.elements.Elements.{Elements}
use Rattle.resp_parse.specs.declared.elements.Elements.TheVariants.{Pairs}
use Rattle.resp_parse.specs.declared.elements.Waits.{Waits}
use Rattle.resp_parse.specs.declared.elements.Waits.TheVariants.{Nothing, Key}
use Rattle.resp_parse.specs.KeptElements.{padded, waits_in}

-- the last of an odd number
pub last_key : List Value → Value
last_key [] = Nil
last_key (key ∷ []) = key
last_key (key ∷ value ∷ rest) = last_key rest

pub even-pairs : (vs : List Value) → waits_in vs ≡ Nothing → padded vs ≡ pairs vs
even-pairs [] e = refl
even-pairs (key ∷ []) e = absurd (let z : Key ≡ Nothing = e in cc)
even-pairs (key ∷ value ∷ rest) e = ap (λ ps. (key, value) ∷ ps) (even-pairs rest e)

pub odd-pairs : (vs : List Value) → waits_in vs ≡ Key → padded vs ≡ pairs vs ++ (last_key vs, Nil) ∷ []
unfolding last_key
odd-pairs [] e = absurd (let z : Nothing ≡ Key = e in cc)
odd-pairs (key ∷ []) e = refl
odd-pairs (key ∷ value ∷ rest) e = ap (λ ps. (key, value) ∷ ps) (odd-pairs rest e)

-- one more
abbrev pub after_one : Waits → Waits
after_one Nothing = Key
after_one Key = Nothing

pub odd-more : (vs : List Value) (v : Value) → waits_in (vs ++ v ∷ []) ≡ after_one (waits_in vs)
odd-more [] v = refl
odd-more (key ∷ []) v = refl
odd-more (key ∷ value ∷ rest) v = odd-more rest v

pub even-more : (vs : List Value) (v : Value) → waits_in vs ≡ Nothing → padded vs ++ (v, Nil) ∷ []
    ≡ padded (vs ++ v ∷ [])
even-more [] v e = refl
even-more (key ∷ []) v e = absurd (let z : Key ≡ Nothing = e in cc)
even-more (key ∷ value ∷ rest) v e = ap (λ ps. (key, value) ∷ ps) (even-more rest v e)

pub key-more : (vs : List Value) (v : Value) → waits_in vs ≡ Key → pairs vs ++ (last_key vs, v) ∷ []
    ≡ padded (vs ++ v ∷ [])
unfolding last_key
key-more [] v e = absurd (let z : Nothing ≡ Key = e in cc)
key-more (key ∷ []) v e = refl
key-more (key ∷ value ∷ rest) v e = ap (λ ps. (key, value) ∷ ps) (key-more rest v e)

-- kept elements in one form only
pub same-pairs : (e : Elements) (ps qs : List (Value × Value)) (o p : Waits) → e ≡ Pairs ps o → e ≡ Pairs qs p
    → (ps ≡ qs) × (o ≡ p)
same-pairs e ps qs o p h k = let z : Pairs ps o ≡ Pairs qs p = sym h ∙ k in (cc, cc)

-- the pairs that have their values
pub even-left : (ps : List (Value × Value)) (vs : List Value) (waits : Waits) → ps ≡ padded vs → waits ≡ waits_in vs
    → waits ≡ Nothing → ps ≡ pairs vs
even-left ps vs waits e o f = e ∙ even-pairs vs (sym o ∙ f)

pub odd-left : (ps rest : List (Value × Value)) (vs : List Value) (waits : Waits) (last : Option (Value × Value))
    → MatchOption last ((ps ≡ []) × (rest ≡ [])) (λ p. ps ≡ rest ++ p ∷ []) → ps ≡ padded vs → waits ≡ waits_in vs
    → waits ≡ Key → rest ≡ pairs vs
odd-left ps rest vs waits None h e o t = absurd
    (let z : pairs vs ++ (last_key vs, Nil) ∷ [] ≡ [] = sym (odd-pairs vs (sym o ∙ t)) ∙ sym e
    ∙ h.0 in grind (arith, common_steps))
odd-left ps rest vs waits (Some p) h e o t =
    (same_from_push rest (pairs vs) p (last_key vs, Nil) (sym h ∙ e ∙ odd-pairs vs (sym o ∙ t))).0

-- the last of a list is another
pub other-last : (ps : List (Value × Value)) (p q : Value × Value) (n : ℕ) → n ≡ length ps
    → slice_set (ps ++ p ∷ []) n q ≡ ps ++ q ∷ []
other-last ps p q n e = grind
    (arith, common_steps, set-append_right ps (p ∷ []) (length ps) n q refl (omega (arith, e)))
