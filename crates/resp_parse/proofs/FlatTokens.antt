-- The tokens and the text of open aggregates.
use Rattle.std.proofs.Common.{◌≡◌, ℕ, zero, suc, ◌+◌, ◌*◌, Bool, false, cond, List, [], ◌∷◌, ◌++◌, length, map, take}
use Rattle.std.proofs.Common.{refl, ap, sym, ◌∙◌, append_assoc, zero-add, arith}
use Rattle.std.proofs.lemmas.List.{length-append, append-nil}
use Rattle.resp_value.specs.declared.value.Value.{Value}
use Rattle.resp_value.specs.Views.{pairs}
use Rattle.resp_flat.specs.declared.token.Token.{Token}
use Rattle.resp_flat.specs.FlatReplies.{placed, bytes_of, joined, joined_pairs, has_text, tokens_of, text_of}
use Rattle.resp_flat.proofs.TokenSizes.{total, total-append, sizes}
use Rattle.resp_parse.specs.declared.shape.ElementsKind.{ElementsKind}
use Rattle.resp_parse.specs.declared.shape.ElementsKind.TheVariants.{Array, Set, Map, Attribute, Push}
use Rattle.resp_parse.specs.declared.open_aggregates.OpenAggregate.{OpenAggregate}
use Rattle.resp_parse.specs.Grammar.{last_element}
use Rattle.resp_parse.specs.Shapes.{token_kind}
use Rattle.resp_parse.specs.FlatBuilders.{opening, tokens_in, text_in}

-- of elements, in order
elements-total : (vs : List Value) → total (joined (map tokens_of vs)) ≡ length (joined (map text_of vs))
elements-total [] = refl
elements-total (v ∷ vs) =
    total-append (tokens_of v) (joined (map tokens_of vs))
    ∙ ap (λ (n : ℕ). n + total (joined (map tokens_of vs))) (sizes v)
    ∙ ap (λ (n : ℕ). length (text_of v) + n) (elements-total vs)
    ∙ sym (length-append (text_of v) (joined (map text_of vs)))

aggregate-textless : (k : ElementsKind) → has_text (token_kind k) ≡ false
aggregate-textless Array = refl
aggregate-textless Set = refl
aggregate-textless Map = refl
aggregate-textless Attribute = refl
aggregate-textless Push = refl

pub opening-empty : (f : OpenAggregate) → bytes_of (opening f) ≡ 0
opening-empty f = ap (λ (b : Bool). cond b f.size 0) (aggregate-textless f.kind)

-- the bytes of the tokens are those of the text
pub in-total : (fs : List OpenAggregate) → total (tokens_in fs) ≡ length (text_in fs)
in-total [] = refl
in-total (f ∷ fs) =
    total-append (tokens_in fs) (opening f ∷ joined (map tokens_of f.seen))
    ∙ ap (λ (n : ℕ). n + (bytes_of (opening f) + total (joined (map tokens_of f.seen)))) (in-total fs)
    ∙ ap (λ (n : ℕ). length (text_in fs) + (n + total (joined (map tokens_of f.seen)))) (opening-empty f)
    ∙ ap (λ (n : ℕ). length (text_in fs) + n) (zero-add _ ∙ elements-total f.seen)
    ∙ sym (length-append (text_in fs) (joined (map text_of f.seen)))

pub placed-length : (at : ℕ) (ts : List Token) → length (placed at ts) ≡ length ts
placed-length at [] = refl
placed-length at (t ∷ ts) = ap suc (placed-length (at + bytes_of t) ts)

-- one element more
pub joined-more : {A : Type 0} (h : Value → List A) (vs : List Value) (v : Value) → joined (map h (vs ++ (v ∷ [])))
    ≡ joined (map h vs) ++ h v
joined-more h [] v = append-nil (h v)
joined-more h (x ∷ vs) v = ap (λ ys. h x ++ ys) (joined-more h vs v)
    ∙ sym (append_assoc (h x) (joined (map h vs)) (h v))

abbrev pub both : {A : Type 0} → (Value → List A) → Value × Value → List A × List A
both h p = (h p.0, h p.1)

-- an even number of elements, in pairs
pub joined-paired : {A : Type 0} (h : Value → List A) (n : ℕ) (vs : List Value) → length vs ≡ 2 * n → joined (map h vs)
    ≡ joined_pairs (map (both h) (pairs vs))
joined-paired h zero [] e = refl
joined-paired h zero (v ∷ vs) e = absurd (omega (arith, e))
joined-paired h (suc n) [] e = absurd (omega (arith, e))
joined-paired h (suc n) (v ∷ []) e = absurd (omega (arith, e))
joined-paired h (suc n) (v ∷ w ∷ vs) e = ap (λ ys. h v ++ (h w ++ ys)) (joined-paired h n vs (omega (arith, e)))

pub pairs-count : (n : ℕ) (vs : List Value) → length vs ≡ 2 * n → length (pairs vs) ≡ n
pairs-count zero [] e = refl
pairs-count zero (v ∷ vs) e = absurd (omega (arith, e))
pairs-count (suc n) [] e = absurd (omega (arith, e))
pairs-count (suc n) (v ∷ []) e = absurd (omega (arith, e))
pairs-count (suc n) (v ∷ w ∷ vs) e = ap suc (pairs-count n vs (omega (arith, e)))

-- all but the last, and the last
pub but_last : (vs : List Value) (n : ℕ) → length vs ≡ suc n → vs ≡ take n vs ++ (last_element vs ∷ [])
but_last [] n e = absurd (omega (arith, e))
but_last (v ∷ []) zero e = refl
but_last (v ∷ []) (suc n) e = absurd (omega (arith, e))
but_last (v ∷ w ∷ vs) zero e = absurd (omega (arith, e))
but_last (v ∷ w ∷ vs) (suc n) e = ap (λ us. v ∷ us) (but_last (w ∷ vs) n (omega (arith, e)))
