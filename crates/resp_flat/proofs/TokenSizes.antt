-- The bytes of a value's text are as many as its tokens say.
use Rattle.std.proofs.Common.{◌≡◌, ℕ, ◌+◌, List, [], ◌∷◌, ◌++◌, length, map, refl, ap, sym, subst, ◌∙◌, arith}
use Rattle.std.proofs.Common.{add_assoc, zero-add, add-zero}
use Rattle.std.proofs.lemmas.List.{length-append}
use Rattle.resp_value.specs.declared.value.Value.{Value, map-Value, ind-Value, fold-roll-Value}
use Rattle.resp_value.specs.declared.value.Value.TheOpen.{Value-F}
use Rattle.resp_value.specs.Names.{name_of_push_kind}
use Rattle.resp_flat.specs.declared.token.Token.{Token}
use Rattle.resp_flat.specs.FlatReplies.{bytes_of, placed, joined, joined_pairs, tokens_step, tokens_of, text_step}
use Rattle.resp_flat.specs.FlatReplies.{text_of, tokens_of_pair, text_of_pair}

-- how many bytes of the text belong to these tokens
abbrev pub total : List Token → ℕ
total [] = 0
total (t ∷ ts) = bytes_of t + total ts

pub total-append : (xs ys : List Token) → total (xs ++ ys) ≡ total xs + total ys
total-append [] ys = sym (zero-add (total ys))
total-append (t ∷ ts) ys = ap (λ (n : ℕ). bytes_of t + n) (total-append ts ys)
    ∙ sym (add_assoc (bytes_of t) (total ts) (total ys))

pub placed-append : (at : ℕ) (xs ys : List Token) → placed at (xs ++ ys) ≡ placed at xs ++ placed (at + total xs) ys
placed-append at [] ys = ap (λ (n : ℕ). placed n ys) (sym (add-zero at))
placed-append at (t ∷ ts) ys =
    ap (λ (rest : List Token). record t { start = at } ∷ rest) (placed-append (at + bytes_of t) ts ys
    ∙ ap (λ (n : ℕ). placed (at + bytes_of t) ts ++ placed n ys) (add_assoc at (bytes_of t) (total ts)))

abbrev tokens_form : Value-F Value → List Token
tokens_form x = tokens_step (map-Value Value (List Token) tokens_of x)

abbrev text_form : Value-F Value → List ℕ
text_form x = text_step (map-Value Value (List ℕ) text_of x)

-- a value whose sizes agree
abbrev Sized : Type 0
Sized = (v : Value) × (total (tokens_of v) ≡ length (text_of v))

abbrev value_in : Sized → Value
value_in p = p.0

abbrev pair_in : Sized × Sized → Value × Value
pair_in p = (p.0.0, p.1.0)

-- two that follow each other
both : (xs ys : List Token) (x y : List ℕ) → total xs ≡ length x → total ys ≡ length y → total (xs ++ ys)
    ≡ length (x ++ y)
both xs ys x y g h = total-append xs ys ∙ ap (λ (n : ℕ). n + total ys) g ∙ ap (λ (n : ℕ). length x + n) h
    ∙ sym (length-append x y)

elements-sized : (ps : List Sized) → total (joined (map tokens_of (map value_in ps)))
    ≡ length (joined (map text_of (map value_in ps)))
elements-sized [] = refl
elements-sized (p ∷ ps) = both _ _ _ _ p.1 (elements-sized ps)

pairs-sized : (ps : List (Sized × Sized)) → total (joined_pairs (map tokens_of_pair (map pair_in ps)))
    ≡ length (joined_pairs (map text_of_pair (map pair_in ps)))
pairs-sized [] = refl
pairs-sized (p ∷ ps) = both _ _ _ _ p.0.1 (both _ _ _ _ p.1.1 (pairs-sized ps))

layer-sized : (layer : Value-F Sized) → total (tokens_form (map-Value Sized Value value_in layer))
    ≡ length (text_form (map-Value Sized Value value_in layer))
layer-sized Value-F.Nil = refl
layer-sized Value-F.Okay = refl
layer-sized (Value-F.Int n) = refl
layer-sized (Value-F.SimpleString text) = omega arith
layer-sized (Value-F.BulkString bytes) = omega arith
layer-sized (Value-F.Array ps) = zero-add _ ∙ elements-sized ps
layer-sized (Value-F.Map ps) = zero-add _ ∙ pairs-sized ps
layer-sized (Value-F.Attribute p ps) = zero-add _ ∙ both _ _ _ _ (pairs-sized ps) p.1
layer-sized (Value-F.ServerError e) = omega arith
layer-sized (Value-F.Boolean truth) = refl
layer-sized (Value-F.Double text) = omega arith
layer-sized (Value-F.BigNumber bytes) = omega arith
layer-sized (Value-F.Set ps) = zero-add _ ∙ elements-sized ps
layer-sized (Value-F.VerbatimString format text) = omega arith
layer-sized (Value-F.Push kind ps) = zero-add _
    ∙ ap (λ (n : ℕ). length (name_of_push_kind kind) + n) (elements-sized ps)
    ∙ sym (length-append (name_of_push_kind kind) _)

pub sizes : (v : Value) → total (tokens_of v) ≡ length (text_of v)
sizes = ind-Value (λ v. total (tokens_of v) ≡ length (text_of v)) (λ x layer e.
    ap total (fold-roll-Value (List Token) tokens_step x)
    ∙ subst (λ (y : Value-F Value). total (tokens_form y) ≡ length (text_form y)) e (layer-sized layer)
    ∙ sym (ap length (fold-roll-Value (List ℕ) text_step x)))

pub pairs-total : (ps : List (Value × Value)) → total (joined_pairs (map tokens_of_pair ps))
    ≡ length (joined_pairs (map text_of_pair ps))
pairs-total [] = refl
pairs-total (p ∷ ps) = both _ _ _ _ (sizes p.0) (both _ _ _ _ (sizes p.1) (pairs-total ps))
