-- Lists and their last elements.
use Rattle.std.proofs.Common.{◌≡◌, ℕ, List, [], ◌∷◌, ◌++◌, length, take, get_or, ap, sym, ◌∙◌, arith}
use Rattle.std.proofs.lemmas.List.{length_push}
use Rattle.std.proofs.Math.Seq.{get_or-append_seam, take-append_seam}

-- two lists that are equal with their last elements
pub snoc-injective : {X : Type 0} (d : X) (xs ys : List X) (x y : X) → xs ++ (x ∷ []) ≡ ys ++ (y ∷ []) → (xs ≡ ys)
    × (x ≡ y)
snoc-injective d xs ys x y e =
    let l : length xs ≡ length ys =
    (let a = length_push xs x in let b = length_push ys y in omega (arith, a, b, ap length e)) in
    let f : xs ≡ ys = sym (take-append_seam xs (x ∷ [])) ∙ ap (take (length xs)) e
    ∙ ap (λ (k : ℕ). take k (ys ++ (y ∷ []))) l ∙ take-append_seam ys (y ∷ []) in
    let o : x ≡ y = sym (get_or-append_seam xs x [] d) ∙ ap (λ zs. get_or zs (length xs) d) e
    ∙ ap (λ (k : ℕ). get_or (ys ++ (y ∷ [])) k d) l ∙ get_or-append_seam ys y [] d in
    (f, o)
