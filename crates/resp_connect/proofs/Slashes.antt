-- Slashes at the ends of a text.
use Rattle.std.proofs.Common.{◌≡◌, ℕ, List, [], ◌∷◌, ◌++◌, ◌==◌, cond, false, refl, sym, ap, ◌∙◌, eqb-true}
use Rattle.std.proofs.lemmas.Bool.{false_from_ne_true}
use Rattle.std.proofs.lemmas.List.{reverse-append, reverse-reverse}
use Rattle.std.specs.Prelude.{reverse}
use Rattle.resp_connect.specs.Addresses.{after_slashes, before_slashes}

pub after_slash : (text rest : List ℕ) → text ≡ 47 ∷ rest → after_slashes rest ≡ after_slashes text
unfolding after_slashes
after_slash text rest e = ap after_slashes (sym e)

pub no_slash : (text : List ℕ) → ((rest : List ℕ) → text ≡ 47 ∷ rest → ⊥) → after_slashes text ≡ text
unfolding after_slashes
no_slash [] none = refl
no_slash (b ∷ text) none =
    let other : (b == 47) ≡ false = false_from_ne_true _ (λ is. none text (ap (λ c. c ∷ text) (eqb-true b 47 is))) in
    ap (λ t. cond t (after_slashes text) (b ∷ text)) other

pub before_slash : (text front : List ℕ) → text ≡ front ++ 47 ∷ [] → before_slashes front ≡ before_slashes text
before_slash text front e =
    ap reverse (after_slash (reverse text) (reverse front) (ap reverse e ∙ reverse-append front (47 ∷ [])))

pub no_last_slash : (text : List ℕ) → ((front : List ℕ) → text ≡ front ++ 47 ∷ [] → ⊥)
    → before_slashes text ≡ text
no_last_slash text none =
    ap reverse (no_slash (reverse text) (λ rest e. none (reverse rest)
    (sym (reverse-reverse text) ∙ ap reverse e ∙ reverse-append (47 ∷ []) rest)))
    ∙ reverse-reverse text
