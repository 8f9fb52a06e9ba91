-- The words of a text, taken off one by one.
use Rattle.std.proofs.Common.{◌≡◌, ℕ, ◌<◌, ◌≤◌, nat_lt, Bool, true, false, cond, List, [], ◌∷◌, ◌++◌, length, get_or}
use Rattle.std.proofs.Common.{refl, sym, ap, subst, ◌∙◌, Option, None, Some, Result, Ok, Err, unwrap_or, ◌^◌}
use Rattle.std.proofs.Common.{MatchOption, Bor, ⊎_elim, append-nil, arith}
use Rattle.std.proofs.lemmas.Bool.{cases_lt}
use Rattle.std.proofs.lemmas.Bool.Decides.{nat_tests}
use Rattle.std.proofs.lemmas.List.{get_or_default}
use Rattle.std.proofs.lemmas.List.Elements.{recursion_from_All}
use Rattle.std.proofs.lemmas.List.Splits.{slice_split-cons_yes, slice_split_none, slice_split_at}
use Rattle.std.proofs.lemmas.Option.{none-some}
use Rattle.std.proofs.lemmas.Str.{NoCharPasses-byte}
use Rattle.std.specs.Char.{is_ascii_whitespace}
use Rattle.std.specs.List.{All, AllByRecursion, filter, slice_split}
use Rattle.std.specs.Str.{NoCharPasses}
use Rattle.std.specs.Str.Iter.{IsAsciiSeparator, CutsAsciiWord, split_ascii_whitespace_text}
use Rattle.std.specs.Str.Iter.{split_ascii_whitespace_steps}
use Rattle.std.specs.declared.str.SplitAsciiWhitespace.{SplitAscii}
use Rattle.std.specs.Result.{result_ok}
use Rattle.std.specs.Str.Parse.{ParsesUnsigned}
use Rattle.resp_errors.specs.Redirects.{words, NamesNode}

abbrev nonempty : List ℕ → Bool
nonempty part = nat_lt 0 (length part)

-- white space in front makes no word
behind_gap : (gap rest : List ℕ) → AllByRecursion (λ b. is_ascii_whitespace b ≡ true) gap
    → words (gap ++ rest) ≡ words rest
behind_gap [] rest h = refl
behind_gap (b ∷ gap) rest h =
    ap (filter nonempty) (slice_split-cons_yes is_ascii_whitespace b (gap ++ rest) h.0)
    ∙ behind_gap gap rest h.1

-- a byte past ASCII is no white space
high_is_visible : (b : ℕ) → 128 ≤ b → is_ascii_whitespace b ≡ false
high_is_visible b h = grind (arith, nat_tests)

-- no byte of a text is white where no character is
visible : (x : List ℕ) → NoCharPasses is_ascii_whitespace x
    → All (λ b. is_ascii_whitespace b ≡ false) x
visible x h k d l = subst (λ b. is_ascii_whitespace b ≡ false) (get_or_default x k 0 d l)
    (⊎_elim (λ low. NoCharPasses-byte is_ascii_whitespace x k h l low)
    (λ high. high_is_visible (get_or x k 0) high) (cases_lt (get_or x k 0) 128))

positive : (n : ℕ) → 0 < n → nat_lt 0 n ≡ true
positive n l = grind (arith, nat_tests)

kept : (x : List ℕ) (parts : List (List ℕ)) → 0 < length x
    → filter nonempty (x ∷ parts) ≡ x ∷ filter nonempty parts
kept x parts l =
    ap (λ t. cond t (x ∷ filter nonempty parts) (filter nonempty parts)) (positive (length x) l)

-- a word in front, and the byte that ends it, come off
first_word : (x sep rest : List ℕ) → 0 < length x → NoCharPasses is_ascii_whitespace x
    → IsAsciiSeparator sep rest → words (x ++ (sep ++ rest)) ≡ x ∷ words rest
first_word x [] [] l v s =
    ap words (append-nil x) ∙ ap (filter nonempty) (slice_split_none is_ascii_whitespace x (visible x v))
    ∙ kept x [] l
first_word x [] (b ∷ rest) l v s = absurd (omega (arith, s.2 refl))
first_word x (y ∷ []) rest l v s =
    ap (filter nonempty)
    (slice_split_at is_ascii_whitespace x y rest (visible x v) (s.0 0 y (omega arith)))
    ∙ kept x (slice_split is_ascii_whitespace rest) l
first_word x (y ∷ z ∷ sep) rest l v s = absurd (omega (arith, s.1))

-- what `next` gives of a text's words is the first, and leaves the others
first_cut : (text rest : List ℕ) (r : Option (Bor (List ℕ)))
    → CutsAsciiWord text r rest (λ gap x sep. gap ++ (x ++ (sep ++ rest)))
    → MatchOption r (words text ≡ []) (λ x. words text ≡ x.now ∷ words rest)
first_cut text rest None h =
    ap words (sym (append-nil text)) ∙ behind_gap text [] (recursion_from_All _ text h.0)
first_cut text rest (Some x) h =
    let gap = h.3.0 in
    let sep = h.3.1 in
    ap words h.3.2 ∙ behind_gap gap (x.now ++ (sep ++ rest)) (recursion_from_All _ gap h.3.3)
    ∙ first_word x.now sep rest h.0 h.1 h.3.4

module _ (s t : SplitAscii) (r : Option (Bor (List ℕ))) (text : List ℕ)
    (is : split_ascii_whitespace_text s ≡ text) (h : split_ascii_whitespace_steps s r t) where
  abbrev Gave : Option (Bor (List ℕ)) → Type 0
  Gave q = MatchOption q (words (split_ascii_whitespace_text s) ≡ [])
      (λ x. words (split_ascii_whitespace_text s) ≡ x.now ∷ words (split_ascii_whitespace_text t))

  gave : Gave r
  gave = first_cut (split_ascii_whitespace_text s) (split_ascii_whitespace_text t) r h

  pub no_words : r ≡ None → words text ≡ []
  no_words e = ap words (sym is) ∙ subst Gave e gave

  pub next_word : {x : Bor (List ℕ)} → r ≡ Some x
      → words text ≡ x.now ∷ words (split_ascii_whitespace_text t)
  next_word {x} e = ap words (sym is) ∙ subst Gave e gave

-- what the words must be, read from the front

pub none_named : (all : List (List ℕ)) → all ≡ [] → (address : List ℕ) (slot : ℕ)
    → NamesNode all address slot → ⊥
none_named [] e address slot h = h
none_named (x ∷ xs) e address slot h = absurd (omega (arith, ap length e))

module _ (all more : List (List ℕ)) (first : List ℕ) (e : all ≡ first ∷ more) where
  pub slot_alone : more ≡ [] → (address : List ℕ) (slot : ℕ) → NamesNode all address slot → ⊥
  slot_alone n address slot h = subst (λ ws. NamesNode ws address slot) (e ∙ ap (λ ws. first ∷ ws) n) h

  pub no_slot : {E : Type 0} (r : Result ℕ E) → ParsesUnsigned 16 10 first r → None ≡ result_ok r
      → (address : List ℕ) (slot : ℕ) → NamesNode all address slot → ⊥
  no_slot (Ok n) p w address slot h = absurd (none-some n w)
  no_slot (Err f) p w address slot h = refused more (subst (λ ws. NamesNode ws address slot) e h)
    where
      refused : (ws : List (List ℕ)) → NamesNode (first ∷ ws) address slot → ⊥
      refused [] k = k
      refused (second ∷ rest) k = p (k.0.0, subst (λ n. n < 2 ^ 16) k.0.2 k.0.1)

  pub named : {E : Type 0} (r : Result ℕ E) (slot : ℕ) (second : List ℕ) (rest : List (List ℕ))
      → ParsesUnsigned 16 10 first r → Some slot ≡ result_ok r → more ≡ second ∷ rest
      → NamesNode all second slot
  named (Ok n) slot second rest p w m =
      let same : n ≡ slot = ap (λ o. unwrap_or o 0) (sym w) in
      subst (λ ws. NamesNode ws second slot) (sym (e ∙ ap (λ ws. first ∷ ws) m))
      ((p.0.0, subst (λ x. x < 2 ^ 16) (sym p.1 ∙ same) p.0.1, sym same ∙ p.1), refl)
  named (Err f) slot second rest p w m = absurd (none-some slot (sym w))
