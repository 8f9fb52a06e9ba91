-- The text of a double has graphic characters of ASCII alone.
use Rattle.std.proofs.Common.{◌≡◌, ℕ, ◌+◌, ◌<◌, ◌≤◌, ◌&&◌, ◌||◌, ◌==◌, Bool, true, false, cond, List, [], ◌∷◌, ◌++◌}
use Rattle.std.proofs.Common.{length, take, drop, map, get_or, nat_lt, Some, None, codes, refl, sym, subst, arith}
use Rattle.std.proofs.lemmas.Bool.{and_parts, and_from, ltb-true, lt-ltb}
use Rattle.std.proofs.lemmas.Bool.Decides.{Decides-eqb, nat_tests}
use Rattle.std.proofs.lemmas.List.Sums.{split_at_first, passes_at_first}
use Rattle.std.proofs.lemmas.Slice.Eq.{bytes_eq-Decides}
use Rattle.std.specs.Char.{is_ascii_digit, to_ascii_lowercase}
use Rattle.std.specs.List.{list_all, position_or_len, before_first, after_first}
use Rattle.std.specs.Str.{bytes_eq, str_to_ascii_lowercase}
use Rattle.std.specs.Str.Parse.{without_leading_sign}
use Rattle.resp_parse.specs.Double.{is_word, is_e, is_point, is_mantissa, is_scientific, is_double}
use Rattle.resp_parse.specs.Number.{is_decimal, is_digits}
use Rattle.resp_encode.proofs.NumbersReadBack.{is_graphic, Graphic, digits-graphic}

graphic-append : (xs ys : List ℕ) → Graphic xs → Graphic ys → Graphic (xs ++ ys)
graphic-append [] ys g h = h
graphic-append (x ∷ xs) ys g h = let p = and_parts (is_graphic x) (list_all is_graphic xs) g in
    and_from (is_graphic x) (list_all is_graphic (xs ++ ys)) p.0 (graphic-append xs ys p.1 h)

abbrev Digits : List ℕ → Type 0
Digits text = list_all is_ascii_digit text ≡ true

digits-parts : (xs ys : List ℕ) → Digits (xs ++ ys) → Digits xs × Digits ys
digits-parts [] ys h = (refl, h)
digits-parts (x ∷ xs) ys h =
    let p = and_parts (is_ascii_digit x) (list_all is_ascii_digit (xs ++ ys)) h in
    let q = digits-parts xs ys p.1 in
    (and_from (is_ascii_digit x) (list_all is_ascii_digit xs) p.0 q.0, q.1)

digits-from : (text : List ℕ) → is_digits text ≡ true → Digits text
digits-from text h = (and_parts (nat_lt 0 (length text)) (list_all is_ascii_digit text) h).1

-- ---- around a byte

cut-graphic : (p : ℕ → Bool) → ((c : ℕ) → p c ≡ true → is_graphic c ≡ true) → (text : List ℕ)
    → nat_lt (position_or_len p text) (length text) ≡ true → Graphic (before_first p text)
    → Graphic (after_first p text) → Graphic text
cut-graphic p passing text inside before after =
    let i = ltb-true (position_or_len p text) (length text) inside in
    let c = get_or text (position_or_len p text) 0 in
    subst Graphic (sym (split_at_first p text 0 i))
    (graphic-append (before_first p text) (c ∷ after_first p text) before
    (and_from (is_graphic c) (list_all is_graphic (after_first p text)) (passing c (passes_at_first p text 0 i)) after))

point-graphic : (c : ℕ) → is_point c ≡ true → is_graphic c ≡ true
point-graphic c h = let e : c ≡ 46 = (Decides-eqb c 46).0 h in rw e refl

e-graphic : (c : ℕ) → is_e c ≡ true → is_graphic c ≡ true
e-graphic c h = by (c == 101) (c == 69) refl refl h
  where
    by : (s t : Bool) → (c == 101) ≡ s → (c == 69) ≡ t → (s || t) ≡ true → is_graphic c ≡ true
    by true t i j k = let e : c ≡ 101 = (Decides-eqb c 101).0 i in rw e refl
    by false true i j k = let e : c ≡ 69 = (Decides-eqb c 69).0 j in rw e refl
    by false false i j k = absurd (cc)

mantissa-graphic : (text : List ℕ) → is_mantissa text ≡ true → Graphic text
mantissa-graphic text h = by (nat_lt (position_or_len is_point text) (length text)) refl h
  where
    by : (b : Bool) → nat_lt (position_or_len is_point text) (length text) ≡ b
        → (elim (cond b (Some (position_or_len is_point text)) None) as (λ _. Bool)
        [ Some at ↦ is_digits (take at text ++ drop (at + 1) text) | None ↦ is_digits text ]) ≡ true → Graphic text
    by true inside i =
        let p = digits-parts (before_first is_point text) (after_first is_point text)
        (digits-from (before_first is_point text ++ after_first is_point text) i) in
        cut-graphic is_point point-graphic text inside (digits-graphic (before_first is_point text) p.0)
        (digits-graphic (after_first is_point text) p.1)
    by false none i = digits-graphic text (digits-from text i)

-- ---- signs

sign-graphic : (text : List ℕ) → Graphic (without_leading_sign text) → Graphic text
sign-graphic [] h = refl
sign-graphic (c ∷ text) h = by (c == 45) (c == 43) refl refl h
  where
    by : (s t : Bool) → (c == 45) ≡ s → (c == 43) ≡ t
        → Graphic (cond s (drop 1 (c ∷ text)) (drop (cond t 1 0) (c ∷ text))) → Graphic (c ∷ text)
    by true t i j g = let e : c ≡ 45 = (Decides-eqb c 45).0 i in rw e g
    by false true i j g = let e : c ≡ 43 = (Decides-eqb c 43).0 j in rw e g
    by false false i j g = g

scientific-graphic : (text : List ℕ) → is_scientific text ≡ true → Graphic text
scientific-graphic text h = by (nat_lt (position_or_len is_e text) (length text)) refl h
  where
    by : (b : Bool) → nat_lt (position_or_len is_e text) (length text) ≡ b
        → (elim (cond b (Some (position_or_len is_e text)) None) as (λ _. Bool)
        [ Some at ↦ is_mantissa (take at text) && is_decimal (drop (at + 1) text) | None ↦ is_mantissa text ]) ≡ true
        → Graphic text
    by true inside i =
        let p = and_parts (is_mantissa (before_first is_e text)) (is_decimal (after_first is_e text)) i in
        cut-graphic is_e e-graphic text inside (mantissa-graphic (before_first is_e text) p.0)
        (sign-graphic (after_first is_e text) (digits-graphic (without_leading_sign (after_first is_e text))
        (digits-from (without_leading_sign (after_first is_e text)) p.1)))
    by false none i = mantissa-graphic text i

-- ---- words

lower-graphic : (c : ℕ) → is_graphic (to_ascii_lowercase c) ≡ true → is_graphic c ≡ true
lower-graphic c h = by (nat_lt c 65) (nat_lt c 91) refl refl h
  where
    by : (s t : Bool) → nat_lt c 65 ≡ s → nat_lt c 91 ≡ t → is_graphic (cond s c (cond t (c + 32) c)) ≡ true
        → is_graphic c ≡ true
    by true t i j k = k
    by false true i j k =
        let low : 65 ≤ c = grind (arith, nat_tests) in
        let high : c < 91 = ltb-true c 91 j in
        and_from (nat_lt 32 c) (nat_lt c 127) (lt-ltb 32 c (omega arith)) (lt-ltb c 127 (omega arith))
    by false false i j k = k

lowered-graphic : (text : List ℕ) → Graphic (map to_ascii_lowercase text) → Graphic text
lowered-graphic [] h = refl
lowered-graphic (c ∷ text) h = let p = and_parts (is_graphic (to_ascii_lowercase c))
    (list_all is_graphic (map to_ascii_lowercase text)) h in
    and_from (is_graphic c) (list_all is_graphic text) (lower-graphic c p.0) (lowered-graphic text p.1)

this-word : (text word : List ℕ) → bytes_eq (str_to_ascii_lowercase text) word ≡ true → Graphic word → Graphic text
this-word text word h g = lowered-graphic text
    (subst Graphic (sym ((bytes_eq-Decides (str_to_ascii_lowercase text) word).0 h)) g)

word-graphic : (text : List ℕ) → is_word text ≡ true → Graphic text
word-graphic text h = by (bytes_eq (str_to_ascii_lowercase text) (codes "inf"))
    (bytes_eq (str_to_ascii_lowercase text) (codes "infinity")) (bytes_eq (str_to_ascii_lowercase text) (codes "nan"))
    refl refl refl h
  where
    by : (s t u : Bool) → bytes_eq (str_to_ascii_lowercase text) (codes "inf") ≡ s
        → bytes_eq (str_to_ascii_lowercase text) (codes "infinity") ≡ t
        → bytes_eq (str_to_ascii_lowercase text) (codes "nan") ≡ u → (s || t || u) ≡ true → Graphic text
    by true t u i j k l = this-word text (codes "inf") i refl
    by false true u i j k l = this-word text (codes "infinity") j refl
    by false false true i j k l = this-word text (codes "nan") k refl
    by false false false i j k l = absurd (cc)

pub double-graphic : (text : List ℕ) → is_double text ≡ true → Graphic text
double-graphic text h = sign-graphic text (by (is_word (without_leading_sign text)) refl h)
  where
    by : (b : Bool) → is_word (without_leading_sign text) ≡ b → (b || is_scientific (without_leading_sign text)) ≡ true
        → Graphic (without_leading_sign text)
    by true i k = word-graphic (without_leading_sign text) i
    by false i k = scientific-graphic (without_leading_sign text) k
