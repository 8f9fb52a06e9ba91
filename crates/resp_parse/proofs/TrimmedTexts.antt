-- A text that is UTF-8 is UTF-8 without the white space around it.
use Rattle.std.proofs.Common.{◌≡◌, ℕ, Bool, true, false, cond, List, [], ◌∷◌, refl}
use Rattle.std.proofs.lemmas.Bool.{and_parts, and_from}
use Rattle.std.proofs.lemmas.Str.{scalars-chars}
use Rattle.std.specs.Char.{is_whitespace}
use Rattle.std.specs.Str.{IsUtf8, all_scalars, chars, trim, trim_start, trim_end, skip_leading_whitespace}
use Rattle.std.specs.Str.{drop_trailing_whitespace}

skipped-scalars : (cs : List ℕ) → all_scalars cs ≡ true → all_scalars (skip_leading_whitespace cs) ≡ true
skipped-scalars [] h = refl
skipped-scalars (c ∷ cs) h = by (is_whitespace c) (skipped-scalars cs (and_parts _ _ h).1)
  where
    by : (b : Bool) → all_scalars (skip_leading_whitespace cs) ≡ true
        → all_scalars (cond b (skip_leading_whitespace cs) (c ∷ cs)) ≡ true
    by true later = later
    by false later = h

kept-scalars : (cs : List ℕ) → all_scalars cs ≡ true → all_scalars (drop_trailing_whitespace cs) ≡ true
kept-scalars [] h = refl
kept-scalars (c ∷ cs) h = by _ (kept-scalars cs (and_parts _ _ h).1)
  where
    by : (b : Bool) → all_scalars (drop_trailing_whitespace cs) ≡ true
        → all_scalars (cond b [] (c ∷ drop_trailing_whitespace cs)) ≡ true
    by true later = refl
    by false later = and_from _ _ (and_parts _ _ h).0 later

pub trim-utf8 : (text : List ℕ) → IsUtf8 text → IsUtf8 (trim text)
unfolding trim_start trim_end
trim-utf8 text u =
    let s : IsUtf8 (trim_start text) =
    (skip_leading_whitespace (chars text), (skipped-scalars (chars text) (scalars-chars text u), refl)) in
    let start = trim_start text in
    (drop_trailing_whitespace (chars start), (kept-scalars (chars start) (scalars-chars start s), refl))
