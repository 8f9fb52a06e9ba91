-- Entries that are read from a text, line by line.
use Rattle.std.proofs.Common.{◌≡◌, ◌≢◌, ℕ, ◌<◌, ◌-◌, ◌==◌, Bool, true, false, cond, List, [], ◌∷◌, ◌++◌, length, take}
use Rattle.std.proofs.Common.{drop, get_or, refl, sym, ap, subst, ◌∙◌, ⊎_elim, inl, inr, string_cmp, String, Global}
use Rattle.std.proofs.Common.{encode_utf8, length-drop, take-append-drop, append-nil, append_assoc, arith}
use Rattle.std.proofs.lemmas.Bool.{cases_lt, eqb-true}
use Rattle.std.proofs.lemmas.Bool.Decides.{nat_tests}
use Rattle.std.proofs.lemmas.Grind.{common_steps}
use Rattle.std.proofs.lemmas.List.{get_or_default, nil_from_length, take_all}
use Rattle.std.proofs.lemmas.List.Splits.{slice_split_none, slice_split_at, length-slice_split}
use Rattle.std.proofs.lemmas.Str.{NoCharPasses-byte, encode_ascii}
use Rattle.std.specs.Char.{is_newline}
use Rattle.std.specs.List.{All, AllZip, filter_map, cons_option, slice_split}
use Rattle.std.specs.Str.{NoCharPasses}
use Rattle.std.specs.Str.Lines.{IsFirstLine, StripsCarriageReturn, lines, lines_of_parts, strip_carriage_return}
use Rattle.resp_value.specs.declared.value.Value.{Value}
use Rattle.resp_containers.specs.Keyed.{sorted, IsMerged}
use Rattle.resp_from.proofs.Conversions.{AllZip-more}
use Rattle.resp_types.specs.Info.{entries_of_text, entry_of_line, HoldsText, IsEntry}

abbrev is_lf : ℕ → Bool
is_lf byte = byte == 10

abbrev is_cr : ℕ → Bool
is_cr byte = byte == 13

not_cr : (byte : ℕ) → byte ≢ 13 → is_cr byte ≡ false
not_cr byte h = grind (arith, nat_tests)

-- no byte is a line feed where no character is
no_lf : (text : List ℕ) → NoCharPasses is_newline text → All (λ byte. is_lf byte ≡ false) text
no_lf text h k d l = subst (λ byte. is_lf byte ≡ false) (get_or_default text k 0 d l)
    (⊎_elim (λ low. NoCharPasses-byte is_newline text k h l low)
    (λ high. grind (arith, nat_tests)) (cases_lt (get_or text k 0) 128))

-- of two parts and more the first is a line, without the carriage return at its end
first_part : (part : List ℕ) (parts : List (List ℕ)) → 0 < length parts
    → lines_of_parts (part ∷ parts) ≡ strip_carriage_return part ∷ lines_of_parts parts
first_part part [] l = absurd (omega arith)
first_part part (x ∷ parts) l = refl

-- a part that ends in a carriage return is the line and that byte; any other is the line
stripped_line : (part line : List ℕ) → StripsCarriageReturn part line
    → strip_carriage_return part ≡ line
stripped_line [] line (inl h) = sym h.0
stripped_line (b ∷ part) line (inl h) =
    let kept : is_cr (get_or (b ∷ part) (length (b ∷ part) - 1) 0) ≡ false = not_cr _ (h.1 (omega arith)) in
    ap (λ t. cond t (take (length (b ∷ part) - 1) (b ∷ part)) (b ∷ part)) kept ∙ sym h.0
stripped_line part line (inr e) =
    let last : is_cr (get_or part (length part - 1) 0) ≡ true = grind (arith, common_steps, nat_tests) in
    let front : take (length part - 1) part ≡ line = grind (arith, common_steps) in
    ap (λ t. cond t (take (length part - 1) part) part) last ∙ front

-- a text with a line feed at n
cut_line : (text line rest : List ℕ) (n : ℕ) → All (λ byte. is_lf byte ≡ false) (take n text)
    → drop n text ≡ 10 ∷ rest → StripsCarriageReturn (take n text) line
    → lines text ≡ line ∷ lines rest
cut_line text line rest n none at strips =
    let whole : text ≡ take n text ++ 10 ∷ rest =
    sym (take-append-drop n text) ∙ ap (λ end. take n text ++ end) at in
    let parts : slice_split is_lf text ≡ take n text ∷ slice_split is_lf rest =
    ap (slice_split is_lf) whole ∙ slice_split_at is_lf (take n text) 10 rest none refl in
    ap lines_of_parts parts
    ∙ first_part (take n text) (slice_split is_lf rest) (omega (arith, length-slice_split is_lf rest))
    ∙ ap (λ first. first ∷ lines rest) (stripped_line (take n text) line strips)

-- a text without one
last_line : (text : List ℕ) → 0 < length text → All (λ byte. is_lf byte ≡ false) text
    → lines text ≡ text ∷ []
last_line [] some none = absurd (omega arith)
last_line (b ∷ text) some none =
    let bytes : (length (b ∷ text) == 0) ≡ false = grind (arith, nat_tests) in
    ap lines_of_parts (slice_split_none is_lf (b ∷ text) none)
    ∙ ap (λ t. cond t [] ((b ∷ text) ∷ [])) bytes

-- the lines of a text are its first line and those of the rest
first_line : (text line rest : List ℕ) → 0 < length text → IsFirstLine text line rest
    → lines text ≡ line ∷ lines rest
first_line text line rest some h =
    let n : ℕ = h.0 in
    let none = no_lf (take n text) h.1 in
    ⊎_elim
    (λ within.
    let begins = h.2 (omega (arith, length-drop n text, within)) in
    let lf : begins.0 ≡ 10 = eqb-true begins.0 10 begins.1 in
    let at : drop n text ≡ 10 ∷ rest = begins.2
    ∙ (ap (λ c. encode_utf8 c ++ rest) lf ∙ ap (λ bytes. bytes ++ rest) (encode_ascii 10 (omega arith))) in
    cut_line text line rest n none at (h.5 within))
    (λ past.
    let whole : take n text ≡ text = take_all n text past in
    let empty : rest ≡ [] = nil_from_length rest (omega (arith, h.3, past)) in
    let same : line ≡ text = h.4 (omega (arith, h.3, past)) in
    last_line text some (subst (All (λ byte. is_lf byte ≡ false)) whole none)
    ∙ (ap (λ first. first ∷ []) (sym same) ∙ ap (λ end. line ∷ lines end) (sym empty)))
    (cases_lt n (length text))

pub first_entry : (text line rest : List ℕ) → 0 < length text → IsFirstLine text line rest
    → entries_of_text text ≡ cons_option (entry_of_line line) (entries_of_text rest)
first_entry text line rest some h = ap (filter_map entry_of_line) (first_line text line rest some h)

-- what was read of a text of which the rest is still to come
pub record ReadSoFar (text rest : List ℕ) (entries : List (String Global × Value)) : Type 0 where
  pub said : List (List ℕ × List ℕ)
  pub read : List (String Global × Value)
  pub split : entries_of_text text ≡ said ++ entries_of_text rest
  pub each : AllZip IsEntry said read
  pub merged : IsMerged (sorted string_cmp) read entries

pub none_read : (text rest : List ℕ) (entries : List (String Global × Value)) → rest ≡ text
    → IsMerged (sorted string_cmp) [] entries → ReadSoFar text rest entries
none_read text rest entries e merged = record {
  said = [];
  read = [];
  split = ap entries_of_text (sym e);
  each = tt;
  merged = merged;
}

pub line_skipped : (text rest after : List ℕ) (entries : List (String Global × Value))
    → ReadSoFar text rest entries → entries_of_text rest ≡ entries_of_text after
    → ReadSoFar text after entries
line_skipped text rest after entries h e = record {
  said = h.said;
  read = h.read;
  split = h.split ∙ ap (λ more. h.said ++ more) e;
  each = h.each;
  merged = h.merged;
}

module _ (text rest after : List ℕ) (old new : List (String Global × Value)) (key : String Global)
    (value : Value) (entry : List ℕ × List ℕ) where
  pub line_read : ReadSoFar text rest old → entries_of_text rest ≡ entry ∷ entries_of_text after
      → IsEntry entry (key, value)
      → ((done : List (String Global × Value)) → IsMerged (sorted string_cmp) done old
      → IsMerged (sorted string_cmp) (done ++ (key, value) ∷ []) new)
      → ReadSoFar text after new
  line_read h e is put = record {
    said = h.said ++ entry ∷ [];
    read = h.read ++ (key, value) ∷ [];
    split = h.split ∙ (ap (λ more. h.said ++ more) e ∙ sym (append_assoc h.said (entry ∷ []) (entries_of_text after)));
    each = AllZip-more IsEntry h.said h.read entry (key, value) h.each is;
    merged = put h.read h.merged;
  }

pub all_read : (text rest : List ℕ) (entries : List (String Global × Value))
    → ReadSoFar text rest entries → length rest ≡ 0 → HoldsText text entries
all_read text rest entries h e = record {
  read = h.read;
  each = subst (λ said. AllZip IsEntry said h.read)
      (sym (h.split ∙ (ap (λ end. h.said ++ entries_of_text end) (nil_from_length rest e) ∙ append-nil h.said)))
      h.each;
  merged = h.merged;
}
