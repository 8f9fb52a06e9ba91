-- Cursor arguments: what their places and texts keep.
use Rattle.std.proofs.Common.{◌≡◌, ℕ, zero, suc, ◌+◌, ◌<◌, ◌≤◌, List, [], ◌∷◌, length, Some, refl, sym, ap, ◌∙◌, arith}
use Rattle.std.proofs.lemmas.List.{length-set}
use Rattle.std.specs.Prelude.{slice_get, slice_set}
use Rattle.resp_args.specs.Args.{Args}
use Rattle.resp_command.specs.Cursors.{with_text_at, AscendWithin, HaveText}
use Rattle.resp_command.specs.Packed.{packed, packed_or_none}

-- ---- places

pub ascend_room : (from end : ℕ) (places : List ℕ) → AscendWithin from end places → from ≤ end
ascend_room from end [] h = h
ascend_room from end (place ∷ places) h = let l = h.0 in let m = ascend_room (place + 1) end places h.1 in omega arith

-- ---- texts

get_set_same : (args : Args) (place : ℕ) (text : List ℕ) → place < length args
    → slice_get (slice_set args place text) place ≡ Some text
get_set_same [] place text l = absurd (omega arith)
get_set_same (arg ∷ args) zero text l = refl
get_set_same (arg ∷ args) (suc place) text l = get_set_same args place text (omega arith)

get_set_keeps : (args : Args) (place other : ℕ) (text : List ℕ) → slice_get args other ≡ Some text
    → slice_get (slice_set args place text) other ≡ Some text
get_set_keeps [] place other text h = cc
get_set_keeps (arg ∷ args) zero zero text h = refl
get_set_keeps (arg ∷ args) zero (suc other) text h = h
get_set_keeps (arg ∷ args) (suc place) zero text h = h
get_set_keeps (arg ∷ args) (suc place) (suc other) text h = get_set_keeps args place other text h

length-with_text_at : (text : List ℕ) (places : List ℕ) (args : Args) → length (with_text_at text places args)
    ≡ length args
length-with_text_at text [] args = refl
length-with_text_at text (place ∷ places) args = length-with_text_at text places (slice_set args place text)
    ∙ length-set args place text

-- arguments are there with another cursor, or none are
none_of_none : (args : Args) → length args ≡ 0 → args ≡ []
none_of_none [] e = refl
none_of_none (arg ∷ args) e = cc

pub none_with_cursor : (text : List ℕ) (places : List ℕ) (args : Args) → args ≡ [] → with_text_at text places args ≡ []
none_with_cursor text places args e = none_of_none (with_text_at text places args)
    (length-with_text_at text places args ∙ ap length e)

pub some_with_cursor : (text : List ℕ) (places : List ℕ) (args : Args) → (args ≡ [] → ⊥)
    → packed (with_text_at text places args) ≡ packed_or_none (with_text_at text places args)
some_with_cursor text places args some = by_args (with_text_at text places args)
    (λ e. some (none_of_none args (sym (length-with_text_at text places args) ∙ ap length e)))
  where
    by_args : (xs : Args) → (xs ≡ [] → ⊥) → packed xs ≡ packed_or_none xs
    by_args [] some = absurd (some refl)
    by_args (x ∷ xs) some = refl

get_with_text_at : (text : List ℕ) (places : List ℕ) (args : Args) (place : ℕ) → slice_get args place ≡ Some text
    → slice_get (with_text_at text places args) place ≡ Some text
get_with_text_at text [] args place h = h
get_with_text_at text (first ∷ places) args place h = get_with_text_at text places (slice_set args first text) place
    (get_set_keeps args first place text h)

pub have_written : (text : List ℕ) (from end : ℕ) (places : List ℕ) (args : Args) → AscendWithin from end places
    → end ≤ length args → HaveText text (with_text_at text places args) places
have_written text from end [] args h le = tt
have_written text from end (place ∷ places) args h le =
    let room = ascend_room (place + 1) end places h.1 in (
      get_with_text_at text places (slice_set args place text) place (get_set_same args place text (omega arith)),
      have_written text (place + 1) end places (slice_set args place text) h.1
          (omega (arith, length-set args place text)),
    )
