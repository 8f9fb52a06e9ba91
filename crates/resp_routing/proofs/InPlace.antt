-- A row with a name is the one at the name's place.
use Rattle.std.proofs.Common.{◌≡◌, ℕ, zero, suc, ◌+◌, ◌-◌, ◌*◌, ◌%◌, ◌^◌, ◌<◌, ◌≤◌, Bool, true, false, cond, ◌&&◌, ◌==◌, nat_lt, List, [], ◌∷◌}
use Rattle.std.proofs.Common.{Option, None, Some, slice_get, refl, sym, ap, ◌∙◌, arith, inl, inr}
use Rattle.std.proofs.lemmas.Bool.{cases_eq, eqb-true}
use Rattle.std.specs.Char.{to_ascii_lowercase}
use Rattle.std.specs.List.{find}
use Rattle.std.specs.Str.{str_eq_ignore_ascii_case}
use Rattle.resp_routing.specs.Commands.{is_named, unpadded}
use Rattle.resp_routing.specs.Places.{are_in_place, hash_on, place_by, place_of}
use Rattle.resp_routing.specs.declared.commands.CommandInfo.{CommandInfo}

both_of : (x rest : Bool) → (x && rest) ≡ true → (x ≡ true) × (rest ≡ true)
both_of true rest h = (refl, h)
both_of false rest h = cc

-- the case of a letter is one of its bits
low_bits : (c : ℕ) → to_ascii_lowercase c % 32 ≡ c % 32
low_bits c = of_tests (nat_lt c 65) (nat_lt c 91)
  where
    of_tests : (before inside : Bool) → cond before c (cond inside (c + 32) c) % 32 ≡ c % 32
    of_tests true inside = refl
    of_tests false true = omega arith
    of_tests false false = refl

same_bits : (x y : ℕ) → (to_ascii_lowercase x == to_ascii_lowercase y) ≡ true → x % 32 ≡ y % 32
same_bits x y same = sym (low_bits x) ∙ ap (λ c. c % 32) (eqb-true _ _ same) ∙ low_bits y

same_hash : (hash : ℕ) (a b : List ℕ) → str_eq_ignore_ascii_case a b ≡ true → hash_on hash a ≡ hash_on hash b
unfolding hash_on
same_hash hash [] [] same = refl
same_hash hash [] (y ∷ ys) same = cc
same_hash hash (x ∷ xs) [] same = cc
same_hash hash (x ∷ xs) (y ∷ ys) same =
    let both = both_of _ _ same in
    rw (same_bits x y both.0) (same_hash ((hash * 17 % 2 ^ 64 + y % 32) % 2 ^ 64) xs ys both.1)

module _ (name subcommand : List ℕ) where
  abbrev here : ℕ
  here = place_of name subcommand

  pub row_here : (row : CommandInfo) → is_named name subcommand row ≡ true
      → place_of (unpadded row.name) (unpadded row.subcommand) ≡ here
  row_here row named =
      let both = both_of _ _ named in
      ap place_by (rw (same_hash 0 (unpadded row.name) name both.0)
      (same_hash (hash_on 0 name) (unpadded row.subcommand) subcommand both.1))

  -- none of the rows after the place has the name
  none_after : (place : ℕ) (rows : List CommandInfo) → are_in_place place rows ≡ true → here < place
      → find (is_named name subcommand) rows ≡ None
  unfolding are_in_place
  none_after place [] held past = refl
  none_after place (row ∷ rows) held past =
      let both = both_of _ _ held in
      of_test (is_named name subcommand row) refl (eqb-true _ _ both.0) (none_after (place + 1) rows both.1 (omega arith))
    where
      of_test : (named : Bool) → is_named name subcommand row ≡ named
          → place_of (unpadded row.name) (unpadded row.subcommand) ≡ place
          → find (is_named name subcommand) rows ≡ None
          → cond named (Some row) (find (is_named name subcommand) rows) ≡ None
      of_test true named is rest =
          let one = row_here row named in
          absurd (omega (arith, one, is, past))
      of_test false other is rest = rest

  -- the row, if it has the name
  abbrev pub if_named : Option CommandInfo → Option CommandInfo
  if_named None = None
  if_named (Some row) = cond (is_named name subcommand row) (Some row) None

  none_there : (n : ℕ) → None ≡ if_named (slice_get {X = CommandInfo} [] n)
  none_there zero = refl
  none_there (suc n) = refl

  found : (place : ℕ) (rows : List CommandInfo) → are_in_place place rows ≡ true → place ≤ here
      → find (is_named name subcommand) rows ≡ if_named (slice_get rows (here - place))
  unfolding are_in_place
  found place [] held from = none_there (here - place)
  found place (row ∷ rows) held from =
      let both = both_of _ _ held in
      of_test (is_named name subcommand row) refl (eqb-true _ _ both.0) both.1 (λ more. found (place + 1) rows both.1 more)
    where
      of_test : (named : Bool) → is_named name subcommand row ≡ named
          → place_of (unpadded row.name) (unpadded row.subcommand) ≡ place
          → are_in_place (place + 1) rows ≡ true
          → (place + 1 ≤ here → find (is_named name subcommand) rows ≡ if_named (slice_get rows (here - (place + 1))))
          → cond named (Some row) (find (is_named name subcommand) rows) ≡ if_named (slice_get (row ∷ rows) (here - place))
      of_test true named is rest later =
          let one = row_here row named in
          let none : here - place ≡ 0 = omega (arith, one, is) in
          rw (none, named) refl
      of_test false other is rest later = elim (cases_eq here place) [
        | inl same ↦
            let none : here - place ≡ 0 = omega arith in
            rw (none, other) (none_after (place + 1) rows rest (omega arith))
        | inr differs ↦
            let more : here - place ≡ suc (here - (place + 1)) = omega arith in
            rw more (later (omega arith))
      ]

  abbrev pub named_row : List CommandInfo → Option CommandInfo
  named_row rows = find (is_named name subcommand) rows

  at_place : (rows : List CommandInfo) (place : ℕ) → are_in_place 0 rows ≡ true → place ≡ here
      → named_row rows ≡ if_named (slice_get rows place)
  at_place rows place held is =
      let start : here - 0 ≡ place = omega (arith, is) in
      found 0 rows held (omega arith) ∙ ap (λ n. if_named (slice_get rows n)) start

  pub row_is : (rows : List CommandInfo) (place : ℕ) (row : CommandInfo) → are_in_place 0 rows ≡ true → place ≡ here
      → slice_get rows place ≡ Some row → is_named name subcommand row ≡ true → Some row ≡ named_row rows
  row_is rows place row held is there named = sym (at_place rows place held is ∙ rw (there, named) refl)

  pub row_is_other : (rows : List CommandInfo) (place : ℕ) (row : CommandInfo) → are_in_place 0 rows ≡ true → place ≡ here
      → slice_get rows place ≡ Some row → is_named name subcommand row ≡ false → None ≡ named_row rows
  row_is_other rows place row held is there other = sym (at_place rows place held is ∙ rw (there, other) refl)

  pub row_is_none : (rows : List CommandInfo) (place : ℕ) → are_in_place 0 rows ≡ true → place ≡ here
      → slice_get rows place ≡ None → None ≡ named_row rows
  row_is_none rows place held is none = sym (at_place rows place held is ∙ rw none refl)
