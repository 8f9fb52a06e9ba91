use Rattle.std.proofs.Common.{◌≡◌, ℕ, ◌+◌, ◌-◌, ◌<◌, Bool, true, false, List, [], ◌∷◌, length, get_or, take, drop, Some}
use Rattle.std.proofs.Common.{refl, sym, ap, ◌∙◌, arith, option_map}
use Rattle.std.proofs.lemmas.List.{drop_more, get_or-map, get_or-take, length-map, length-take-le}
use Rattle.std.specs.Borrow.{Bor}
use Rattle.std.specs.List.{position_from}
use Rattle.std.specs.Str.{str_eq_ignore_ascii_case}
use Rattle.resp_routing.specs.Commands.{words}
use Rattle.resp_routing.specs.Keys.{word_text}
use Rattle.resp_routing.specs.declared.commands.Keyword.{Keyword}
use Rattle.resp_routing.proofs.commands.Keyword.place_after.Goals as goal

-- all words but the last
abbrev but_last : List (Bor (List ℕ)) → List (List ℕ)
but_last args = take (length (words args) - 1) (words args)

-- the words from one on that has another after it
next_word : (args : List (Bor (List ℕ))) (place : ℕ) (arg : Bor (List ℕ)) → place < length args - 1
    → drop place (but_last args) ≡ (get_or args place arg).now ∷ drop (place + 1) (but_last args)
next_word args place arg lt =
    let count : length (words args) ≡ length args = length-map args (λ a. a.now) in
    let long : length (take (length (words args) - 1) (words args)) ≡ length (words args) - 1
    = length-take-le (length (words args) - 1) (words args) (omega arith) in
    drop_more (but_last args) place [] (omega arith)
    ∙ ap (λ word. word ∷ drop (place + 1) (but_last args))
    (get_or-take (length (words args) - 1) (words args) place [] (omega arith)
    ∙ get_or-map (λ a. a.now) args place arg [] (omega arith))

module _ (is : List ℕ → Bool) (args : List (Bor (List ℕ))) (from place : ℕ) (arg : Bor (List ℕ)) where
  abbrev Held : ℕ → Type 0
  Held now = position_from is now (drop now (but_last args)) ≡ position_from is from (drop from (but_last args))

  at_word : place < length args - 1 → is (get_or args place arg).now ≡ true → Held place
      → Some (place + 1) ≡ option_map (λ k. k + 1) (position_from is from (drop from (but_last args)))
  at_word lt same held =
      let here : position_from is place (drop place (but_last args)) ≡ Some place
      = rw (next_word args place arg lt, same) refl in
      ap (option_map (λ k. k + 1)) (sym here ∙ held)

  past_word : place < length args - 1 → is (get_or args place arg).now ≡ false → Held place → Held (place + 1)
  past_word lt other held =
      let here : position_from is place (drop place (but_last args)) ≡ position_from is (place + 1) (drop (place + 1) (but_last args))
      = rw (next_word args place arg lt, other) refl in
      sym here ∙ held

abbrev is_word : Keyword → List ℕ → Bool
is_word word = str_eq_ignore_ascii_case (word_text word)

pub returns-then-is : goal.returns-then-is
returns-then-is c =
    at_word (is_word c.args.self.now) c.args.args.now c.args.from c.loop-place.place _ (omega arith)
    (sym c.is.ensures ∙ c.if-is.true) c.loop-place.invariant

pub loop-place-preserved : goal.loop-place-preserved
loop-place-preserved c =
    past_word (is_word c.args.self.now) c.args.args.now c.args.from c.loop-place.place _ (omega arith)
    (sym c.is.ensures ∙ c.if-is.false) c.loop-place.invariant
