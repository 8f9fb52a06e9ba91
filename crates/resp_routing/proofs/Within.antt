-- Positions of keys are positions of arguments.
use Rattle.std.proofs.Common.{◌≡◌, ℕ, ◌+◌, ◌-◌, ◌/◌, ◌%◌, ◌<◌, if◌then◌else◌, ◌≤◌, Bool, true, false, ◌&&◌, nat_lt, nat_le, ◌==◌, List, [], ◌∷◌}
use Rattle.std.proofs.Common.{length, drop, filter, All, Option, None, Some, Result, Ok, Err, refl, arith}
use Rattle.std.proofs.lemmas.Bool.{ltb-true, leb-true}
use Rattle.std.proofs.lemmas.List.{length-drop, length-map}
use Rattle.std.proofs.lemmas.List.Elements.{All-append, All-filter}
use Rattle.std.proofs.lemmas.List.FromFn.{get_or-range_with_len, length-range_with_len}
use Rattle.std.specs.List.{range_with_len}
use Rattle.resp_args.specs.Args.{Args}
use Rattle.std.specs.Borrow.{Bor}
use Rattle.resp_routing.specs.Commands.{words}
use Rattle.resp_routing.specs.Keys.{Positions, beginning, both, counted, every_second, found, keys_in, named, number_of, numbered}
use Rattle.resp_routing.specs.declared.commands.FindKeys.{FindKeys}
use Rattle.resp_routing.specs.declared.commands.FindKeys.TheVariants.{First, AllBut, EverySecond, FirstHalf, Counted}
use Rattle.resp_routing.specs.declared.commands.KeySpec.{KeySpec}
use Rattle.resp_routing.specs.declared.commands.Keys.{Keys}
use Rattle.resp_routing.specs.declared.commands.Keys.TheVariants.{NoKeys, One, Two, Three, Channels, Unspecified, OfSubcommand}
use Rattle.resp_routing.specs.declared.errors.RoutingError.{RoutingError}
use Rattle.resp_routing.specs.declared.errors.RoutingError.TheVariants.{TooFewArguments, BadKeyCount}

-- if there are positions, each is below the end
abbrev Under : ℕ → Positions → Type 0
Under end (Ok ps) = All (λ place. place < end) ps
Under end (Err e) = Unit {0}

range_under : (first count end : ℕ) → first + count ≤ end → All (λ place. place < end) (range_with_len first count)
range_under first count end fit = λ k d lt.
    let n : k < count = rw (length-range_with_len first count) at lt in
    rw (get_or-range_with_len first count k d n) (omega arith)

counted_under : (first count left end : ℕ) → (0 < left → first + left ≤ end) → Under end (counted first count left)
counted_under first count left end fit = of_tests (nat_lt 0 count) (nat_le count left) refl refl
  where
    of_tests : (some few : Bool) → nat_lt 0 count ≡ some → nat_le count left ≡ few → Under end
        (if some && few then Ok (range_with_len first count) else Err TooFewArguments)
    of_tests true true one two =
        let a = ltb-true 0 count one in
        let b = leb-true count left two in
        let whole = fit (omega arith) in
        range_under first count end (omega arith)
    of_tests true false one two = tt
    of_tests false few one two = tt

none_under : (end : ℕ) → All (λ place. place < end) []
none_under end = λ k d lt. absurd (omega arith)

numbered_under : (least first left end : ℕ) (count : Option ℕ) → (0 < left → first + left ≤ end)
    → Under end (numbered least first left count)
numbered_under least first left end None fit = tt
numbered_under least first left end (Some count) fit = of_tests (nat_lt count least) (count == 0) refl refl
  where
    of_tests : (few none : Bool) → nat_lt count least ≡ few → (count == 0) ≡ none
        → Under end (if few then Err BadKeyCount else (if none then Ok [] else counted first count left))
    of_tests true none one two = tt
    of_tests false true one two = none_under end
    of_tests false false one two = counted_under first count left end fit

second_under : (first left end : ℕ) → (0 < left → first + left ≤ end) → Under end (every_second first left)
second_under first left end fit = of_test (nat_lt 0 left) refl
  where
    of_test : (some : Bool) → nat_lt 0 left ≡ some → Under end
        (if some then Ok (filter (λ place. (place - first) % 2 == 0) (range_with_len first left)) else Err TooFewArguments)
    of_test true one =
        let whole = fit (ltb-true 0 left one) in
        (All-filter (λ place. (place - first) % 2 == 0) (λ place. place < end) (range_with_len first left)
        (range_under first left end whole))
    of_test false one = tt

found_under : (find : FindKeys) (first end : ℕ) (rest : Args) → (0 < length rest → first + length rest ≤ end)
    → Under end (found find first rest)
found_under (First count) first end rest fit = counted_under first count (length rest) end fit
found_under (AllBut count) first end rest fit = counted_under first (length rest - count) (length rest) end fit
found_under FirstHalf first end rest fit = counted_under first (length rest / 2) (length rest) end fit
found_under EverySecond first end rest fit = second_under first (length rest) end fit
found_under (Counted least) first end [] fit = tt
found_under (Counted least) first end (text ∷ rest) fit =
    numbered_under least (first + 1) (length rest) end (number_of text)
    (λ some. let whole = fit (omega arith) in omega arith)

named_under : (spec : KeySpec) (args : Args) → Under (length args) (named spec args)
named_under spec args = of_beginning (beginning spec.begin args)
  where
    of_beginning : (begin : Result (Option ℕ) RoutingError) → Under (length args) (elim begin [
      | Ok (Some first) ↦ found spec.find first (drop first args)
      | Ok None ↦ Ok []
      | Err e ↦ Err e
    ])
    of_beginning (Ok (Some first)) =
        let left = length-drop first args in
        found_under spec.find first (length args) (drop first args) (λ some. omega arith)
    of_beginning (Ok None) = none_under (length args)
    of_beginning (Err e) = tt

both_under : (end : ℕ) (a b : Positions) → Under end a → Under end b → Under end (both a b)
both_under end (Ok ps) (Ok qs) one two = All-append (λ place. place < end) ps qs one two
both_under end (Ok ps) (Err e) one two = tt
both_under end (Err e) b one two = tt

keys_under : (keys : Keys) (args : Args) → Under (length args) (keys_in keys args)
unfolding keys_in
keys_under NoKeys args = none_under (length args)
keys_under (One a) args = named_under a args
keys_under (Two a b) args = both_under (length args) (named a args) (named b args) (named_under a args) (named_under b args)
keys_under (Three a b c) args =
    both_under (length args) (both (named a args) (named b args)) (named c args)
    (both_under (length args) (named a args) (named b args) (named_under a args) (named_under b args)) (named_under c args)
keys_under (Channels a) args = none_under (length args)
keys_under Unspecified args = tt
keys_under OfSubcommand args = tt

-- the positions that were appended to none
pub within : (keys : Keys) (args : List (Bor (List ℕ))) (none items : List ℕ) → none ≡ []
    → both (Ok none) (keys_in keys (words args)) ≡ Ok items → All (λ place. place < length args) items
within keys args none items empty held =
    rw (length-map args (λ a. a.now)) at (of_positions (keys_in keys (words args)) (keys_under keys (words args)) (rw empty at held))
  where
    of_positions : (found : Positions) → Under (length (words args)) found → both (Ok []) found ≡ Ok items
        → All (λ place. place < length (words args)) items
    of_positions (Ok ps) under same = let all : ps ≡ items = cc in rw all at under
    of_positions (Err e) under same = cc
