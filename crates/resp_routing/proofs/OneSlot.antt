-- Keys that are looked at one after another, and their slots.
use Rattle.std.proofs.Common.{◌≡◌, ◌≢◌, ℕ, ◌+◌, ◌<◌, ◌≤◌, List, [], ◌∷◌, ◌++◌, length, get_or, take, drop, All, Contains, Option, None, Some}
use Rattle.std.proofs.Common.{IsOkAnd, Ok, Err, true, IsSomeAnd, MatchOption, slice_get, refl, sym, ap, ◌∙◌, arith}
use Rattle.std.proofs.Math.ListN.{take-append-drop}
use Rattle.std.proofs.lemmas.List.{append-nil, get_or-map, length-map, take_more}
use Rattle.std.proofs.lemmas.Option.{slice_get-get_or, slice_get_past}
use Rattle.std.specs.Bool.{⊤}
use Rattle.std.specs.Borrow.{Bor}
use Rattle.std.proofs.lemmas.List.Elements.{filter_map-append, Contains-append_left, Contains-append_right, All-append}
use Rattle.resp_args.specs.Args.{Args}
use Rattle.resp_routing.specs.Commands.{command_of, words}
use Rattle.resp_routing.specs.Keys.{Positions, both, fits}
use Rattle.resp_routing.specs.declared.commands.CommandInfo.{CommandInfo}
use Rattle.resp_routing.specs.Routes.{AreApart, InOneSlot, IsCommon, args_at, hashed_args, hashed_in, hashed_of}
use Rattle.resp_routing.specs.Slots.{IsSlot}

pub at_more : (args : Args) (positions : List ℕ) (i : ℕ) (key : List ℕ) → i < length positions
    → slice_get args (get_or positions i 0) ≡ Some key
    → args_at args (take (i + 1) positions) ≡ args_at args (take i positions) ++ (key ∷ [])
at_more args positions i key lt there =
    ap (args_at args) (take_more positions i 0 lt)
    ∙ filter_map-append (slice_get args) (take i positions) (get_or positions i 0 ∷ [])
    ∙ ap (λ more. args_at args (take i positions) ++ more) (rw there refl)

pub at_none : (args : Args) (positions : List ℕ) (i : ℕ) → i < length positions
    → slice_get args (get_or positions i 0) ≡ None → args_at args (take (i + 1) positions) ≡ args_at args (take i positions)
at_none args positions i lt gone =
    ap (args_at args) (take_more positions i 0 lt)
    ∙ filter_map-append (slice_get args) (take i positions) (get_or positions i 0 ∷ [])
    ∙ ap (λ more. args_at args (take i positions) ++ more) (rw gone refl)
    ∙ append-nil (args_at args (take i positions))

whole : (args : Args) (positions : List ℕ) (i : ℕ) (key : List ℕ) → i < length positions
    → slice_get args (get_or positions i 0) ≡ Some key
    → args_at args positions ≡ args_at args (take i positions) ++ (key ∷ []) ++ args_at args (drop (i + 1) positions)
whole args positions i key lt there =
    sym (ap (args_at args) (take-append-drop (i + 1) positions))
    ∙ filter_map-append (slice_get args) (take (i + 1) positions) (drop (i + 1) positions)
    ∙ ap (λ front. front ++ args_at args (drop (i + 1) positions)) (at_more args positions i key lt there)

one_key : (P : List ℕ → Type 0) (key : List ℕ) → P key → All P (key ∷ [])
one_key P key is = λ k d lt. let first : k ≡ 0 = omega arith in rw first is

added : (keys : Args) (key : List ℕ) → (keys ++ (key ∷ [])) ≢ []
added [] key e = cc
added (k ∷ keys) key e = cc

pub add_key : (keys : Args) (common : Option ℕ) (key : List ℕ) (slot : ℕ) → IsCommon keys common → IsSlot key slot
    → MatchOption common ⊤ (λ other. other ≡ slot) → InOneSlot (keys ++ (key ∷ [])) slot
add_key keys None key slot none is same = record { some = added keys key; all = rw none (one_key (λ k. IsSlot k slot) key is) }
add_key keys (Some other) key slot held is same = record {
  some = added keys key;
  all = All-append (λ k. IsSlot k slot) keys (key ∷ []) (rw same at held.all) (one_key (λ k. IsSlot k slot) key is);
}

pub one_in_slot : (key : List ℕ) (slot : ℕ) → IsSlot key slot → InOneSlot (key ∷ []) slot
one_in_slot key slot is = record { some = added [] key; all = one_key (λ k. IsSlot k slot) key is }

head_there : (x : List ℕ) (xs : Args) → Contains (x ∷ xs) x
head_there x xs = (0, omega arith, refl)

first_of_slot : (keys : Args) (slot : ℕ) → InOneSlot keys slot → (one : List ℕ) × (Contains keys one × IsSlot one slot)
first_of_slot [] slot held = absurd (held.some refl)
first_of_slot (key ∷ keys) slot held = (key, (head_there key keys, held.all 0 key (omega arith)))

pub apart : (keys more : Args) (common slot : ℕ) (key : List ℕ) → InOneSlot keys common → IsSlot key slot
    → common ≢ slot → AreApart (keys ++ (key ∷ []) ++ more)
apart keys more common slot key held is differ =
    let first = first_of_slot keys common held in
    record {
      one = first.0;
      other = key;
      slot = common;
      elsewhere = slot;
      one_there = Contains-append_left (keys ++ (key ∷ [])) more first.0 (Contains-append_left keys (key ∷ []) first.0 first.1.0);
      other_there = Contains-append_left (keys ++ (key ∷ [])) more key (Contains-append_right keys (key ∷ []) key (head_there key []));
      one_slot = first.1.1;
      other_slot = is;
      differ = differ;
    }

-- the key at the i-th position
key_at : (args : List (Bor (List ℕ))) (position : ℕ) (arg : Bor (List ℕ)) → position < length args
    → slice_get (words args) position ≡ Some (get_or args position arg).now
key_at args position arg lt =
    let long : position < length (words args) = rw (length-map args (λ a. a.now)) lt in
    slice_get-get_or (words args) position [] long ∙ ap Some (get_or-map (λ a. a.now) args position arg [] lt)

module _ (args : List (Bor (List ℕ))) (positions : List ℕ) (i : ℕ) (arg : Bor (List ℕ)) (lt : i < length positions) where
  abbrev key : List ℕ
  key = (get_or args (get_or positions i 0) arg).now

  pub joins : (common : Option ℕ) (slot : ℕ) → get_or positions i 0 < length args
      → IsCommon (args_at (words args) (take i positions)) common → IsSlot key slot → MatchOption common ⊤ (λ other. other ≡ slot)
      → InOneSlot (args_at (words args) (take (i + 1) positions)) slot
  joins common slot there held is same =
      rw (at_more (words args) positions i key lt (key_at args (get_or positions i 0) arg there))
      (add_key (args_at (words args) (take i positions)) common key slot held is same)

  stops_apart : (common slot : ℕ) → get_or positions i 0 < length args
      → InOneSlot (args_at (words args) (take i positions)) common → IsSlot key slot → common ≢ slot
      → AreApart (args_at (words args) positions)
  stops_apart common slot there held is differ =
      rw (whole (words args) positions i key lt (key_at args (get_or positions i 0) arg there))
      (apart (args_at (words args) (take i positions)) (args_at (words args) (drop (i + 1) positions)) common slot key held is differ)

  pub clash : (common : Option ℕ) (slot : ℕ) → get_or positions i 0 < length args
      → IsCommon (args_at (words args) (take i positions)) common → IsSlot key slot → IsSomeAnd common (λ other. other ≢ slot)
      → AreApart (args_at (words args) positions)
  clash None slot there held is differ = absurd differ
  clash (Some common) slot there held is differ = stops_apart common slot there held is differ

pub passes : (args : List (Bor (List ℕ))) (positions : List ℕ) (i : ℕ) (common : Option ℕ) → i < length positions
    → length args ≤ get_or positions i 0 → IsCommon (args_at (words args) (take i positions)) common
    → IsCommon (args_at (words args) (take (i + 1) positions)) common
passes args positions i common lt gone held =
    let past : length (words args) ≤ get_or positions i 0 = rw (length-map args (λ a. a.now)) gone in
    rw (at_none (words args) positions i lt (slice_get_past (words args) (get_or positions i 0) past)) held

-- what is known of the arguments at the positions that were found is known of what the command's slot is computed of
pub hashed_is : (P : Args → Type 0) (args : List (Bor (List ℕ))) (row : CommandInfo) (none positions slice : List ℕ)
    → Some row ≡ command_of (words args) → true ≡ fits row (length args) → none ≡ []
    → both (Ok none) (hashed_in row.keys (words args)) ≡ Ok positions → slice ≡ positions → P (args_at (words args) slice)
    → IsOkAnd (hashed_of (words args)) P
hashed_is P args row none positions slice found fit empty held same known =
    let fitting : fits row (length (words args)) ≡ true = rw (length-map args (λ a. a.now)) (sym fit) in
    rw (sym found, fitting) (of_positions (hashed_in row.keys (words args)) (rw empty at held))
  where
    of_positions : (found : Positions) → both (Ok []) found ≡ Ok positions → IsOkAnd (hashed_args found (words args)) P
    of_positions (Ok ps) joined = let all : ps ≡ slice = cc in rw all known
    of_positions (Err e) joined = cc
