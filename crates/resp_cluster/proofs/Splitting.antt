-- A command in parts.
use Rattle.std.proofs.Common.{◌≡◌, ◌≢◌, ℕ, ◌+◌, ◌-◌, ◌<◌, ◌≤◌, List, [], ◌∷◌, ◌++◌, length, take, get_or}
use Rattle.std.proofs.Common.{AllPairs, drop, take-append-drop, length-take, length-drop, mod-eq_of_lt, ◌%◌, sym, ap, ◌∙◌, append_assoc, append-nil, arith, inl, inr, All, Bor, length-append}
use Rattle.std.proofs.lemmas.List.{get_or-map, length-map, take_more, map_push, get_or_append_left, get_or_push, map-append}
use Rattle.std.proofs.lemmas.List.Elements.{All-push}
use Rattle.std.proofs.lemmas.List.Quantifiers.{all_pairs_push}
use Rattle.std.proofs.lemmas.Bool.{cases_lt}
use Rattle.std.proofs.Math.Nat.{add-mod_right}
use Rattle.std.specs.List.{flat_map}
use Rattle.resp_args.specs.Args.{Args}
use Rattle.resp_command.specs.Command.{Command, new_command}
use Rattle.resp_routing.specs.Commands.{words}
use Rattle.resp_routing.specs.Slots.{IsSlot}
use Rattle.resp_cluster.specs.Gathered.{of_node}
use Rattle.resp_cluster.specs.Splits.{BySlot, HasAt, command_of, entries_in, key_of}
use Rattle.resp_cluster.proofs.Gathers.{next_elsewhere, next_here}

flat_push : (entries : List Args) (entry : Args) → flat_map (λ e. e) (entries ++ entry ∷ []) ≡ flat_map (λ e. e) entries ++ entry
flat_push [] entry = append-nil entry
flat_push (e ∷ entries) entry =
    ap (λ l. e ++ l) (flat_push entries entry) ∙ sym (append_assoc e (flat_map (λ e'. e') entries) entry)

-- the entry at a place
pub entry_at : (slices : List (Bor (List (Bor (List ℕ))))) (at : ℕ) (slice : Bor (List (Bor (List ℕ)))) → at < length slices
    → get_or (entries_in slices) at (words (get_or slices at slice).now) ≡ words (get_or slices at slice).now
entry_at slices at slice within = get_or-map (λ s. words s.now) slices at slice _ within

module _ (name : List ℕ) (places : List ℕ) (slices : List (Bor (List (Bor (List ℕ))))) (part at : ℕ) (before after : Command)
    (same : length places ≡ length slices) (within : at < length slices)
    (so_far : before ≡ command_of name (take at places) (take at (entries_in slices)) part) where
  long : length (entries_in slices) ≡ length slices
  long = length-map slices (λ s. words s.now)

  pub part_grows : (slice : Bor (List (Bor (List ℕ)))) → get_or places at 0 ≡ part
      → after ≡ record before { args = before.args ++ words (get_or slices at slice).now }
      → after ≡ command_of name (take (at + 1) places) (take (at + 1) (entries_in slices)) part
  part_grows slice is grown =
      let entry = words (get_or slices at slice).now in
      let next = next_here part places (entries_in slices) at entry (same ∙ sym long) (omega (arith, long))
      (sym (entry_at slices at slice within)) is in
      rw (grown, so_far, next) (ap (λ l. record new_command { args = name ∷ l })
      (sym (flat_push (of_node part (take at places) (take at (entries_in slices))) entry)))

  pub part_stays : (get_or places at 0 ≡ part → ⊥) → after ≡ before
      → after ≡ command_of name (take (at + 1) places) (take (at + 1) (entries_in slices)) part
  part_stays other kept =
      rw (kept, next_elsewhere part places (entries_in slices) at [] (same ∙ sym long) (omega (arith, long)) other) so_far

-- ---- the slots of entries

-- one slot more, if it isn't there, and what was at a place is there
module _ (slots : List ℕ) (slot : ℕ) (slots' : List ℕ) (place : ℕ) (has : HasAt slots slot slots' place) where
  longer : length slots ≤ length slots'
  longer = elim has.grown [
    | inl same ↦ rw same (omega arith)
    | inr more ↦ rw (more.0, length-append slots (slot ∷ [])) (omega arith)
  ]

  kept_at : (i : ℕ) → i < length slots → get_or slots' i 0 ≡ get_or slots i 0
  kept_at i inside = elim has.grown [
    | inl same ↦ ap (λ l. get_or l i 0) same
    | inr more ↦ ap (λ l. get_or l i 0) more.0 ∙ get_or_append_left slots (slot ∷ []) 0 i inside
  ]

  apart' : AllPairs (λ one other. one ≢ other) slots → AllPairs (λ one other. one ≢ other) slots'
  apart' h = elim has.grown [
    | inl same ↦ rw same h
    | inr more ↦ rw more.0 (all_pairs_push (λ one other. one ≢ other) slots slot h more.1)
  ]

  module _ (places : List ℕ) (entries : List Args) (entry : Args) (h : BySlot slots places entries) (is : IsSlot (key_of entry) slot) where
    old_each : (i : ℕ) → i < length entries → IsSlot (key_of (get_or (entries ++ entry ∷ []) i []))
        (get_or slots' (get_or (places ++ place ∷ []) i 0) 0)
    old_each i inside =
        let whole = h.whole in
        let known : get_or places i 0 < length slots = h.known i 0 (omega arith) in
        rw (
          get_or_append_left entries (entry ∷ []) [] i inside,
          get_or_append_left places (place ∷ []) 0 i (omega arith),
          kept_at (get_or places i 0) known,
        ) (h.each i inside)

    new_each : (i : ℕ) → length entries ≡ i → IsSlot (key_of (get_or (entries ++ entry ∷ []) i []))
        (get_or slots' (get_or (places ++ place ∷ []) i 0) 0)
    new_each i at =
        rw (get_or_push entries entry [] i at, get_or_push places place 0 i (h.whole ∙ at), has.there) is

    each' : (i : ℕ) → i < length (entries ++ entry ∷ []) → IsSlot (key_of (get_or (entries ++ entry ∷ []) i []))
        (get_or slots' (get_or (places ++ place ∷ []) i 0) 0)
    each' i inside =
        let long = length-append entries (entry ∷ []) in
        elim (cases_lt i (length entries)) [
          | inl old ↦ old_each i old
          | inr new ↦ new_each i (omega (arith, long))
        ]

    known' : All (λ p. p < length slots') (places ++ place ∷ [])
    known' = All-push (λ p. p < length slots') places place (λ i d inside. let k = h.known i d inside in omega (arith, longer, k)) has.inside

    pub one_entry_more : BySlot slots' (places ++ place ∷ []) (entries ++ entry ∷ [])
    one_entry_more = record {
      whole = rw (length-append places (place ∷ []), length-append entries (entry ∷ [])) (ap (λ n. n + 1) h.whole);
      known = known';
      each = each';
      apart = apart' h.apart;
    }

-- the entry of one slice more
pub next_by_slot : (slots : List ℕ) (slot : ℕ) (slots' : List ℕ) (place : ℕ) (places : List ℕ)
    (slices : List (Bor (List (Bor (List ℕ))))) (at : ℕ) (slice : Bor (List (Bor (List ℕ)))) → HasAt slots slot slots' place
    → at < length slices → BySlot slots places (entries_in (take at slices)) → IsSlot (key_of (words (get_or slices at slice).now)) slot
    → BySlot slots' (places ++ place ∷ []) (entries_in (take (at + 1) slices))
next_by_slot slots slot slots' place places slices at slice has within h is =
    let grown : entries_in (take (at + 1) slices) ≡ entries_in (take at slices) ++ words (get_or slices at slice).now ∷ [] =
    ap entries_in (take_more slices at slice within) ∙ map_push (λ s. words s.now) (take at slices) (get_or slices at slice) in
    rw grown (one_entry_more slots slot slots' place has places (entries_in (take at slices)) _ h is)

-- ---- arguments in entries

-- entries were cut, and this is left
pub record Cut (width : ℕ) (args : List (Bor (List ℕ))) (entries : List (Bor (List (Bor (List ℕ))))) (left : List (Bor (List ℕ))) : Type 0 where
  pub all : flat_map (λ entry. entry) (entries_in entries) ++ words left ≡ words args
  pub wide : All (λ entry. length entry ≡ width) (entries_in entries)
  pub rest : length left % width ≡ length args % width

less_left : (n width : ℕ) → width ≤ n → (n - width) % width ≡ n % width
less_left n width fits =
    let back : n - width + width ≡ n = omega arith in
    sym (add-mod_right (n - width) width) ∙ ap (λ m. m % width) back

pub cut_once : (width : ℕ) (args : List (Bor (List ℕ))) (entries : List (Bor (List (Bor (List ℕ))))) (left : List (Bor (List ℕ)))
    (slice : Bor (List (Bor (List ℕ)))) → Cut width args entries left → width ≤ length left → slice.now ≡ take width left
    → Cut width args (entries ++ slice ∷ []) (drop width left)
cut_once width args entries left slice h fits is =
    let parts : words left ≡ words slice.now ++ words (drop width left) =
    ap words (sym (take-append-drop width left)) ∙ map-append (λ a. a.now) (take width left) (drop width left)
    ∙ ap (λ l. words l ++ words (drop width left)) (sym is) in
    let grown : entries_in (entries ++ slice ∷ []) ≡ entries_in entries ++ words slice.now ∷ [] = map_push (λ s. words s.now) entries slice in
    let long = length-map slice.now (λ a. a.now) in
    let cut = length-take width left in
    let back = length-drop width left in
    record {
      all = rw grown (ap (λ l. l ++ words (drop width left)) (flat_push (entries_in entries) (words slice.now))
          ∙ append_assoc (flat_map (λ e. e) (entries_in entries)) (words slice.now) (words (drop width left))
          ∙ ap (λ l. flat_map (λ e. e) (entries_in entries) ++ l) (sym parts) ∙ h.all);
      wide = rw grown (All-push (λ entry. length entry ≡ width) (entries_in entries) (words slice.now) h.wide
          (long ∙ ap length is ∙ omega (arith, cut)));
      rest = rw back (less_left (length left) width fits ∙ h.rest);
    }

pub some_left : (n m width : ℕ) → n % width ≡ m % width → n < width → 0 < n → m % width ≢ 0
some_left n m width same less some none =
    let h : n ≡ 0 = sym (mod-eq_of_lt less) ∙ same ∙ none in
    absurd (omega arith)
