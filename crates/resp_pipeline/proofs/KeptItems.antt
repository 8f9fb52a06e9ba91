-- Items that are kept, moved to the beginning one by one.
use Rattle.std.proofs.Common.{◌≡◌, ◌<◌, ◌≤◌, ◌+◌, ℕ, zero, suc, Bool, true, false, List, [], ◌∷◌, ◌++◌, length, take}
use Rattle.std.proofs.Common.{drop, refl, sym, ap, ◌∙◌, inl, inr, arith, add-one, append_assoc}
use Rattle.std.proofs.lemmas.List.{take_more_set, take-set-le, drop-set-lt, drop_more, set-set}
use Rattle.std.proofs.lemmas.Bool.{cases_lt}
use Rattle.std.specs.Prelude.{slice_set, slice_index_or}
use Rattle.std.specs.List.{SwappedAt}
use Rattle.resp_value.specs.declared.value.Value.{Value, Nil}
use Rattle.resp_pipeline.specs.Outcome.{kept}

-- with no marks, all items are kept
kept_all : (items : List Value) → kept [] items ≡ items
kept_all [] = refl
kept_all (item ∷ items) = refl

kept_none_left : (i : ℕ) (items : List Value) → kept (drop i []) items ≡ items
kept_none_left zero items = kept_all items
kept_none_left (suc i) items = kept_all items

-- an ignored item is passed over
kept-ignored : (marks : List Bool) (i : ℕ) (item : Value) (items : List Value) → slice_index_or marks i false ≡ true
    → kept (drop i marks) (item ∷ items) ≡ kept (drop (suc i) marks) items
kept-ignored [] i item items h = cc
kept-ignored (true ∷ marks) zero item items h = refl
kept-ignored (false ∷ marks) zero item items h = cc
kept-ignored (mark ∷ marks) (suc i) item items h = kept-ignored marks i item items h

-- another one is kept
kept-other : (marks : List Bool) (i : ℕ) (item : Value) (items : List Value) → slice_index_or marks i false ≡ false
    → kept (drop i marks) (item ∷ items) ≡ item ∷ kept (drop (suc i) marks) items
kept-other [] i item items h = kept_none_left i (item ∷ items) ∙ ap (λ rest. item ∷ rest) (sym (kept_all items))
kept-other (true ∷ marks) zero item items h = cc
kept-other (false ∷ marks) zero item items h = refl
kept-other (mark ∷ marks) (suc i) item items h = kept-other marks i item items h

-- a swap of the places k and i, up to k and from behind i on
module _ (ys zs : List Value) (k i : ℕ) (order : k ≤ i) (within : i < length ys) (swapped : SwappedAt ys zs k i) where
  at_less : k < i → take (k + 1) zs ≡ take k ys ++ slice_index_or ys i Nil ∷ []
  at_less less =
      let x = slice_index_or ys i Nil in
      let y = slice_index_or ys k Nil in
      ap (λ l. take (k + 1) l) (swapped.3 Nil) ∙ take-set-le (k + 1) (slice_set ys k x) i y (omega arith)
      ∙ take_more_set ys k x (omega arith)

  at_same : k ≡ i → take (k + 1) zs ≡ take k ys ++ slice_index_or ys i Nil ∷ []
  at_same e =
      let x = slice_index_or ys i Nil in
      let y = slice_index_or ys k Nil in
      ap (λ l. take (k + 1) l) (swapped.3 Nil ∙ ap (λ j. slice_set (slice_set ys k x) j y) (sym e) ∙ set-set ys k x y)
      ∙ take_more_set ys k y (omega arith) ∙ ap (λ j. take k ys ++ slice_index_or ys j Nil ∷ []) e

  swapped_take : take (k + 1) zs ≡ take k ys ++ slice_index_or ys i Nil ∷ []
  swapped_take = elim (cases_lt k i) [ inl less ↦ at_less less | inr more ↦ at_same (omega arith) ]

  swapped_drop : drop (i + 1) zs ≡ drop (i + 1) ys
  swapped_drop =
      let x = slice_index_or ys i Nil in
      let y = slice_index_or ys k Nil in
      ap (λ l. drop (i + 1) l) (swapped.3 Nil) ∙ drop-set-lt (i + 1) (slice_set ys k x) i y (omega arith)
      ∙ drop-set-lt (i + 1) ys k x (omega arith)

-- the items up to i are looked at: the kept ones stand in the first len places, and the later items are as they were
pub record KeptSoFar (marks : List Bool) (items ys : List Value) (len i : ℕ) : Type 0 where
  pub behind : len ≤ i
  pub long : length ys ≡ length items
  pub whole : take len ys ++ kept (drop i marks) (drop i ys) ≡ kept marks items

module _ {marks : List Bool} {items ys : List Value} {len i : ℕ} (so_far : KeptSoFar marks items ys len i)
    (within : i < length ys) where
  pub pass_over : slice_index_or marks i false ≡ true → KeptSoFar marks items ys len (i + 1)
  pass_over ignored =
      let here = drop_more ys i Nil within in
      let rest = kept-ignored marks i (slice_index_or ys i Nil) (drop (i + 1) ys) ignored in
      let behind = so_far.behind in
      record {
        behind = omega arith;
        long = so_far.long;
        whole = rw (add-one i) (let rest = rw (add-one i) at rest in let here = rw (add-one i) at here in
            sym (ap (λ l. take len ys ++ kept (drop i marks) l) here ∙ ap (λ l. take len ys ++ l) rest) ∙ so_far.whole);
      }

  pub take_in : {zs : List Value} → slice_index_or marks i false ≡ false → SwappedAt ys zs len i → length zs ≡ length ys
      → KeptSoFar marks items zs (len + 1) (i + 1)
  take_in {zs} other swapped same_length =
      let x = slice_index_or ys i Nil in
      let here = drop_more ys i Nil within in
      let rest = kept-other marks i x (drop (i + 1) ys) other in
      let first = swapped_take ys zs len i so_far.behind within swapped in
      let last = swapped_drop ys zs len i so_far.behind within swapped in
      let next = append_assoc (take len ys) (x ∷ []) (kept (drop (i + 1) marks) (drop (i + 1) ys)) in
      let behind = so_far.behind in
      record {
        behind = omega arith;
        long = same_length ∙ so_far.long;
        whole = rw (first, last) (next ∙ (let rest = rw (← add-one i) at rest in
            sym (ap (λ l. take len ys ++ kept (drop i marks) l) here ∙ ap (λ l. take len ys ++ l) rest)
            ∙ so_far.whole));
      }
