-- Truths in replies of 0 and 1.
use Rattle.std.proofs.Common.{◌≡◌, ℕ, suc, ◌+◌, ◌<◌, ◌&&◌, Bool, true, false, List, [], ◌∷◌, ◌++◌, map, All, length, take, get_or}
use Rattle.std.proofs.Common.{ℤ, pos, refl, sym, ap, ◌∙◌, arith}
use Rattle.std.specs.Prelude.{fold}
use Rattle.std.proofs.lemmas.Grind.{common_steps}
use Rattle.std.proofs.lemmas.List.{get_or-map, take_more}
use Rattle.std.proofs.lemmas.List.Elements.{All-push, All-get_or}
use Rattle.std.proofs.lemmas.List.Sums.{fold_push}
use Rattle.resp_value.specs.declared.value.Value.{Value, Array, Int}
use Rattle.resp_cluster.specs.Merges.{MergesAnd, bit, bits, both}
use Rattle.resp_cluster.proofs.Merging.{array_is, differs_at, head_is, int_is, one_more, same_of, tail_is}

one_is_none : pos 1 ≡ pos 0 → ⊥
one_is_none e = cc

bit_is : (a b : Bool) → bit a ≡ bit b → a ≡ b
bit_is true true e = refl
bit_is true false e = absurd (one_is_none (int_is (pos 1) (pos 0) e))
bit_is false true e = absurd (one_is_none (sym (int_is (pos 0) (pos 1) e)))
bit_is false false e = refl

pub bits_is : (xs ys : List Bool) → bits xs ≡ bits ys → xs ≡ ys
bits_is xs ys e = same_of bit bit_is xs ys (array_is (map bit xs) (map bit ys) e)

-- a number that is neither 1 nor 0 is no truth
pub no_bit : (n : ℤ) (reply : Value) → reply ≡ Int n → (n ≡ pos 1 → ⊥) → (n ≡ pos 0 → ⊥) → (truth : Bool) → reply ≡ bit truth → ⊥
no_bit n reply is one none true e = one (int_is n (pos 1) (sym is ∙ e))
no_bit n reply is one none false e = none (int_is n (pos 0) (sym is ∙ e))

-- the items of an array before this one are truths, and it is none
pub item_differs : (items : List Value) (at : ℕ) (item : Value) → at < length items → item ≡ get_or items at item
    → (made : List Bool) → take at items ≡ map bit made → ((truth : Bool) → item ≡ bit truth → ⊥) → (reply : Value)
    → reply ≡ Array items → (truths : List Bool) → reply ≡ bits truths → ⊥
item_differs items at item within there made so_far differs reply is truths e =
    differs_at bit items at item within there made so_far differs truths (array_is items (map bit truths) (sym is ∙ e))

length-both : (one other : List Bool) → length other ≡ length one → length (both one other) ≡ length one
length-both [] other e = refl
length-both (x ∷ one) [] e = absurd (omega arith)
length-both (x ∷ one) (y ∷ other) e = ap suc (length-both one other (omega arith))

both-push : (one other : List Bool) (x y : Bool) → length other ≡ length one
    → both (one ++ x ∷ []) (other ++ y ∷ []) ≡ both one other ++ (x && y) ∷ []
both-push [] [] x y e = refl
both-push [] (b ∷ other) x y e = absurd (omega arith)
both-push (a ∷ one) [] x y e = absurd (omega arith)
both-push (a ∷ one) (b ∷ other) x y e = ap (λ l. (a && b) ∷ l) (both-push one other x y (omega arith))

-- one place more
pub next_both : (one other made : List Bool) (at : ℕ) (truth : Bool) → at < length one → length other ≡ length one
    → made ≡ both (take at one) (take at other) → truth ≡ (get_or one at false && get_or other at false)
    → made ++ truth ∷ [] ≡ both (take (at + 1) one) (take (at + 1) other)
next_both one other made at truth within even so_far is =
    let long : length (take at other) ≡ length (take at one) = grind (arith, common_steps, even, within) in
    rw (take_more one at false within, take_more other at false (omega (arith, even, within)), so_far, is)
    (sym (both-push (take at one) (take at other) (get_or one at false) (get_or other at false) long))

-- ---- the replies of several nodes

-- so many of the others were looked at
pub record AndSoFar (replies others : List Value) (seen : ℕ) (all : List Bool) : Type 0 where
  pub first : List Bool
  pub rows : List (List Bool)
  pub begins : replies ≡ bits first ∷ others
  pub seen_are : take seen others ≡ map bits rows
  pub even : All (λ truths. length truths ≡ length first) rows
  pub all_is : all ≡ fold both first rows
  pub long : length all ≡ length first

pub first_differs : (replies others : List Value) (first : Value) → replies ≡ first ∷ others
    → ((truths : List Bool) → first ≡ bits truths → ⊥) → (answer : Value) → MergesAnd replies answer → ⊥
first_differs replies others first begins differs answer m = differs m.first (head_is (sym begins ∙ m.all))

module _ (replies left : List Value) (at : ℕ) (reply : Value) (all : List Bool) (within : at < length left)
    (there : reply ≡ get_or left at reply) (so_far : AndSoFar replies left at all) where
  others_are : {answer : Value} → (m : MergesAnd replies answer) → left ≡ map bits m.others
  others_are m = tail_is (sym so_far.begins ∙ m.all)

  pub row_differs : ((truths : List Bool) → reply ≡ bits truths → ⊥) → (answer : Value) → MergesAnd replies answer → ⊥
  row_differs differs answer m =
      differs_at bits left at reply within there so_far.rows so_far.seen_are differs m.others (others_are m)

  module _ (row : List Bool) (is : reply ≡ bits row) where
    pub row_uneven : (length row ≡ length all → ⊥) → (answer : Value) → MergesAnd replies answer → ⊥
    row_uneven unlike answer m = unlike (ap length same ∙ even ∙ ap length first ∙ sym so_far.long)
      where
        many : at < length m.others
        many = let n = ap length (others_are m) in grind (arith, common_steps, n, within)

        same : row ≡ get_or m.others at row
        same = bits_is row (get_or m.others at row) (sym is ∙ there ∙ ap (λ l. get_or l at reply) (others_are m)
            ∙ get_or-map bits m.others at row reply many)

        even : length (get_or m.others at row) ≡ length m.first
        even = All-get_or (λ truths. length truths ≡ length m.first) m.others at row many m.even

        first : m.first ≡ so_far.first
        first = bits_is m.first so_far.first (head_is (sym m.all ∙ so_far.begins))

    pub next_row : length row ≡ length all → (truths : List Bool) → truths ≡ both all row → AndSoFar replies left (at + 1) truths
    next_row even truths truths_are = record {
      first = so_far.first;
      rows = so_far.rows ++ row ∷ [];
      begins = so_far.begins;
      seen_are = one_more bits left at reply within there so_far.rows so_far.seen_are row is;
      even = All-push (λ truths. length truths ≡ length so_far.first) so_far.rows row so_far.even (even ∙ so_far.long);
      all_is = truths_are ∙ ap (λ t. both t row) so_far.all_is ∙ sym (fold_push both so_far.first so_far.rows row);
      long = ap length truths_are ∙ length-both all row even ∙ so_far.long;
    }
