use Rattle.std.proofs.Common.{◌≡◌, ℕ, zero, suc, [], ◌∷◌, slice_index, ◌+◌, ◌*◌, ◌<◌, ◌≤◌, ◌^◌, List, true, length, get_or, take, nat_lt, nat_le, ◌&&◌, ◌||◌, not, ◌==◌, arith, ap, sym, ◌∙◌}
use Rattle.std.proofs.lemmas.Bool.{and_parts, leb-true}
use Rattle.std.proofs.lemmas.Int.Digits.{digits_value_more}
use Rattle.std.proofs.lemmas.Str.{digit_value_digit}
use Rattle.std.proofs.lemmas.Str.Parse.{IsNumeralModel, numerals_by_value, tells_all_ascii_digits, digits_value_short, digits_value-take-le, digit_from_value}
use Rattle.std.specs.Char.{digit_value}
use Rattle.std.specs.Str.{all_ascii_digits}
use Rattle.std.specs.Str.Parse.{AllDigits, digits_value}
use Rattle.resp_routing.specs.Keys.{is_number}
use Rattle.resp_routing.proofs.keys.number.Goals as goal

own : IsNumeralModel (λ ds. all_ascii_digits ds ≡ true) (digits_value 10)
own = numerals_by_value (λ ds. all_ascii_digits ds ≡ true) tells_all_ascii_digits

parts : (text : List ℕ) → is_number text ≡ true → (length text ≤ 18) × (all_ascii_digits text ≡ true)
parts text h =
    let some = nat_lt 0 (length text) in
    let few = nat_le (length text) 18 in
    let all = all_ascii_digits text in
    let front = and_parts (some && few && all) (not (slice_index text 0 == 48) || (length text == 1)) h in
    let two = and_parts (some && few) all front.0 in
    (leb-true (length text) 18 (and_parts some few two.0).1, two.1)

digit_at : (ds : List ℕ) (i : ℕ) → AllDigits 10 ds → i < length ds → digit_value (get_or ds i 0) < 10
digit_at [] i h lt = absurd (omega arith)
digit_at (c ∷ cs) zero h lt = h.0
digit_at (c ∷ cs) (suc i) h lt = digit_at cs i h.1 (omega arith)

record Digit (text : List ℕ) (i n : ℕ) : Type 0 where
  low : 48 ≤ get_or text i 0
  value : digit_value (get_or text i 0) + 48 ≡ get_or text i 0
  high : get_or text i 0 ≤ 57
  bound : n < 10 ^ 18
  more : digits_value 10 (take (i + 1) text) ≡ n * 10 + digit_value (get_or text i 0)

digit : (text : List ℕ) (i n : ℕ) → is_number text ≡ true → i < length text → n ≡ digits_value 10 (take i text)
    → Digit text i n
digit text i n h lt held =
    let p = parts text h in
    let range = digit_from_value (get_or text i 0) (digit_at text i (own.to text p.1) lt) in
    let whole = digits_value_short own text 18 p.1 p.0 in
    let part = digits_value-take-le 10 text i (omega arith) in
    record {
      low = range.0;
      high = range.1;
      value = digit_value_digit (get_or text i 0) range;
      bound = omega arith;
      more = digits_value_more 10 text i lt ∙ ap (λ m. m * 10 + digit_value (get_or text i 0)) (sym held);
    }

pub overflow_mul-number : goal.overflow_mul-number
overflow_mul-number c =
    let d = digit _ _ _ (sym c.if-not-is_number.ensures) c.loop-digit-test.true c.loop-digit.invariant in
    let b = d.bound in omega arith

pub overflow_sub-digit : goal.overflow_sub-digit
overflow_sub-digit c = (digit _ _ _ (sym c.if-not-is_number.ensures) c.loop-digit-test.true c.loop-digit.invariant).low

pub overflow_add-number : goal.overflow_add-number
overflow_add-number c =
    let d = digit _ _ _ (sym c.if-not-is_number.ensures) c.loop-digit-test.true c.loop-digit.invariant in
    let b = d.bound in let h = d.high in let f = c.from.ensures in omega arith

pub loop-digit-preserved : goal.loop-digit-preserved
loop-digit-preserved c =
    let d = digit _ _ _ (sym c.if-not-is_number.ensures) c.loop-digit-test.true c.loop-digit.invariant in
    let m = d.more in let v = d.value in let f = c.from.ensures in omega arith
