-- What replies make together, and when they make nothing.
use Rattle.std.proofs.Common.{◌≡◌, ℕ, ◌+◌, ◌<◌, List, [], ◌∷◌, ◌++◌, map, All, length, take, drop, get_or, refl, sym, ap, ◌∙◌, subst, arith}
use Rattle.std.proofs.Common.{Bool, true, false, cond, Option, None, Some, Result, Ok, Err, MatchOption, ℤ, ◌+ℤ◌, pos, FitsSigned, w64, rules, inl, inr, take-append-drop, length-append, to_z, of_z, to_z-of_z}
use Rattle.std.specs.Int.{int_min}
use Rattle.std.specs.Prelude.{fold, int_lt}
use Rattle.std.proofs.lemmas.Bool.{cases_lt}
use Rattle.std.proofs.lemmas.List.{take-append-le, take-map, drop_more, take_more, take_all, map_push}
use Rattle.std.proofs.lemmas.List.Sums.{fold_push}
use Rattle.resp_value.specs.FirstError.{first_error, or_else}
use Rattle.resp_value.specs.declared.value.Value.{Value, Array, Int, out-Value, the_lemmas}
use Rattle.resp_value.specs.declared.value.Value.TheOpen.{Value-F}
use Rattle.resp_errors.specs.declared.redis_error.RedisError.{RedisError}
use Rattle.resp_errors.specs.declared.redis_error.RedisError.TheVariants.{Server}
use Rattle.resp_errors.specs.declared.server_error.ServerError.{ServerError}
use Rattle.resp_from.proofs.TopLayer.{out-Array}
use Rattle.resp_cluster.specs.Gathering.{Enough}
use Rattle.resp_cluster.specs.Merges.{IsFirstError, MergesLeast, MergesSum, MergesValues, first_error_in, sum_of}
use Rattle.resp_cluster.proofs.Gathers.{as_many}

-- ---- the first server's error in replies

no_error : (r : Result Value RedisError) (reply : Value) (e : RedisError) → r ≡ Ok reply → r ≡ Err e → ⊥
no_error r reply e given refused = cc

error_is : (r : Result Value RedisError) (one other : RedisError) → r ≡ Err one → r ≡ Err other → one ≡ other
error_is r one other h h' = cc

pub none_left : (left : List Value) → length left ≡ 0 → first_error_in left ≡ None
none_left [] h = refl
none_left (reply ∷ left) h = absurd (omega arith)

module _ (replies left left' : List Value) (reply : Value) (took : left ≡ reply ∷ left')
    (so_far : first_error_in replies ≡ first_error_in left) where
  pub passes : (r : Result Value RedisError) (given : Value)
      → MatchOption (first_error reply) (r ≡ Ok reply) (λ e. r ≡ Err (Server e)) → r ≡ Ok given
      → first_error_in replies ≡ first_error_in left'
  passes r given h is = so_far ∙ ap first_error_in took ∙ by (first_error reply) h
    where
      by : (o : Option ServerError) → MatchOption o (r ≡ Ok reply) (λ e. r ≡ Err (Server e))
          → or_else o (first_error_in left') ≡ first_error_in left'
      by None h' = refl
      by (Some e) h' = absurd (no_error r given (Server e) is h')

  pub is_first : (r : Result Value RedisError) (e : RedisError)
      → MatchOption (first_error reply) (r ≡ Ok reply) (λ x. r ≡ Err (Server x)) → r ≡ Err e → IsFirstError replies e
  is_first r e h is = by (first_error reply) refl h
    where
      by : (o : Option ServerError) → o ≡ first_error reply → MatchOption o (r ≡ Ok reply) (λ x. r ≡ Err (Server x)) → IsFirstError replies e
      by None o_is h' = absurd (no_error r reply e h' is)
      by (Some x) o_is h' = record {
        error = x;
        first = so_far ∙ ap first_error_in took ∙ ap (λ o. or_else o (first_error_in left')) (sym o_is);
        says = error_is r e (Server x) is h';
      }

-- ---- replies of one kind

pub head_is : {x y : Value} {xs ys : List Value} → x ∷ xs ≡ y ∷ ys → x ≡ y
head_is {x} {y} {xs} {ys} e = cc

pub tail_is : {x y : Value} {xs ys : List Value} → x ∷ xs ≡ y ∷ ys → xs ≡ ys
tail_is {x} {y} {xs} {ys} e = cc

pub some_none : {x : Value} {xs : List Value} → x ∷ xs ≡ [] → ⊥
some_none {x} {xs} e = cc

module _ {A : Type 0} (make : A → Value) where
  -- one of them is of another
  pub others : (front : List A) (x : Value) (back : List Value) → ((a : A) → x ≡ make a → ⊥) → (all : List A)
      → map make front ++ x ∷ back ≡ map make all → ⊥
  others [] x back differs [] e = some_none e
  others [] x back differs (a ∷ all) e = differs a (head_is e)
  others (f ∷ front) x back differs [] e = some_none e
  others (f ∷ front) x back differs (a ∷ all) e = others front x back differs all (tail_is e)

  pub same_of : ((a b : A) → make a ≡ make b → a ≡ b) → (xs ys : List A) → map make xs ≡ map make ys → xs ≡ ys
  same_of one [] [] e = refl
  same_of one [] (y ∷ ys) e = absurd (some_none (sym e))
  same_of one (x ∷ xs) [] e = absurd (some_none e)
  same_of one (x ∷ xs) (y ∷ ys) e =
      ap (λ z. z ∷ xs) (one x y (head_is e)) ∙ ap (λ zs. y ∷ zs) (same_of one xs ys (tail_is e))

pub out-Int : (n : ℤ) → out-Value (Int n) ≡ Value-F.Int n
out-Int n = search (rules, the_lemmas)

same_array : (layer : Value-F Value) (xs ys : List Value) → layer ≡ Value-F.Array xs → layer ≡ Value-F.Array ys → xs ≡ ys
same_array layer xs ys one other = cc

pub array_is : (xs ys : List Value) → Array xs ≡ Array ys → xs ≡ ys
array_is xs ys e = same_array (out-Value (Array xs)) xs ys (out-Array xs) (ap out-Value e ∙ out-Array ys)

same_int : (layer : Value-F Value) (n m : ℤ) → layer ≡ Value-F.Int n → layer ≡ Value-F.Int m → n ≡ m
same_int layer n m one other = cc

pub int_is : (n m : ℤ) → Int n ≡ Int m → n ≡ m
int_is n m e = same_int (out-Value (Int n)) n m (out-Int n) (ap out-Value e ∙ out-Int m)

-- ---- the values of arrays

pub no_values : (groups : List (List Value)) (places : List ℕ) (replies : List Value) → replies ≡ map Array groups
    → (All (λ place. place < length groups) places → Enough groups places → ⊥) → (answer : Value)
    → MergesValues places replies answer → ⊥
no_values groups places replies are unlike answer m =
    let same : m.groups ≡ groups = same_of Array array_is m.groups groups (sym m.arrays ∙ are) in
    unlike (subst (λ g. All (λ place. place < length g) places) same m.known) (subst (λ g. Enough g places) same enough)
  where
    enough : Enough m.groups places
    enough node inside = ap length (sym (m.placed node inside)) ∙ as_many node places m.values places m.whole

-- the replies before this one are made of these
module _ {A : Type 0} (make : A → Value) (replies : List Value) (at : ℕ) (reply : Value) (within : at < length replies)
    (there : reply ≡ get_or replies at reply) (made : List A) (so_far : take at replies ≡ map make made) where
  pub differs_at : ((a : A) → reply ≡ make a → ⊥) → (every : List A) → replies ≡ map make every → ⊥
  differs_at differs every all = others make made reply (drop (at + 1) replies) differs every (split ∙ all)
    where
      split : map make made ++ reply ∷ drop (at + 1) replies ≡ replies
      split = ap (λ l. l ++ reply ∷ drop (at + 1) replies) (sym so_far)
          ∙ ap (λ r. take at replies ++ r ∷ drop (at + 1) replies) there
          ∙ ap (λ l. take at replies ++ l) (sym (drop_more replies at reply within)) ∙ take-append-drop at replies

  pub one_more : (a : A) → reply ≡ make a → take (at + 1) replies ≡ map make (made ++ a ∷ [])
  one_more a is = take_more replies at reply within ∙ ap (λ l. l ++ get_or replies at reply ∷ []) so_far
      ∙ ap (λ r. map make made ++ r ∷ []) (sym there ∙ is) ∙ sym (map_push make made a)

-- ---- the sum of numbers

pub record Summed (replies : List Value) (sum : ℤ) : Type 0 where
  pub numbers : List ℤ
  pub all : replies ≡ map Int numbers
  pub fits : (n : ℕ) → FitsSigned w64 (sum_of (take n numbers))
  pub sum_is : sum ≡ sum_of numbers

module _ (replies : List Value) (at : ℕ) (reply : Value) (sum : ℤ) (within : at < length replies) (there : reply ≡ get_or replies at reply)
    (so_far : Summed (take at replies) sum) where
  pub not_number : ((n : ℤ) → reply ≡ Int n → ⊥) → (answer : Value) → MergesSum replies answer → ⊥
  not_number differs answer m = differs_at Int replies at reply within there so_far.numbers so_far.all differs m.numbers m.all

  module _ (number : ℤ) (is : reply ≡ Int number) where
    all' : take (at + 1) replies ≡ map Int (so_far.numbers ++ number ∷ [])
    all' = one_more Int replies at reply within there so_far.numbers so_far.all number is

    sum_is' : sum +ℤ number ≡ sum_of (so_far.numbers ++ number ∷ [])
    sum_is' = ap (λ n. n +ℤ number) so_far.sum_is ∙ sym (fold_push (λ total n. total +ℤ n) (pos 0) so_far.numbers number)

    pub one_number_more : (more : ℤ) → more ≡ sum +ℤ number → FitsSigned w64 more → Summed (take (at + 1) replies) more
    one_number_more more more_is fits_more = record {
      numbers = so_far.numbers ++ number ∷ [];
      all = all';
      fits = λ n. elim (cases_lt (length so_far.numbers) n) [
        | inl past ↦
            let long = length-append so_far.numbers (number ∷ []) in
            let whole = take_all n (so_far.numbers ++ number ∷ []) (omega (arith, past, long)) in
            subst (FitsSigned w64) (more_is ∙ sum_is' ∙ ap sum_of (sym whole)) fits_more
        | inr inside ↦ rw (take-append-le n so_far.numbers (number ∷ []) inside) (so_far.fits n)
      ];
      sum_is = more_is ∙ sum_is';
    }

    pub too_large : (FitsSigned w64 (sum +ℤ number) → ⊥) → (answer : Value) → MergesSum replies answer → ⊥
    too_large wide answer m = wide (subst (FitsSigned w64) (ap sum_of first ∙ sym sum_is') (m.fits (at + 1)))
      where
        first : take (at + 1) m.numbers ≡ so_far.numbers ++ number ∷ []
        first = same_of Int int_is (take (at + 1) m.numbers) (so_far.numbers ++ number ∷ [])
            (sym (take-map Int (at + 1) m.numbers) ∙ ap (take (at + 1)) (sym m.all) ∙ all')

-- ---- the least of numbers

-- so many of the others were looked at
pub record LeastSoFar (replies others : List Value) (seen : ℕ) (least : ℤ) : Type 0 where
  pub first : ℤ
  pub numbers : List ℤ
  pub begins : replies ≡ Int first ∷ others
  pub all : take seen others ≡ map Int numbers
  pub least_is : least ≡ fold int_min first numbers
  pub fits : FitsSigned w64 least

fits_least : (a b : ℤ) → FitsSigned w64 a → FitsSigned w64 b → FitsSigned w64 (int_min a b)
fits_least a b a_fits b_fits = by (int_lt b a)
  where
    by : (less : Bool) → FitsSigned w64 (cond less b a)
    by true = b_fits
    by false = a_fits

module _ (replies left : List Value) (at : ℕ) (reply : Value) (least : ℤ) (within : at < length left)
    (there : reply ≡ get_or left at reply) (so_far : LeastSoFar replies left at least) where
  pub other_differs : ((n : ℤ) → reply ≡ Int n → ⊥) → (answer : Value) → MergesLeast replies answer → ⊥
  other_differs differs answer m =
      differs_at Int left at reply within there so_far.numbers so_far.all differs m.others (tail_is (sym so_far.begins ∙ m.all))

  module _ (number : ℤ) (is : reply ≡ Int number) (fits_one : FitsSigned w64 number) where
    fits_now : FitsSigned w64 (int_min least number)
    fits_now = fits_least least number so_far.fits fits_one

    pub next_least : (result : ℤ) → result ≡ int_min least number → LeastSoFar replies left (at + 1) (to_z w64 (of_z w64 result))
    next_least result result_is = subst (LeastSoFar replies left (at + 1))
        (sym (to_z-of_z {w = w64} (subst (FitsSigned w64) (sym result_is) fits_now) ∙ result_is)) (record {
          first = so_far.first;
          numbers = so_far.numbers ++ number ∷ [];
          begins = so_far.begins;
          all = one_more Int left at reply within there so_far.numbers so_far.all number is;
          least_is = ap (λ n. int_min n number) so_far.least_is ∙ sym (fold_push int_min so_far.first so_far.numbers number);
          fits = fits_now;
        })
