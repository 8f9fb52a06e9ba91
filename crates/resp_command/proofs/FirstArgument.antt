-- Whether a command is a subscription, by its first ordinary argument.
use Rattle.std.proofs.Common.{◌≡◌, ℕ, suc, zero, ◌+◌, ◌<◌, ◌/◌, ◌%◌, ◌==◌, Bool, true, false, List, [], ◌∷◌}
use Rattle.std.proofs.Common.{nat_eq, nat_lt, Option, None, Some, refl, sym, ap, ◌∙◌, arith, length, IsTrue, not, ◌↔◌}
use Rattle.std.specs.Prelude.{◌&&◌, codes, decimal, slice_get, if◌then◌else◌}
use Rattle.std.specs.Fmt.{digit_glyph, digits, digits_onto}
use Rattle.std.specs.Str.{bytes_eq, str_eq_ignore_ascii_case, str_to_ascii_lowercase}
use Rattle.std.specs.Char.{to_ascii_lowercase}
use Rattle.std.proofs.lemmas.List.{length-map}
use Rattle.resp_args.specs.Args.{Args}
use Rattle.resp_command.specs.Pieces.{Keeps, sent_args}
use Rattle.resp_command.specs.Subscriptions.{is_subscription, is_subscription_name}
use Rattle.resp_command.proofs.ArgsWalk.{unequal}
use Rattle.resp_command.proofs.PiecesAgree.{interleaved-simple, lt-test}

-- ---- a text of few bytes is no name

none_after : (test : Bool) {later : Bool} → later ≡ false → (test && later) ≡ false
none_after true e = e
none_after false e = refl

shorter : (xs ys : List ℕ) → length xs < length ys → bytes_eq xs ys ≡ false
shorter [] [] l = absurd (omega arith)
shorter [] (y ∷ ys) l = refl
shorter (x ∷ xs) [] l = absurd (omega arith)
shorter (x ∷ xs) (y ∷ ys) l = none_after (nat_eq x y) (shorter xs ys (omega arith))

pub of_few : (name text : List ℕ) → length name < length text → str_eq_ignore_ascii_case name text ≡ false
of_few name text l =
    let n : length (str_to_ascii_lowercase name) ≡ length name = length-map name to_ascii_lowercase in
    let t : length (str_to_ascii_lowercase text) ≡ length text = length-map text to_ascii_lowercase in
    shorter (str_to_ascii_lowercase name) (str_to_ascii_lowercase text) (omega arith)

pub few : (name : List ℕ) → length name < 9 → is_subscription_name name ≡ false
unfolding is_subscription_name
few name l = rw (
  of_few name (codes "SUBSCRIBE") l,
  of_few name (codes "PSUBSCRIBE") (omega arith),
  of_few name (codes "SSUBSCRIBE") (omega arith),
  of_few name (codes "UNSUBSCRIBE") (omega arith),
  of_few name (codes "PUNSUBSCRIBE") (omega arith),
  of_few name (codes "SUNSUBSCRIBE") (omega arith),
) refl

-- ---- a number is no name

record BeginsWithDigit (bytes : List ℕ) : Type 0 where
  pub digit : ℕ
  pub more : List ℕ
  pub whole : bytes ≡ digit ∷ more
  pub small : digit < 58

no_name : (bytes : List ℕ) → BeginsWithDigit bytes → is_subscription_name bytes ≡ false
unfolding is_subscription_name
no_name bytes h =
    let l = h.small in
    let low : nat_lt h.digit 65 ≡ true = lt-test h.digit 65 (omega arith) in
    let s : nat_eq h.digit 115 ≡ false = unequal h.digit 115 (λ e. omega arith) in
    let p : nat_eq h.digit 112 ≡ false = unequal h.digit 112 (λ e. omega arith) in
    let u : nat_eq h.digit 117 ≡ false = unequal h.digit 117 (λ e. omega arith) in
    rw (h.whole, low, s, p, u) refl

glyph : (n : ℕ) (acc : List ℕ) → BeginsWithDigit (digit_glyph false (n % 10) ∷ acc)
glyph n acc =
    let low : nat_lt (n % 10) 10 ≡ true = lt-test (n % 10) 10 (omega arith) in
    record { digit = 48 + n % 10; more = acc; whole = rw low refl; small = omega arith }

onto : (k n : ℕ) (acc : List ℕ) → BeginsWithDigit acc → BeginsWithDigit (digits_onto k 10 false n acc)
onto zero n acc h = h
onto (suc k) n acc h = by_test (n / 10 == 0) (onto k (n / 10) _ (glyph n acc))
  where
    by_test : {later : List ℕ} (test : Bool) → BeginsWithDigit later
        → BeginsWithDigit (if test then digit_glyph false (n % 10) ∷ acc else later)
    by_test true _ = glyph n acc
    by_test false h = h

decimal_begins : (n : ℕ) → BeginsWithDigit (decimal n)
unfolding digits
decimal_begins n = by_test (n / 10 == 0)
  where
    by_test : (test : Bool) → BeginsWithDigit (if test then digit_glyph false (n % 10) ∷ []
        else digits_onto 63 10 false (n / 10) (digit_glyph false (n % 10) ∷ []))
    by_test true = glyph n []
    by_test false = onto 63 (n / 10) _ (glyph n [])

-- ---- the first argument

-- it isn't a cursor argument
pub named : (cursor : Option ℕ) (cursors : List ℕ) (args : Args) (name : List ℕ) → slice_get args 0 ≡ Some name
    → (slice_get cursors 0 ≡ Some 0 → ⊥) → is_subscription (sent_args cursor cursors args) ≡ is_subscription_name name
named cursor cursors [] name is other = absurd (cc)
named cursor [] (arg ∷ args) name is other = let same : arg ≡ name = cc in rw same refl
named cursor (zero ∷ cursors) (arg ∷ args) name is other = absurd (other refl)
named cursor (suc place ∷ cursors) (arg ∷ args) name is other =
    let same : arg ≡ name = cc in
    rw (interleaved-simple 0 (suc place) cursors arg args (omega arith)) (ap is_subscription_name same)

-- it is one
pub at_cursor : (cursor : Option ℕ) (cursors : List ℕ) (args : Args) → Keeps cursor cursors args
    → slice_get cursors 0 ≡ Some 0 → is_subscription (sent_args cursor cursors args) ≡ false
at_cursor cursor [] args keeps is = absurd (cc)
at_cursor None (place ∷ places) args keeps is = absurd (let none = keeps.unset in cc)
at_cursor (Some n) (suc place ∷ places) args keeps is = absurd (cc)
at_cursor (Some n) (zero ∷ places) [] keeps is = no_name (decimal n) (decimal_begins n)
at_cursor (Some n) (zero ∷ places) (arg ∷ args) keeps is = no_name (decimal n) (decimal_begins n)

-- there is no ordinary argument
pub nameless : (cursor : Option ℕ) (cursors : List ℕ) (args : Args) → Keeps cursor cursors args
    → slice_get args 0 ≡ None → is_subscription (sent_args cursor cursors args) ≡ false
nameless cursor cursors (arg ∷ args) keeps is = absurd (cc)
nameless cursor [] [] keeps is = refl
nameless None (place ∷ places) [] keeps is = absurd (let none = keeps.unset in cc)
nameless (Some n) (place ∷ places) [] keeps is = no_name (decimal n) (decimal_begins n)

-- ---- by the first ordinary argument, and whether a cursor argument is before it

pub other_first : (cursor : Option ℕ) (cursors : List ℕ) (args : Args) (name : List ℕ) → Keeps cursor cursors args
    → slice_get args 0 ≡ Some name → is_subscription_name name ≡ false
    → is_subscription (sent_args cursor cursors args) ≡ false
other_first cursor [] args name keeps is other = named cursor [] args name is (λ e. cc) ∙ other
other_first cursor (zero ∷ places) args name keeps is other = at_cursor cursor (zero ∷ places) args keeps refl
other_first cursor (suc place ∷ places) args name keeps is other =
    named cursor (suc place ∷ places) args name is (λ e. cc) ∙ other

pub named_first : (cursor : Option ℕ) (cursors : List ℕ) (args : Args) (name : List ℕ) → Keeps cursor cursors args
    → slice_get args 0 ≡ Some name → is_subscription_name name ≡ true
    → (begins : Bool) → IsTrue begins ↔ (slice_get cursors 0 ≡ Some 0)
    → not begins ≡ is_subscription (sent_args cursor cursors args)
named_first cursor cursors args name keeps is such true begins = sym (at_cursor cursor cursors args keeps (begins.0 refl))
named_first cursor cursors args name keeps is such false begins =
    sym (named cursor cursors args name is (λ e. let t = begins.1 e in cc) ∙ such)
