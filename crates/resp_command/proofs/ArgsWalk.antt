-- Which places of cursors are at an argument.
use Rattle.std.proofs.Common.{◌≡◌, ◌≢◌, ℕ, ◌+◌, ◌<◌, Bool, true, false, List, [], ◌∷◌, nat_eq, refl, arith}
use borrow.Author.Tests.{eqb-true, eqb-false}
use Rattle.std.specs.List.{list_any}
use Rattle.resp_args.specs.Args.{Args}
use Rattle.resp_command.specs.Cursors.{AscendWithin}
use Rattle.resp_command.specs.ShownArgs.{shown_from}

pub unequal : (a b : ℕ) → a ≢ b → nat_eq a b ≡ false
unequal a b apart = by_test (nat_eq a b) refl
  where
    by_test : (test : Bool) → nat_eq a b ≡ test → nat_eq a b ≡ false
    by_test true e = absurd (apart (eqb-true a b e))
    by_test false e = e

-- a cursor's place that was passed is at no later argument
pub passed : (place : ℕ) (args : Args) (cursor : ℕ) (cursors : List ℕ) → cursor < place
    → shown_from place args (cursor ∷ cursors) ≡ shown_from place args cursors
passed place [] cursor cursors l = refl
passed place (arg ∷ args) cursor cursors l =
    let apart : nat_eq place cursor ≡ false = unequal place cursor (λ e. omega arith) in
    let rest : shown_from (place + 1) args (cursor ∷ cursors) ≡ shown_from (place + 1) args cursors = passed (place + 1)
    args cursor cursors (omega arith) in
    rw (apart, rest) refl

pub none_at : (place from end : ℕ) (cursors : List ℕ) → place < from → AscendWithin from end cursors
    → list_any (nat_eq place) cursors ≡ false
none_at place from end [] l h = refl
none_at place from end (cursor ∷ cursors) l h =
    let m = h.0 in
    let apart : nat_eq place cursor ≡ false = unequal place cursor (λ e. omega arith) in
    let rest : list_any (nat_eq place) cursors ≡ false = none_at place (cursor + 1) end cursors (omega arith) h.1 in
    rw (apart, rest) refl

pub same_place : (place : ℕ) → nat_eq place place ≡ true
same_place place = by_test (nat_eq place place) refl
  where
    by_test : (test : Bool) → nat_eq place place ≡ test → nat_eq place place ≡ true
    by_test true e = e
    by_test false e = absurd (eqb-false place place e refl)
