use Rattle.std.proofs.Common.{◌≡◌, ◌+◌, ◌<◌, ◌≤◌, Some, None, length, rules}
use Rattle.std.specs.Prelude.{slice_get}
use Rattle.std.proofs.lemmas.Option.{slice_get_past, slice_get_within}
use Rattle.resp_command.proofs.PiecesAgree.{some_within, left_last_cursor, left_cursor, left_nothing, left_only_simple}
use Rattle.resp_command.proofs.PiecesAgree.{left_simple}
use Rattle.resp_command.proofs.args_iter.ArgsIter.is_at_cursor.Goals as goal

pub returns-else-not-has_arg-clause-cursor : goal.returns-else-not-has_arg-clause-cursor
returns-else-not-has_arg-clause-cursor c = λ yes.
    let it = c.args.self.now in
    let there : slice_get it.cursors.now it.passed ≡ Some c.in-Some.place = search rules in
    let low : c.in-Some.place ≤ it.taken + it.passed = search rules in
    let within : it.passed < length it.cursors.now = slice_get_within it.cursors.now it.passed c.in-Some.place there in
    (within, left_cursor it.encoded_args.now it.cursors.now it.taken it.passed c.in-Some.place there low)

pub returns-else-not-has_arg-clause-simple : goal.returns-else-not-has_arg-clause-simple
returns-else-not-has_arg-clause-simple c = λ no arg some.
    let it = c.args.self.now in
    let there : slice_get it.cursors.now it.passed ≡ Some c.in-Some.place = search rules in
    let high : it.taken + it.passed < c.in-Some.place = search rules in
    left_simple it.encoded_args.now it.cursors.now it.taken it.passed c.in-Some.place arg there some high

pub returns-else-not-has_arg-clause-nothing : goal.returns-else-not-has_arg-clause-nothing
returns-else-not-has_arg-clause-nothing c = λ no none.
    let it = c.args.self.now in
    let has : it.taken < length it.encoded_args.now = search rules in
    absurd (some_within it.encoded_args.now it.taken has none)

pub returns-in-None-clause-simple : goal.returns-in-None-clause-simple
returns-in-None-clause-simple c = λ no arg some.
    let it = c.args.self.now in
    let none : slice_get it.cursors.now it.passed ≡ None = search rules in
    left_only_simple it.encoded_args.now it.cursors.now it.taken it.passed arg none some

pub returns-in-None-clause-nothing : goal.returns-in-None-clause-nothing
returns-in-None-clause-nothing c = λ no none'.
    let it = c.args.self.now in
    let none : slice_get it.cursors.now it.passed ≡ None = search rules in
    left_nothing it.encoded_args.now it.cursors.now it.taken it.passed none none'

pub returns-then-not-has_arg-clause-cursor : goal.returns-then-not-has_arg-clause-cursor
returns-then-not-has_arg-clause-cursor c = λ yes.
    let it = c.args.self.now in
    let there : slice_get it.cursors.now it.passed ≡ Some c.in-Some.place = search rules in
    let past : length it.encoded_args.now ≤ it.taken = search rules in (
      slice_get_within it.cursors.now it.passed c.in-Some.place there,
      left_last_cursor it.encoded_args.now it.cursors.now it.taken it.passed c.in-Some.place there
          (slice_get_past it.encoded_args.now it.taken past),
    )
