use Rattle.std.proofs.Common.{◌≡◌, ◌++◌, [], ◌∙◌, ℕ, List, ap, sym, rules}
use Rattle.std.specs.Prelude.{decimal}
use Rattle.resp_command.specs.Packed.{packed, packed_or_none}
use Rattle.resp_command.specs.Cursors.{with_text_at}
use Rattle.resp_command.proofs.CursorArgs.{none_with_cursor, some_with_cursor}
use Rattle.resp_command.proofs.command.Cmd.get_packed_command_with_cursor.Goals as goal

pub returns-then-is_empty-clause-packed : goal.returns-then-is_empty-clause-packed
returns-then-is_empty-clause-packed c =
    let command = c.args.self.now in
    let none : command.args ≡ [] = search rules in
    c.new-bytes.ensures.items ∙ sym (ap packed_or_none
    (none_with_cursor (decimal c.args.cursor) command.cursors command.args none))

pub returns-clause-packed : goal.returns-clause-packed
returns-clause-packed c =
    let command = c.args.self.now in
    c.in_ok-append_packed.ensures.written
    ∙ ap (λ (bytes : List ℕ). bytes ++ packed (with_text_at (decimal c.args.cursor) command.cursors command.args))
    c.new-bytes.ensures.items
    ∙ some_with_cursor (decimal c.args.cursor) command.cursors command.args
    (λ none. let h = c.if-is_empty.ensures.1 none in cc)
