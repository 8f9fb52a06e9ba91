use Rattle.std.proofs.Common.{ap, sym, ◌∙◌}
use Rattle.std.specs.List.{cons_option}
use Rattle.std.specs.Str.Iter.{lines_rest}
use Rattle.resp_value.specs.declared.value.Value.{SimpleString}
use Rattle.resp_types.specs.Info.{entries_of_text}
use Rattle.resp_types.proofs.Entries.{first_entry, none_read, line_skipped, line_read}
use Rattle.resp_types.proofs.info.read_text.Goals as goal

pub loop-line-init : goal.loop-line-init
loop-line-init c = none_read c.args.text.now _ _
    (ap lines_rest c.into_iter-line-iterator.ensures.into_iter_gives ∙ c.lines-line-items.ensures.rest)
    c.none-map.ensures.merged

pub loop-line-preserved-in_ok-put : goal.loop-line-preserved-in_ok-put
loop-line-preserved-in_ok-put c =
    let rest = lines_rest c.loop-line.line-iterator in
    let after = lines_rest c.next.new.self in
    let key = c.in-Some-entry_of_line.key.now in
    let value = c.in-Some-entry_of_line.value.now in
    let first = first_entry rest c.in-Some.line.now after c.in-Some.ensures.steps.0.0 c.in-Some.ensures.steps.0.2 in
    let more = first ∙ ap (λ entry. cons_option entry (entries_of_text after)) (sym c.in-Some-entry_of_line.ensures) in
    line_read c.args.text.now rest after c.loop-line.map.entries c.put.new.self.entries c.in_ok-from_str-2.field-0
    (SimpleString c.in_ok-from_str.field-0) (key, value) c.loop-line.invariant more
    (c.in_ok-from_str-2.ensures.ok, ap SimpleString c.in_ok-from_str.ensures) c.in_ok-put.ensures.merged

pub loop-line-preserved : goal.loop-line-preserved
loop-line-preserved c =
    let rest = lines_rest c.loop-line.line-iterator in
    let after = lines_rest c.next.new.self in
    let first = first_entry rest c.in-Some.line.now after c.in-Some.ensures.steps.0.0 c.in-Some.ensures.steps.0.2 in
    line_skipped c.args.text.now rest after c.loop-line.map.entries c.loop-line.invariant
    (first ∙ ap (λ entry. cons_option entry (entries_of_text after)) (sym c.in_default.ensures))
