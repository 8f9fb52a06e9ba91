use Rattle.std.proofs.Common.{◌≡◌, take, ap, sym, ◌∙◌, w64, to_z, pos, Some}
use Rattle.std.proofs.Math.Facts.{to_z_pos}
use Rattle.resp_value.specs.declared.value.Value.{Int, Okay}
use Rattle.resp_parse.specs.declared.type_byte.TypeByte.TheVariants as type_byte
use Rattle.resp_parse.specs.Number.{IsNumeral}
use Rattle.resp_parse.specs.TypeBytes.{type_of}
use Rattle.resp_parse.proofs.Announced.{announced-int}
use Rattle.resp_parse.proofs.Scalars.{scalar-line, scalar-bulk, ok-line}
use Rattle.resp_parse.proofs.machine.Machine.scalar.Goals as goal

pub returns-in-SimpleString-clause-completes : goal.returns-in-SimpleString-clause-completes
returns-in-SimpleString-clause-completes g c =
    let after = c.in_ok-first.after.now in
    let kind : type_of c.in_ok-first.first.now ≡ Some type_byte.SimpleString = sym c.in_ok-from_byte.ensures.kind
    ∙ ap Some c.in-SimpleString.is in
    let ok = ok-line after (sym c.starts_with.ensures.value ∙ c.if-starts_with.true) in
    rw c.in_ok-first.ensures.cases.0
    (scalar-line c.args.self.now c.requires.level c.requires.fresh c.requires.unlooked c.in_ok-first.first.now after
    type_byte.SimpleString kind 2 ok.0 Okay ok.1)

pub returns-in_ok-n-in-Integer-clause-completes : goal.returns-in_ok-n-in-Integer-clause-completes
returns-in_ok-n-in-Integer-clause-completes g c =
    let after = c.in_ok-first.after.now in
    let line = c.in_ok-line-in-Integer.line in
    let found = c.in_ok-line-in-Integer.ensures.line in
    let n = c.in_ok-n-in-Integer.n in
    let kind : type_of c.in_ok-first.first.now ≡ Some type_byte.Integer = sym c.in_ok-from_byte.ensures.kind
    ∙ ap Some c.in-Integer.is in
    let number : IsNumeral (take line.len after) n = rw c.in_ok-n-in-Integer.was at found.1 in
    let same : to_z w64 n ≡ pos n = to_z_pos w64 number.small in
    rw (c.in_ok-first.ensures.cases.0, same)
    (scalar-line c.args.self.now c.requires.level c.requires.fresh c.requires.unlooked c.in_ok-first.first.now after
    type_byte.Integer kind line.len found.0 (Int (pos n)) (announced-int (take line.len after) n number))

pub returns-in-Ok-clause-completes : goal.returns-in-Ok-clause-completes
returns-in-Ok-clause-completes g c =
    let bulk = c.in_ok-bulk-in-BulkString.bulk in
    let kind : type_of c.in_ok-first.first.now ≡ Some type_byte.BulkString = sym c.in_ok-from_byte.ensures.kind
    ∙ ap Some c.in-BulkString.is in
    rw (c.in_ok-first.ensures.cases.0, c.in-Ok.ensures)
    (scalar-bulk c.args.self.now c.requires.level c.requires.fresh c.requires.unlooked c.in_ok-first.first.now
    c.in_ok-first.after.now bulk.len bulk.body.now kind c.in_ok-bulk-in-BulkString.ensures.bulk)
