use Rattle.std.specs.Str.{is_utf8}
use Rattle.std.proofs.Common.{sym}
use Rattle.std.proofs.lemmas.Str.{IsUtf8-from_is_utf8, is_utf8-from_IsUtf8}
use Rattle.resp_parse.proofs.ByteTests.{not_true}
use Rattle.resp_parse.proofs.flat_builder.is_text.Goals as goal

pub returns-in-Ok : goal.returns-in-Ok
returns-in-Ok c = sym (is_utf8-from_IsUtf8 c.args.bytes.now c.in-Ok.ensures.cases.1)

pub returns-in-Err : goal.returns-in-Err
returns-in-Err c = sym (not_true (is_utf8 c.args.bytes.now) (λ t. c.in-Err.ensures.cases.0 (IsUtf8-from_is_utf8
    c.args.bytes.now t)))
