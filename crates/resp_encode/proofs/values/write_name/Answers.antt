use Rattle.std.proofs.Common.{subst, arith}
use Rattle.resp_parse.specs.declared.type_byte.TypeByte.TheVariants as type_byte
use Rattle.resp_encode.specs.Encoding.{body_of}
use Rattle.resp_encode.specs.Appending.{AppendsText}
use Rattle.resp_encode.proofs.Levels.{no_level, name_level}
use Rattle.resp_encode.proofs.values.write_name.Goals as goal

pub returns-then-depth-eq0 : goal.returns-then-depth-eq0
returns-then-depth-eq0 c = no_level _ _ _ _ c.if-depth-eq0.true

pub returns-in-RESP2 : goal.returns-in-RESP2
returns-in-RESP2 c = name_level _ _ _ _ _ _ (omega arith)
    (subst (λ b. AppendsText c.write_body.result (body_of type_byte.BulkString b) c.args.out.now.items
    c.write_body.new.out.items) c.as_bytes.ensures.value c.write_body.ensures)

pub returns-in-RESP3 : goal.returns-in-RESP3
returns-in-RESP3 c = name_level _ _ _ _ _ _ (omega arith)
    (subst (λ b. AppendsText c.write_body-in-RESP3.result (body_of type_byte.BulkString b) c.args.out.now.items
    c.write_body-in-RESP3.new.out.items) c.as_bytes-in-RESP3.ensures.value c.write_body-in-RESP3.ensures)
