use Rattle.std.proofs.Common.{arith}
use Rattle.resp_parse.proofs.BodiesInPieces.{begins_with_body}
use Rattle.resp_parse.proofs.line.body_at_hand.Goals as goal

pub returns-in-Ok-true : goal.returns-in-Ok-true
returns-in-Ok-true c = record {
  body = begins_with_body c.args.n c.args.bytes.now c.split_at.result.0.now c.split_at.result.1.now (omega arith)
      c.split_at.ensures.front c.split_at.ensures.back (rw c.in-Ok-true.field-0-test at c.in-Ok-true.ensures.end);
}
