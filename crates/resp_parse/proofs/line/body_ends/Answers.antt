use Rattle.std.proofs.Common.{arith}
use Rattle.std.proofs.lemmas.Grind.{common_steps}
use Rattle.resp_parse.proofs.BodyEnds.{end-whole}
use Rattle.resp_parse.proofs.line.body_ends.Goals as goal

pub returns : goal.returns
returns c = record { end = end-whole c.args.bytes.now (grind (arith, common_steps)) (omega arith) (omega arith) }
