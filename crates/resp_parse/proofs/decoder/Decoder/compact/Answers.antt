use Rattle.std.proofs.Common.{arith}
use Rattle.std.proofs.lemmas.Grind.{common_steps}
use Rattle.resp_parse.proofs.decoder.Decoder.compact.Goals as goal

pub invariant_of-self : goal.invariant_of-self
invariant_of-self g c = grind (arith, common_steps)

pub returns-then-self-unparsed : goal.returns-then-self-unparsed
returns-then-self-unparsed g c = grind (arith, common_steps)
