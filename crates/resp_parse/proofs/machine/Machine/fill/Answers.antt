use Rattle.std.proofs.Common.{arith}
use Rattle.std.proofs.lemmas.Grind.{common_steps}
use Rattle.resp_parse.proofs.FilledBodies.{FilledOpenBody-body}
use Rattle.resp_parse.proofs.machine.Machine.fill.Goals as goal

pub returns-clause-fills : goal.returns-clause-fills
returns-clause-fills g c =
    FilledOpenBody-body c.args.self.now c.in-Some.body c.fill.new.self c.args.bytes.now c.in_ok-taken.taken c.in-Some.is
    c.in_ok-taken.ensures.fills c.requires.lacks (grind (arith, common_steps)) c.args.counts.now c.iterate.new.self
    c.examine.new.self _ c.iterate.ensures c.examine.ensures
