use Rattle.std.proofs.Common.{length, ◌-◌}
use Rattle.resp_parse.specs.Building.{progress_of}
use Rattle.resp_parse.specs.Resume.{Ran}
use Rattle.resp_parse.specs.Costs.{CostSoFar}
use Rattle.resp_parse.proofs.machine.Machine.run.Given as goal

abbrev pub invariant-loop-at : goal.invariant-loop-at
invariant-loop-at g l = record {
  ran : Ran l.fn.self l.self l.bytes l.at;
  builds : g.B.Builder.stands l.self.builder l.self.open_aggregates (progress_of l.self.body);
  cost_so_far : CostSoFar l.fn.self l.self l.fn.counts l.counts l.at;
}

abbrev pub decreases-loop-at : goal.decreases-loop-at
decreases-loop-at g l = length l.bytes - l.at
