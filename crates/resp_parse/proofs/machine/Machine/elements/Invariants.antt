use Rattle.std.proofs.Common.{◌≡◌, ◌<◌, ◌-◌, length, None}
use Rattle.resp_parse.specs.Building.{nothing}
use Rattle.resp_parse.specs.Costs.{CostSoFar}
use Rattle.resp_parse.specs.Resume.{Ran}
use Rattle.resp_parse.proofs.machine.Machine.elements.Given as goal

abbrev pub invariant-loop-alloc : goal.invariant-loop-alloc
invariant-loop-alloc g l = record {
  ran : Ran l.fn.self l.self l.bytes l.at;
  level : length l.self.open_aggregates < l.self.depth;
  no_body : l.self.body ≡ None;
  scanned : l.self.scanned ≡ 0;
  builds : g.B.Builder.stands l.self.builder l.self.open_aggregates nothing;
  cost_so_far : CostSoFar l.fn.self l.self l.fn.counts l.counts l.at;
}

abbrev pub decreases-loop-alloc : goal.decreases-loop-alloc
decreases-loop-alloc g l = length l.bytes - l.at
