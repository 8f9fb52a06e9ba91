use Rattle.std.proofs.Common.{◌-◌, Bool, List, ap, arith}
use Rattle.resp_pipeline.specs.Pipeline.{Plan}
use Rattle.resp_pipeline.proofs.LastCommand.{last_set}
use Rattle.resp_pipeline.proofs.pipeline.Pipeline.ignore.Goals as goal

pub returns-then-len-gt0-clause-marked : goal.returns-then-len-gt0-clause-marked
returns-then-len-gt0-clause-marked c =
    let p = c.self.inside in
    let set = last_set p.ignored.items (c.len-len.result - 1) (omega (arith, p.ignored.ok.0)) in
    let marked : List Bool → Plan = λ marks. record {
      commands = p.commands.items;
      ignored = marks;
      atomic = p.atomic;
      ignores_errors = p.ignores_errors;
    } in
    rw (← c.self.view_is) (ap marked set)
