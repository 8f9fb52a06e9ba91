use Rattle.std.proofs.Common.{◌-◌, arith}
use Rattle.resp_pipeline.proofs.LastCommand.{appends_to_last}
use Rattle.resp_pipeline.proofs.pipeline.Pipeline.push_arg.Goals as goal

pub returns-clause-given : goal.returns-clause-given
returns-clause-given g c =
    let some = rw (← c.self.view_is) at c.requires in
    rw (← c.self.view_is)
    (appends_to_last _ _ _ (c.len-last.result - 1) _ _ (omega (arith, c.self.inside.commands.ok.0, some))
    c.index_mut.ensures.value c.push_arg.ensures.given c.push_arg.ensures.rest)
