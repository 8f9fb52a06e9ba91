use Rattle.resp_parse.specs.State.{IsBetweenValues}
use Rattle.resp_link.specs.Receiving.{inflow_of}
use Rattle.resp_link.proofs.TakenParts.{HandedSoFar}
use Rattle.resp_link.proofs.inbox.Inbox.hand_body.Given as goal

abbrev pub invariant-loop-missing : goal.invariant-loop-missing
invariant-loop-missing g l =
    let source = g.S.ReplySource.source in
    let sink = g.K.CommandSink.sink in
    record {
      rest : IsBetweenValues l.self.parser;
      so_far : HandedSoFar l.len
          (inflow_of l.initial.self.parser (source l.initial.self.source) l.initial.self.pushes.list.items
          l.initial.self.pushes.bytes)
          (inflow_of l.self.parser (source l.self.source) l.self.pushes.list.items l.self.pushes.bytes)
          (sink l.initial.sink) (sink l.sink) l.missing;
    }

abbrev pub decreases-loop-missing : goal.decreases-loop-missing
decreases-loop-missing g l = l.missing
