use Rattle.std.proofs.Common.{◌-◌, ◌^◌, length}
use Rattle.resp_parse.specs.State.{IsBetweenValues}
use Rattle.resp_link.specs.Receiving.{inflow_of}
use Rattle.resp_link.proofs.Receiving.{OnlyPushes}
use Rattle.resp_link.proofs.inbox.Inbox.next_reply.Given as goal

abbrev pub invariant-loop-value : goal.invariant-loop-value
invariant-loop-value g l =
    let source = g.S.ReplySource.source in
    record {
      rest : IsBetweenValues l.self.parser;
      only : OnlyPushes
          (inflow_of l.initial.self.parser (source l.initial.self.source) l.initial.self.pushes.list.items
          l.initial.self.pushes.bytes)
          (inflow_of l.self.parser (source l.self.source) l.self.pushes.list.items l.self.pushes.bytes);
    }

abbrev pub decreases-loop-value : goal.decreases-loop-value
decreases-loop-value g l = 2 ^ 64 - length l.self.pushes.list.items
