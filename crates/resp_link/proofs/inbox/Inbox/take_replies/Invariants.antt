use Rattle.std.proofs.Common.{◌≤◌}
use Rattle.resp_parse.specs.State.{IsBetweenValues}
use Rattle.resp_link.specs.Receiving.{inflow_of, Receives}
use Rattle.resp_link.proofs.inbox.Inbox.take_replies.Given as goal

abbrev pub invariant-loop : goal.invariant-loop
invariant-loop g l =
    let source = g.S.ReplySource.source in
    record {
      within : l.counter ≤ l.count;
      rest : IsBetweenValues l.self.parser;
      so_far : Receives l.counter
          (inflow_of l.initial.self.parser (source l.initial.self.source) l.initial.self.pushes.list.items
          l.initial.self.pushes.bytes)
          (inflow_of l.self.parser (source l.self.source) l.self.pushes.list.items l.self.pushes.bytes) l.replies.items;
    }
