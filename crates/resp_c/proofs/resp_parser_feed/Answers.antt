use Rattle.std.proofs.Common.{sym}
use Rattle.resp_c.specs.Calls.{Called}
use Rattle.resp_c.proofs.resp_parser_feed.Goals as goal

pub returns : goal.returns
returns c = record {
  fed = Called.held c.in-Some.session.value c.feed-status.new.self (sym c.in-Some.ensures.session) c.put.ensures
      (rw c.deref_mut.ensures.value at c.feed-status.ensures.fed);
}
