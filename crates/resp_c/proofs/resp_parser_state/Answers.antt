use Rattle.std.proofs.Common.{sym}
use Rattle.resp_c.specs.Calls.{Told}
use Rattle.resp_c.proofs.resp_parser_state.Goals as goal

pub returns : goal.returns
returns c = record {
  state = Told.held c.in-Some.session.value (sym c.in-Some.ensures.session) c.put.ensures
      (rw c.deref.ensures at c.state-state.ensures.state);
}
