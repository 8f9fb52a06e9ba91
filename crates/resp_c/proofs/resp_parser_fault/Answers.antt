use Rattle.std.proofs.Common.{sym, ap}
use Rattle.resp_c.specs.declared.session.Session.{Session}
use Rattle.resp_c.specs.Calls.{Told}
use Rattle.resp_c.proofs.resp_parser_fault.Goals as goal

pub returns-clause-fault : goal.returns-clause-fault
returns-clause-fault c =
    Told.held c.in-Some.session.value (sym c.in-Some.ensures.session) c.put.ensures (record {
      fault_is = ap (λ (s : Session). s.fault) c.deref.ensures;
      offset_is = ap (λ (s : Session). s.place) c.deref-2.ensures;
    })
