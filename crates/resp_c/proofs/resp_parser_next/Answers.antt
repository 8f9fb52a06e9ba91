use Rattle.std.proofs.Common.{sym, ap, ◌∙◌}
use Rattle.resp_c.specs.declared.session.Session.{Session}
use Rattle.resp_c.specs.Calls.{Called, Shown}
use Rattle.resp_c.proofs.resp_parser_next.Goals as goal

pub returns-clause-taken : goal.returns-clause-taken
returns-clause-taken c =
    let did = c.next-status.ensures in
    let same = c.deref_mut.ensures.value in
    Called.held c.in-Some.session.value c.next-status.new.self (sym c.in-Some.ensures.session) c.put.ensures (record {
      taken = rw same at did.taken;
      limits = did.limits ∙ ap (λ (s : Session). s.parser.limits) same;
      empty = did.empty;
      fault = λ no. let stays = did.fault no in
          (stays.0 ∙ ap (λ (s : Session). s.fault) same, stays.1 ∙ ap (λ (s : Session). s.place) same);
    })

pub returns-clause-shown : goal.returns-clause-shown
returns-clause-shown c = Shown.held c.next-status.new.self c.put.ensures (rw c.deref.ensures at c.show.ensures.shows)
