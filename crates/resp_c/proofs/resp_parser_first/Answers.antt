use Rattle.std.proofs.Common.{sym, ap, ◌∙◌}
use Rattle.resp_c.specs.declared.session.Session.{Session}
use Rattle.resp_c.specs.Calls.{Called, Shown}
use Rattle.resp_c.proofs.resp_parser_first.Goals as goal

pub returns-clause-first : goal.returns-clause-first
returns-clause-first c =
    let did = c.first-status.ensures in
    let same = c.deref_mut.ensures.value in
    Called.held c.in-Some.session.value c.first-status.new.self (sym c.in-Some.ensures.session) c.put.ensures (record {
      first = did.first;
      empty = did.empty;
      parser = did.parser ∙ ap (λ (s : Session). s.parser) same;
      fault = λ no. let stays = did.fault no in
          (stays.0 ∙ ap (λ (s : Session). s.fault) same, stays.1 ∙ ap (λ (s : Session). s.place) same);
    })

pub returns-clause-shown : goal.returns-clause-shown
returns-clause-shown c = Shown.held c.first-status.new.self c.put.ensures (rw c.deref.ensures at c.show.ensures.shows)
