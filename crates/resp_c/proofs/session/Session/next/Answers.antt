use Rattle.std.proofs.Common.{[], false, Ok, ap, sym, subst, ◌∙◌}
use Rattle.resp_parse.specs.State.{State}
use Rattle.resp_parse.specs.Calls.{TakesFlat}
use Rattle.resp_flat.specs.declared.flat_reply.FlatReply.{FlatReply}
use Rattle.resp_c.specs.declared.session.Session.{Session}
use Rattle.resp_c.specs.Sessions.{Holds}
use Rattle.resp_c.proofs.Outcomes.{stands_now, works_unless, note_refused, with_fault-keeps}
use Rattle.resp_c.proofs.session.Session.next.Goals as goal

pub returns-in-Ok-false-clause-empty : goal.returns-in-Ok-false-clause-empty
returns-in-Ok-false-clause-empty c = λ none.
    let s = c.args.self.now in
    let stands = stands_now s.parser (works_unless s c.if-is_failed.ensures.failed) in
    let awaits : TakesFlat s.parser.since c.take_reply.new.self c.clear.new.self c.take_reply.new.reply (Ok false) =
    rw c.in-Ok-false.field-0-test at (c.in-Ok-false.ensures.takes s.parser.since stands) in
    subst (λ (r : FlatReply). Holds r [] []) (sym awaits.1)
    (record { tokens_are = c.clear.ensures.tokens; text_is = c.clear.ensures.text })

pub returns-in-Err : goal.returns-in-Err
returns-in-Err c =
    let s = c.args.self.now in
    let w = works_unless s c.if-is_failed.ensures.failed in
    let m : Session = record {
      parser = c.take_reply.new.self;
      reply = c.take_reply.new.reply;
      fault = s.fault;
      place = s.place;
    } in
    let same = (c.in-Err.ensures.takes s.parser.since (stands_now s.parser w)).1 in
    let noted = c.note.ensures.noted in
    let keeps = with_fault-keeps c.in-Err.error c.unwrap_or-place.result m in
    record {
      taken = note_refused s m c.note.new.self c.in-Err.error c.fault_offset.result c.unwrap_or-place.result
          c.note.result
          w (λ b h. (c.in-Err.ensures.takes b h).0) (c.in-Err.ensures.offset w) c.fault_offset.ensures.offset
          c.fault_offset.ensures.shows c.unwrap_or-place.ensures c.note.ensures.status noted;
      limits = ap (λ (u : Session). u.parser.limits) noted ∙ ap (λ (p : State). p.limits) keeps.0
          ∙ c.in-Err.ensures.limits;
      empty = λ none. subst (λ (r : FlatReply). Holds r [] [])
          (sym (ap (λ (u : Session). u.reply) noted ∙ keeps.1 ∙ same))
          (record { tokens_are = c.clear.ensures.tokens; text_is = c.clear.ensures.text });
      fault = λ fine. let stays = noted ∙ keeps.2 (λ is. fine (c.note.ensures.status ∙ is)) in
          (ap (λ (u : Session). u.fault) stays, ap (λ (u : Session). u.place) stays);
    }
