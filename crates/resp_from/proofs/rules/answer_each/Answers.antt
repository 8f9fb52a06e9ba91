use Rattle.std.proofs.Common.{arith, sym, ap, ◌∙◌, ◌∷◌, [], ◌++◌, append_assoc}
use Rattle.std.specs.Vec.Iter.{into_iter_items}
use Rattle.resp_from.proofs.Conversions.{AllZip-more}
use Rattle.resp_from.proofs.rules.answer_each.Goals as goal

pub loop-reply-preserved : goal.loop-reply-preserved
loop-reply-preserved g c =
    record {
      same = c.loop-reply.invariant.same ∙ (ap (λ vs. c.loop-reply.yielded ++ vs) c.in-Some.ensures.steps.0
          ∙ sym (append_assoc c.loop-reply.yielded (c.in-Some.reply ∷ []) (into_iter_items c.next.new.self)));
      made = rw c.push_reserved.ensures.items (AllZip-more _ _ _ _ _ c.loop-reply.invariant.made
          c.in_ok-answer_one.ensures.answers);
      room = omega (
        arith,
        c.loop-reply.invariant.room,
        c.push_reserved.ensures.len,
        c.push_reserved.ensures.capacity,
        c.in-Some.ensures.steps.1,
      );
    }
