use Rattle.std.proofs.Common.{◌∷◌, [], ◌++◌, sym, ap, ◌∙◌, append_assoc}
use Rattle.std.specs.Vec.Iter.{into_iter_items}
use Rattle.resp_from.proofs.InTurn.{in_turn-push}
use Rattle.resp_from.proofs.tuples.values_in_turn.Goals as goal

pub loop-pair-preserved : goal.loop-pair-preserved
loop-pair-preserved c =
    record {
      same = c.loop-pair.invariant.same ∙ (ap (λ ps. c.loop-pair.yielded ++ ps) c.in-Some.ensures.steps.0
          ∙ sym (append_assoc c.loop-pair.yielded (c.in-Some.pair ∷ []) (into_iter_items c.next.new.self)));
      made = c.in_ok-push_pair.ensures ∙ (ap (λ vs. (vs ++ c.in-Some.pair.0 ∷ []) ++ c.in-Some.pair.1 ∷ [])
          c.loop-pair.invariant.made ∙ sym (in_turn-push c.loop-pair.yielded c.in-Some.pair));
    }
