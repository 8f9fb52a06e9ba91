use Rattle.std.proofs.Common.{false, drop, arith, refl, sym, ◌∙◌, None}
use Rattle.resp_parse.proofs.ParserStates.{IsBetweenValues-from_same}
use Rattle.resp_parse.proofs.Holding.{Holds-new}
use Rattle.resp_parse.proofs.FaultOffsets.{Placed-none}
use Rattle.resp_parse.specs.Invariant.{limits_of}
use Rattle.resp_parse.proofs.CountingTaken.{CountsTaken-fresh}
use Rattle.resp_parse.proofs.Counting.{Counted-new, depth-fresh, bounded}
use Rattle.resp_parse.proofs.decoder.Decoder.within.Goals as goal

pub invariant_of-result : goal.invariant_of-result
invariant_of-result g c = record {
  consumed = omega arith;
  limits = rw c.new-2.ensures.limit c.requires.limits;
  depth = depth-fresh c.new-2.result c.new-2.ensures.fresh;
  holds = Holds-new c.new-2.result c.new.result.items c.new-3.result c.new.ensures.items c.new-3.ensures
      c.new-2.ensures.fresh c.new-2.ensures.scanned;
  placed = Placed-none (limits_of c.new-2.result c.args.limits.bytes c.args.limits.pushes) None _ false refl;
  builds = λ _. c.new-2.ensures.builds;
  counted = Counted-new c.new-2.result c.new.result.items c.new-4.result c.new-4.ensures c.new-2.ensures.fresh
      c.new-2.ensures.scanned c.new.ensures.items;
  taken = λ _. CountsTaken-fresh c.args.limits.bytes c.new-2.result (drop 0 c.new.result.items) c.new-3.result
      c.new-2.ensures.fresh c.new-2.ensures.scanned (c.new.ensures.items ∙ sym c.new-3.ensures);
}

pub returns-clause-rest : goal.returns-clause-rest
returns-clause-rest g c = IsBetweenValues-from_same _ refl (c.new-3.ensures ∙ sym c.new.ensures.items)

pub returns-clause-bounds : goal.returns-clause-bounds
returns-clause-bounds g c =
    let kept = invariant_of-result g c in bounded kept _ _ (λ w. g.met.B.Builder.paid_for _ _ _ (kept.builds w))
