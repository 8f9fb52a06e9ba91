use Rattle.std.proofs.Common.{◌≡◌, ◌-◌, ◌∷◌, ◌∙◌, length, take, drop, refl, sym, arith}
use Rattle.std.proofs.lemmas.Grind.{common_steps}
use Rattle.resp_parse.specs.declared.machine.Machine.{Machine}
use Rattle.resp_parse.specs.OpenAggregates.{KeptIn}
use Rattle.resp_parse.proofs.Attaching.{builds-kept}
use Rattle.resp_parse.proofs.ElementsTaken.{level-kept, Ran-element, CostSoFar-element}
use Rattle.resp_parse.proofs.machine.Machine.elements.Goals as goal

pub loop-alloc-preserved : goal.loop-alloc-preserved
loop-alloc-preserved g c =
    let m = c.loop-alloc.self in
    let at = c.loop-alloc.at in
    let bytes = c.args.bytes.now in
    let i = c.loop-alloc.invariant in
    let first = c.in-Some.first.now in
    let after = c.in-Some.after.now in
    let len = c.in-Some-short_bulk.bulk.len in
    let body = c.in-Some-short_bulk.bulk.body.now in
    let w = c.in_ok-whole.whole in
    let mid : Machine _ = record m { builder = c.bulk.new.self } in
    let new : Machine _ = record m { builder = c.keep.new.self; open_aggregates = c.add_before_last.new.self } in
    let f : take (length bytes - at) (drop at bytes) ≡ drop at bytes = grind (arith, common_steps) in
    let rest : drop at bytes ≡ first ∷ after = sym f ∙ c.in-Some.ensures.cases.0 in
    let kept : KeptIn m.open_aggregates w c.add_before_last.new.self = c.add_before_last.ensures.kept in
    record {
      ran = Ran-element m mid new first after len body w i.no_body i.scanned i.level
          c.in-Some-short_bulk.ensures.dollar c.in-Some-short_bulk.ensures.bulk c.in_ok-whole.ensures.seen refl refl
          i.no_body i.scanned kept refl i.no_body i.scanned c.args.self.now bytes at rest i.ran;
      level = level-kept m mid new first after len body w i.no_body i.scanned i.level
          c.in-Some-short_bulk.ensures.dollar c.in-Some-short_bulk.ensures.bulk c.in_ok-whole.ensures.seen refl refl
          i.no_body i.scanned kept refl i.no_body i.scanned;
      no_body = i.no_body;
      scanned = i.scanned;
      builds = builds-kept g.B.Builder.stands c.bulk.new.self m.open_aggregates w c.add_before_last.new.self
          (c.in_ok-whole.ensures.stands m.open_aggregates i.builds) c.keep.new.self kept c.in_ok-keep.ensures.stands;
      cost_so_far = CostSoFar-element m mid new first after len body w i.no_body i.scanned i.level
          c.in-Some-short_bulk.ensures.dollar c.in-Some-short_bulk.ensures.bulk c.in_ok-whole.ensures.seen refl refl
          i.no_body i.scanned kept refl i.no_body i.scanned c.args.self.now bytes at rest c.args.counts.now
          c.loop-alloc.counts c.iterate.new.self c.examine.new.self c.iterate-in-loop-alloc.new.self i.cost_so_far
          c.iterate.ensures c.examine.ensures c.iterate-in-loop-alloc.ensures;
    }
