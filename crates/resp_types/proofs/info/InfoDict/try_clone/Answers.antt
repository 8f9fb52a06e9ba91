use Rattle.std.proofs.Common.{◌∙◌}
use Rattle.resp_types.proofs.Copies.{none_copied, one_copied, all_copied}
use Rattle.resp_types.proofs.info.InfoDict.try_clone.Goals as goal

pub loop-key-init : goal.loop-key-init
loop-key-init c = none_copied _ _ _ (c.into_iter-key-iterator.ensures.into_iter_gives ∙ c.iter-key-items.ensures.rest)
    c.new-map.ensures.empty c.iter-key-items.ensures.ordered

pub loop-key-preserved : goal.loop-key-preserved
loop-key-preserved c = one_copied c.args.self.now.map.entries c.loop-key.key-iterator c.next.new.self
    c.loop-key.map.entries c.add.new.map.entries c.in-Some.key.now c.in-Some.value.now c.in_ok-from_str.field-0
    c.in_ok-value.value c.loop-key.invariant c.in-Some.ensures.steps c.in_ok-add.ensures
    (c.in_ok-from_str.ensures.ok ∙ c.as_str.ensures.value) c.in_ok-value.ensures

pub returns : goal.returns
returns c = all_copied _ _ _ c.loop-key.invariant c.in-None.ensures.steps.0
