use Rattle.std.proofs.Common.{map, ◌++◌, ◌∙◌, ap, sym}
use Rattle.resp_value.specs.declared.value.Value.{Array}
use Rattle.resp_cluster.specs.Gathering.{from_last}
use Rattle.resp_cluster.proofs.Merging.{others}
use Rattle.resp_cluster.proofs.merge.elements_of.Goals as goal

pub returns-in_default : goal.returns-in_default
returns-in_default c = record {
  arrays = tt;
  refused = λ differ. (
    c.unexpected.ensures,
    λ groups same. others Array (map from_last c.loop-reply.groups.items) c.in-Some.reply _ c.in_default.not-Array groups
        (ap (λ l. map Array (map from_last c.loop-reply.groups.items) ++ l) (sym c.in-Some.ensures.steps.0) ∙ c.loop-reply.invariant ∙ same),
  );
}
