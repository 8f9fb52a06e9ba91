use Rattle.std.proofs.Common.{rules}
use Rattle.resp_value.specs.declared.value.Value.{Boolean}
use Rattle.resp_value.specs.declared.value.Value.TheVariants.{rolls-Boolean}
use Rattle.resp_value.specs.declared.value.Value.TheOpen.{Value-F}
use Rattle.resp_encode.proofs.FlatLeaves.{in_resp2, in_resp3, unsent}
use Rattle.resp_encode.proofs.leaves.write_bool.Goals as goal

pub returns-after-truth : goal.returns-after-truth
returns-after-truth c = λ d. in_resp2 _ _ d (Value-F.Boolean c.args.truth) (Boolean c.args.truth) _ _
    (rolls-Boolean c.args.truth) (search rules) (search rules)

pub returns-after-truth-2 : goal.returns-after-truth-2
returns-after-truth-2 c = λ d. in_resp3 _ _ d (Value-F.Boolean c.args.truth) (Boolean c.args.truth) _ _
    (rolls-Boolean c.args.truth) (search rules) (search rules)

pub returns-in-None : goal.returns-in-None
returns-in-None c = λ d. unsent _ d (Boolean c.args.truth) _ c.in-None.is
