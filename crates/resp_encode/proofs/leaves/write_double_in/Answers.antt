use Rattle.std.proofs.Common.{rules}
use Rattle.resp_value.specs.declared.value.Value.{Double}
use Rattle.resp_value.specs.declared.value.Value.TheVariants.{rolls-Double}
use Rattle.resp_value.specs.declared.value.Value.TheOpen.{Value-F}
use Rattle.resp_encode.proofs.FlatLeaves.{in_resp2, in_resp3, unsent}
use Rattle.resp_encode.proofs.leaves.write_double_in.Goals as goal

pub returns-in-Some-RESP2 : goal.returns-in-Some-RESP2
returns-in-Some-RESP2 c = λ d. in_resp2 _ _ d (Value-F.Double c.args.text.now) (Double c.args.text.now) _ _
    (rolls-Double c.args.text.now) (search rules) (search rules)

pub returns-in-Some-RESP3 : goal.returns-in-Some-RESP3
returns-in-Some-RESP3 c = λ d. in_resp3 _ _ d (Value-F.Double c.args.text.now) (Double c.args.text.now) _ _
    (rolls-Double c.args.text.now) (search rules) c.write_double.ensures

pub returns-in-None : goal.returns-in-None
returns-in-None c = λ d. unsent _ d (Double c.args.text.now) _ c.in-None.is
