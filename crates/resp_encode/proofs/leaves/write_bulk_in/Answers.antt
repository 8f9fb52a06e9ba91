use Rattle.std.proofs.Common.{rules}
use Rattle.resp_value.specs.declared.value.Value.{BulkString}
use Rattle.resp_value.specs.declared.value.Value.TheVariants.{rolls-BulkString}
use Rattle.resp_value.specs.declared.value.Value.TheOpen.{Value-F}
use Rattle.resp_encode.proofs.FlatLeaves.{in_resp2, in_resp3, unsent}
use Rattle.resp_encode.proofs.leaves.write_bulk_in.Goals as goal

pub returns-in-Some-RESP2 : goal.returns-in-Some-RESP2
returns-in-Some-RESP2 c = λ d. in_resp2 _ _ d (Value-F.BulkString c.args.bytes.now)
    (BulkString c.args.bytes.now) _ _ (rolls-BulkString c.args.bytes.now) (search rules) c.write_body.ensures

pub returns-in-Some-RESP3 : goal.returns-in-Some-RESP3
returns-in-Some-RESP3 c = λ d. in_resp3 _ _ d (Value-F.BulkString c.args.bytes.now)
    (BulkString c.args.bytes.now) _ _ (rolls-BulkString c.args.bytes.now)
    (search rules) c.write_body-in-Some-RESP3.ensures

pub returns-in-None : goal.returns-in-None
returns-in-None c = λ d. unsent _ d (BulkString c.args.bytes.now) _ c.in-None.is
