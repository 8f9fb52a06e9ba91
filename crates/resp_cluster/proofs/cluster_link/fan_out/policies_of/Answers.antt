use Rattle.std.proofs.Common.{◌≡◌}
use Rattle.resp_routing.specs.Commands.{words}
use Rattle.resp_cluster.specs.Cluster.{routed_args}
use Rattle.resp_cluster.proofs.FanningOut.{unrouted_then}
use Rattle.resp_cluster.proofs.cluster_link.fan_out.policies_of.Goals as goal

pub returns-in-Err-clause-refused : goal.returns-in-Err-clause-refused
returns-in-Err-clause-refused c = λ differ.
    let shown : words c.as_slice-words.result.now ≡ routed_args c.args.command.now =
    rw c.as_slice-words.ensures.value c.in_ok-args.ensures.shown in
    unrouted_then c.args.command.now (words c.as_slice-words.result.now) shown _ c.in-Err.refusal c.in-Err.ensures.refused
    c.in_ok-to_redis_error-in-Err.ensures.given differ
