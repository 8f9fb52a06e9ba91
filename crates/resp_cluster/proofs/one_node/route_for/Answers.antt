use Rattle.resp_cluster.proofs.Destinations.{refused_then}
use Rattle.resp_cluster.proofs.one_node.route_for.Goals as goal

pub returns-in-Err-clause-refused : goal.returns-in-Err-clause-refused
returns-in-Err-clause-refused c =
    refused_then c.args.command.now c.in-Err.why c.to_redis_error.result c.in-Err.ensures.refused c.to_redis_error.ensures
