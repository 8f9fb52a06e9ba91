use Rattle.std.proofs.Common.{refl}
use Rattle.resp_cluster.specs.Cluster.{routed, unsent}
use Rattle.resp_cluster.proofs.Destinations.{refused_then}
use Rattle.resp_cluster.proofs.Rounds.{answered_at_once, rounds_then}
use Rattle.resp_cluster.proofs.cluster_link.ClusterLink.req_routed.Goals as goal

pub returns-in-Err : goal.returns-in-Err
returns-in-Err g c = unsent c.to_redis_error.result (refused_then c.args.command.now c.in-Err.why
    c.to_redis_error.result c.in-Err.ensures.refused c.to_redis_error.ensures) refl refl

pub returns-in_default : goal.returns-in_default
returns-in_default g c =
    routed c.in-Ok.route c.make_ready.new.self c.in-Ok.ensures.goes c.make_ready.ensures c.rounds_anew.ensures

pub returns-then-may_redirect : goal.returns-then-may_redirect
returns-then-may_redirect g c = routed c.in-Ok.route c.make_ready.new.self c.in-Ok.ensures.goes c.make_ready.ensures
    (rounds_then g.N.Link.ConnectionLike.connection c.args.command.now c.in-Ok.route
    c.self-2.inside.links c.self-2.inside.map c.self-2.inside.budget c.self-2.inside.reads
    c.self-2.inside.stale c.make_ready.new.self c.self-2.view_is c.in-Some.place c.in-Some.ensures c.send_at-answer.result
    c.send_at-answer.new.self c.send_at-answer.ensures c.rounds_on.new.self c.rounds_on.result c.rounds_on.ensures)

pub returns : goal.returns
returns g c = routed c.in-Ok.route c.make_ready.new.self c.in-Ok.ensures.goes c.make_ready.ensures
    (answered_at_once g.N.Link.ConnectionLike.connection c.args.command.now c.in-Ok.route
    c.self-2.inside.links c.self-2.inside.map c.self-2.inside.budget c.self-2.inside.reads
    c.self-2.inside.stale c.make_ready.new.self c.self-2.view_is c.in-Some.place c.in-Some.ensures c.send_at-answer.result
    c.send_at-answer.new.self c.send_at-answer.ensures
    (c.may_redirect.ensures c.if-may_redirect.false) c.is_err-self-inside.result c.is_err-self-inside.ensures.value)
