use Rattle.std.proofs.lemmas.Result.{err_from_is_err_and}
use Rattle.resp_cluster.specs.Spread.{unsent}
use Rattle.resp_cluster.proofs.Spreading.{group_refused, way_refused}
use Rattle.resp_cluster.proofs.cluster_link.ClusterLink.req_commands.Goals as goal

pub returns-in_err-nodes-clause-refused : goal.returns-in_err-nodes-clause-refused
returns-in_err-nodes-clause-refused g c =
    let p = err_from_is_err_and c.from_residual.result c.from_residual.ensures.1 in
    rw (p.1, p.2) (unsent c.make_ready.ensures c.in_err-nodes.ensures.none)

pub returns-in_err-replies-clause-refused : goal.returns-in_err-replies-clause-refused
returns-in_err-replies-clause-refused g c =
    let p = err_from_is_err_and c.from_residual-in_err-replies.result c.from_residual-in_err-replies.ensures.1 in
    rw (p.1, p.2)
    (group_refused _ _ _ _ _ _ _ c.make_ready.ensures c.in_ok-nodes.ensures.found _
    (rw (← c.as_slice-nodes.ensures.value, ← c.as_slice-targets.ensures.value) c.in_err-replies.ensures.refused))

pub returns-in_err-answers-clause-refused : goal.returns-in_err-answers-clause-refused
returns-in_err-answers-clause-refused g c =
    let p = err_from_is_err_and c.from_residual-in_err-answers.result c.from_residual-in_err-answers.ensures.1 in
    rw (p.1, p.2)
    (way_refused _ _ _ _ _ _ _ c.make_ready.ensures c.in_ok-nodes.ensures.found _ c.gather.new.cluster c.in_ok-replies.replies.items
    (rw (← c.as_slice-nodes.ensures.value, ← c.as_slice-targets.ensures.value) c.in_ok-replies.ensures.gathered)
    (rw (← c.as_slice-nodes.ensures.value, ← c.as_slice-targets.ensures.value) c.in_err-answers.ensures.stopped))

pub returns-clause-spread : goal.returns-clause-spread
returns-clause-spread g c = record {
  ready = c.make_ready.new.self;
  nodes = c.in_ok-nodes.nodes.items;
  targets = c.in_ok-nodes.targets.items;
  gathered = c.gather.new.cluster;
  replies = c.in_ok-replies.replies.items;
  readies = c.make_ready.ensures;
  destinations = c.in_ok-nodes.ensures.found;
  sent = rw (← c.as_slice-nodes.ensures.value, ← c.as_slice-targets.ensures.value) c.in_ok-replies.ensures.gathered;
  followed = rw (← c.as_slice-nodes.ensures.value, ← c.as_slice-targets.ensures.value) c.in_ok-answers.ensures.followed;
}
