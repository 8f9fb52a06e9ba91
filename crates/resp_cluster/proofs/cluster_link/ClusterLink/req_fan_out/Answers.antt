use Rattle.std.proofs.Common.{◌≡◌, [], true, false, refl, sym, ◌∙◌, subst}
use Rattle.std.proofs.lemmas.Result.{err_from_is_err_and}
use Rattle.resp_cluster.specs.FannedOut.{FansTo, at_node, no_memory, nowhere, uncombined, unsent}
use Rattle.resp_cluster.proofs.FanningOut.{fans_to}
use Rattle.resp_cluster.proofs.cluster_link.ClusterLink.req_fan_out.Goals as goal

pub returns-in_err-policies-clause-refused : goal.returns-in_err-policies-clause-refused
returns-in_err-policies-clause-refused g c =
    let p = err_from_is_err_and c.from_residual.result c.from_residual.ensures.1 in
    rw (p.1, p.2) (unsent c.in_err-policies.ensures.refused refl)

pub named_by-requires : goal.named_by-requires
named_by-requires g c = c.in_ok-policies.ensures.found.several

pub returns-then-is_empty-clause-refused : goal.returns-then-is_empty-clause-refused
returns-then-is_empty-clause-refused g c =
    let none : c.in_ok-nodes.nodes ≡ [] = c.is_empty.ensures.0 c.if-is_empty.true in
    let goes = fans_to g.N.Link.ConnectionLike.connection _ _ _ _ _ _ _ c.self-2.view_is c.in_ok-policies.ensures.found c.make_ready.ensures
    c.in_ok-nodes.ensures in
    nowhere _ (subst (λ n. FansTo g.N.Link.ConnectionLike.connection c.args.command.now c.in_ok-policies.policies.makes c.args.self.now
    c.make_ready.new.self n) none goes) c.no_node.ensures

pub returns-in_err-nodes-clause-refused : goal.returns-in_err-nodes-clause-refused
returns-in_err-nodes-clause-refused g c =
    let p = err_from_is_err_and c.from_residual-in_err-nodes.result c.from_residual-in_err-nodes.ensures.1 in
    rw p.1 (no_memory p.2 c.make_ready.ensures)

pub returns-in_err-replies-clause-refused : goal.returns-in_err-replies-clause-refused
returns-in_err-replies-clause-refused g c =
    let p = err_from_is_err_and c.from_residual-in_err-replies.result c.from_residual-in_err-replies.ensures.1 in
    rw (p.1, p.2) (at_node _ _ _ (fans_to _ _ _ _ _ _ _ _ c.self-2.view_is c.in_ok-policies.ensures.found c.make_ready.ensures
    c.in_ok-nodes.ensures) (rw (← c.as_slice.ensures) c.in_err-replies.ensures.refused))

pub returns-in_err-answer-clause-refused : goal.returns-in_err-answer-clause-refused
returns-in_err-answer-clause-refused g c =
    let p = err_from_is_err_and c.from_residual-in_err-answer.result c.from_residual-in_err-answer.ensures.1 in
    rw (p.1, p.2) (uncombined _ _ _ c.in_ok-replies.replies.items (fans_to _ _ _ _ _ _ _ _ c.self-2.view_is c.in_ok-policies.ensures.found
    c.make_ready.ensures c.in_ok-nodes.ensures) (rw (← c.as_slice.ensures) c.in_ok-replies.ensures.sent)
    (rw (← c.as_slice-2.ensures) c.in_err-answer.ensures.refused))

pub returns-clause-answered : goal.returns-clause-answered
returns-clause-answered g c = record {
  makes = c.in_ok-policies.policies.makes;
  ready = c.make_ready.new.self;
  nodes = c.in_ok-nodes.nodes;
  replies = c.in_ok-replies.replies.items;
  some = λ none. let e : true ≡ false = sym (c.is_empty.ensures.1 none) ∙ c.if-is_empty.false in cc;
  goes = fans_to _ _ _ _ _ _ _ _ c.self-2.view_is c.in_ok-policies.ensures.found c.make_ready.ensures c.in_ok-nodes.ensures;
  sent = rw (← c.as_slice.ensures) c.in_ok-replies.ensures.sent;
  combined = rw (← c.as_slice-2.ensures) c.in_ok-answer.ensures.combined;
}
