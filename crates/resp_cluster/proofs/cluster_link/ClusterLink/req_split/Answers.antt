use Rattle.std.proofs.Common.{◌≡◌, refl, subst}
use Rattle.std.proofs.lemmas.Result.{err_from_is_err_and}
use Rattle.resp_routing.specs.Commands.{words}
use Rattle.resp_cluster.specs.Cluster.{routed_args}
use Rattle.resp_cluster.specs.Spread.{IsPartsOf, at_parts, unmerged, unsplit}
use Rattle.resp_cluster.proofs.Parting.{unsplit_then}
use Rattle.resp_cluster.proofs.cluster_link.ClusterLink.req_split.Goals as goal

pub returns-in-Err-clause-refused : goal.returns-in-Err-clause-refused
returns-in-Err-clause-refused g c =
    let shown : words c.as_slice.result.now ≡ routed_args c.args.command.now = rw c.as_slice.ensures.value c.in_ok-args.ensures.shown in
    unsplit (λ differ. unsplit_then c.args.command.now (words c.as_slice.result.now) shown _ c.in-Err.refusal c.in-Err.ensures.none
    c.in_ok-to_redis_error-in-Err.ensures.given differ) refl

pub returns-in_err-replies-clause-refused : goal.returns-in_err-replies-clause-refused
returns-in_err-replies-clause-refused g c =
    let p = err_from_is_err_and c.from_residual-in_err-replies.result c.from_residual-in_err-replies.ensures.1 in
    let shown : words c.as_slice.result.now ≡ routed_args c.args.command.now = rw c.as_slice.ensures.value c.in_ok-args.ensures.shown in
    let found = c.in-Ok.found in
    rw (p.1, p.2) (at_parts found.0 found.1.commands.items found.1.places.items
    (subst (λ a. IsPartsOf a found.0 found.1.commands.items found.1.places.items) shown c.in-Ok.ensures.found)
    (rw (← c.as_slice-2.ensures.value) c.in_err-replies.ensures.refused))

pub returns-in_err-answer-clause-refused : goal.returns-in_err-answer-clause-refused
returns-in_err-answer-clause-refused g c =
    let p = err_from_is_err_and c.from_residual-in_err-answer.result c.from_residual-in_err-answer.ensures.1 in
    let shown : words c.as_slice.result.now ≡ routed_args c.args.command.now = rw c.as_slice.ensures.value c.in_ok-args.ensures.shown in
    let found = c.in-Ok.found in
    rw (p.1, p.2) (unmerged found.0 found.1.commands.items found.1.places.items c.in_ok-replies.replies.items
    (subst (λ a. IsPartsOf a found.0 found.1.commands.items found.1.places.items) shown c.in-Ok.ensures.found)
    (rw (← c.as_slice-2.ensures.value) c.in_ok-replies.ensures.spread)
    (rw (← c.as_slice-3.ensures.value) c.in_err-answer.ensures.refused))
