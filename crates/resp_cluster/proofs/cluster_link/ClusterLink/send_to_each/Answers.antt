use Rattle.std.proofs.Common.{[], length, refl, sym, ◌∙◌}
use Rattle.std.proofs.lemmas.Result.{err_from_is_err_and}
use Rattle.std.proofs.lemmas.List.{length-replicate}
use Rattle.std.proofs.lemmas.List.FromFn.{length-range_with_len}
use Rattle.resp_cluster.specs.Gathered.{no_memory}
use Rattle.resp_cluster.proofs.FanningOut.{places_known}
use Rattle.resp_cluster.proofs.cluster_link.ClusterLink.send_to_each.Goals as goal

pub gather-requires-clause-known : goal.gather-requires-clause-known
gather-requires-clause-known g c = rw (c.as_slice-2.ensures.value, c.in_ok-places.ensures) (places_known (length c.args.nodes.now))

pub gather-requires-clause-each : goal.gather-requires-clause-each
gather-requires-clause-each g c =
    rw (c.as_slice-2.ensures.value, c.in_ok-places.ensures, c.as_slice.ensures.value, c.in_ok-commands.ensures)
    (length-range_with_len 0 (length c.args.nodes.now) ∙ sym (length-replicate (length c.args.nodes.now) c.args.command.now))

pub returns-in_err-commands-clause-refused : goal.returns-in_err-commands-clause-refused
returns-in_err-commands-clause-refused g c =
    let p = err_from_is_err_and c.from_residual.result c.from_residual.ensures.1 in rw p.1 (no_memory [] refl p.2)

pub returns-in_err-places-clause-refused : goal.returns-in_err-places-clause-refused
returns-in_err-places-clause-refused g c =
    let p = err_from_is_err_and c.from_residual-in_err-places.result c.from_residual-in_err-places.ensures.1 in
    rw p.1 (no_memory [] refl p.2)
