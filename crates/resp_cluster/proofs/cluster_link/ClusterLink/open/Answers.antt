use Rattle.std.proofs.Common.{refl}
use Rattle.std.proofs.lemmas.Result.{err_from_is_err_and}
use Rattle.resp_cluster.proofs.cluster_link.ClusterLink.open.Goals as goal

pub returns-clause-opened : goal.returns-clause-opened
returns-clause-opened g c = record {
  asks = rw (c.new-links.ensures, c.in_ok-map.was) at c.ask_in_turn.ensures;
  budget_is = refl;
  reads_are = refl;
  fresh = refl;
}

pub returns-in_err-map-clause-refused : goal.returns-in_err-map-clause-refused
returns-in_err-map-clause-refused g c =
    let p = err_from_is_err_and c.from_residual.result c.from_residual.ensures.1 in
    rw (p.1, p.2) (record {
      links = c.ask_in_turn.new.self;
      asks = rw (c.new-links.ensures, c.in_err-map.was) at c.ask_in_turn.ensures;
    })
