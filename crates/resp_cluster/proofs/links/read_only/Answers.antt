use Rattle.resp_cluster.proofs.Told.{still_works}
use Rattle.resp_cluster.proofs.links.read_only.Goals as goal

pub returns-clause-works : goal.returns-clause-works
returns-clause-works g c = λ works.
    still_works _ (λ none. absurd (let e = none in cc)) _ _ works (g.met.L.Unrouted.unrouted c.args.link.now) _ c.tell.ensures
