use Rattle.std.proofs.Common.{rules, refl}
use Rattle.std.proofs.lemmas.Result.{err_from_is_err_and}
use Rattle.resp_cluster.specs.Links.{after_asking, not_asked}
use Rattle.resp_cluster.proofs.links.send_over.Goals as goal

pub returns-in_err-tell : goal.returns-in_err-tell
returns-in_err-tell g c =
    let p = err_from_is_err_and c.from_residual.result c.from_residual.ensures.1 in
    rw (p.1, p.2) (not_asked _ (search rules) (rw c.in_err-tell.was at c.tell.ensures) refl)

pub returns : goal.returns
returns g c = after_asking (g.L.ConnectionLike.connection c.tell.new.link) (search rules)
    (rw c.in_ok-tell.was at c.tell.ensures) c.req_command-2.ensures
