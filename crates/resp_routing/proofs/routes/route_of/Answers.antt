use Rattle.std.proofs.Common.{inr}
use Rattle.std.proofs.lemmas.Result.{err_from_is_err_and}
use Rattle.resp_routing.specs.Routes.{AreApart}
use Rattle.resp_routing.proofs.OneSlot.{hashed_is}
use Rattle.resp_routing.proofs.routes.route_of.Goals as goal

pub returns-in_err-slot-clause-refused : goal.returns-in_err-slot-clause-refused
returns-in_err-slot-clause-refused c =
    let p = err_from_is_err_and c.from_residual-in_err-slot.result c.from_residual-in_err-slot.ensures.1 in
    rw (p.1, p.2) (λ other. inr (
      c.in_err-slot.ensures.apart.0,
      hashed_is AreApart c.args.args.now c.in-Some.command.now _ _ _
          c.in-Some.ensures c.if-not-fits.ensures c.new-positions.ensures.items c.in_ok-push_hashed.ensures c.as_slice.ensures.value
          c.in_err-slot.ensures.apart.1,
    ))
