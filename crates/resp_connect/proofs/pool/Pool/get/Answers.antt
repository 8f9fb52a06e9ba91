use Rattle.std.proofs.Common.{arith, rules, refl, ◌≡◌, length}
use Rattle.std.proofs.lemmas.Result.{err_from_is_err_and}
use Rattle.resp_connect.specs.Pools.{reused, dialled, refused}
use Rattle.resp_connect.proofs.Working.{before_last, last_has, last_works, none_waited}
use Rattle.resp_connect.proofs.pool.Pool.get.Goals as goal

pub invariant_of-self : goal.invariant_of-self
invariant_of-self g c = record {
  work = before_last g.D.Link.ConnectionLike.connection _ c.in-Some.link
      (rw c.in-Some.ensures.items at c.self.invariant.work);
  within = (let was = c.self.invariant.within in let popped = c.in-Some.ensures.len in omega (arith, was, popped));
}

pub returns-in-Some-clause-works : goal.returns-in-Some-clause-works
returns-in-Some-clause-works g c = last_works g.D.Link.ConnectionLike.connection _ c.in-Some.link
    (rw c.in-Some.ensures.items at c.self.invariant.work)

pub returns-in-Some-clause-gets : goal.returns-in-Some-clause-gets
returns-in-Some-clause-gets g c = rw (← c.self.view_is) (reused c.in-Some.link c.in-Some.ensures.items refl refl)

pub returns-in_err-link-clause-gets : goal.returns-in_err-link-clause-gets
returns-in_err-link-clause-gets g c =
    let p = err_from_is_err_and c.from_residual.result c.from_residual.ensures.1 in
    let empty : length c.self.inside.idle.items ≡ 0 = search rules in
    let none = none_waited _ _ c.in_default.ensures.items empty in
    let within = c.self.invariant.within in
    let others = c.if-self.false in
    rw (← c.self.view_is, p.1) (refused _ none.0 (omega (arith, within, others)) (rw none.1 refl) refl)

pub returns-clause-gets : goal.returns-clause-gets
returns-clause-gets g c =
    let empty : length c.self.inside.idle.items ≡ 0 = search rules in
    let none = none_waited _ _ c.in_default.ensures.items empty in
    let within = c.self.invariant.within in
    let others = c.if-self.false in
    rw (← c.self.view_is) (dialled c.in_ok-link.link (search rules) none.0 (omega (arith, within, others)) (rw none.1 refl) refl)

pub returns-in-Some-clause-greeted : goal.returns-in-Some-clause-greeted
returns-in-Some-clause-greeted g c = rw (← c.self.view_is) (λ all. last_has g.D.Dial.greeted _ c.in-Some.link
    (rw c.in-Some.ensures.items at all))
