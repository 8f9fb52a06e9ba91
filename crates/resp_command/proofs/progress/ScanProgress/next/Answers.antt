use Rattle.std.proofs.Common.{rules, ◌≡◌, ◌∷◌, [], ◌∙◌, sym, arith, Some}
use Rattle.std.proofs.lemmas.Grind.{common_steps}
use Rattle.std.specs.Vec.Iter.{into_iter_items}
use Rattle.resp_command.proofs.Nexts.{next_failed, next_done, next_used_up, next_fetched, next_waited}
use Rattle.resp_command.proofs.progress.ScanProgress.next.Goals as goal

pub returns-in-Some-clause-next : goal.returns-in-Some-clause-next
returns-in-Some-clause-next g c = next_waited _ _ _ _ _ _ _ _ _ _ c.in-Some.ensures.items c.as_answer.ensures

pub returns-then-self-eq0-clause-next : goal.returns-then-self-eq0-clause-next
returns-then-self-eq0-clause-next g c =
    let e : into_iter_items c.args.self.now.waiting ≡ [] = grind (arith, common_steps, c.in_default.ensures.cases.0) in
    let n : into_iter_items c.next.new.self ≡ [] = sym c.in_default.ensures.items ∙ e in
    let f : c.args.self.now.left ≡ Some c.in_ok-left.left = search rules in
    next_done _ _ _ _ _ _ _ _ _ _ _ c.fetch-fetched.ensures e f c.in-Nothing.is n c.if-self-eq0.true

pub returns-in_ok-next-in-Results-clause-next : goal.returns-in_ok-next-in-Results-clause-next
returns-in_ok-next-in-Results-clause-next g c =
    let e : into_iter_items c.args.self.now.waiting ≡ [] = grind (arith, common_steps, c.in_default.ensures.cases.0) in
    let f : c.args.self.now.left ≡ Some c.in_ok-left.left = search rules in
    let n : c.in-Results.results.items ≡ c.in_ok-next-in-Results.field-0 ∷ into_iter_items c.next-in-Results.new.self =
    search rules in
    next_fetched _ _ _ _ _ _ _ _ _ _ _ c.fetch-fetched.ensures e f c.in-Results.results c.in_ok-next-in-Results.field-0
    _ c.in-Results.is n c.as_answer-in-Results.ensures

pub returns-in-Failed-clause-next : goal.returns-in-Failed-clause-next
returns-in-Failed-clause-next g c =
    let e : into_iter_items c.args.self.now.waiting ≡ [] = grind (arith, common_steps, c.in_default.ensures.cases.0) in
    let n : into_iter_items c.next.new.self ≡ [] = sym c.in_default.ensures.items ∙ e in
    let f : c.args.self.now.left ≡ Some c.in_ok-left.left = search rules in
    rw c.in-Failed.is (next_failed _ _ _ _ _ _ _ _ _ _ _ c.fetch-fetched.ensures e f c.in-Failed.error c.in-Failed.is n)

pub returns-else-self-eq0-clause-next : goal.returns-else-self-eq0-clause-next
returns-else-self-eq0-clause-next g c =
    let e : into_iter_items c.args.self.now.waiting ≡ [] = grind (arith, common_steps, c.in_default.ensures.cases.0) in
    let n : into_iter_items c.next.new.self ≡ [] = sym c.in_default.ensures.items ∙ e in
    let f : c.args.self.now.left ≡ Some c.in_ok-left.left = search rules in
    next_used_up _ _ _ _ _ _ _ _ _ _ _ c.fetch-fetched.ensures e f _ c.in-Nothing.is n c.if-self-eq0.false
    c.budget_error.ensures
