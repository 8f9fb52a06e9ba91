use Rattle.std.proofs.Common.{◌≡◌, [], refl, subst, sym, rules}
use Rattle.std.proofs.lemmas.List.{append-nil, nil_from_length}
use Rattle.std.specs.Vec.Iter.{into_iter_items}
use Rattle.example_server.specs.Sessions.{Runs}
use Rattle.example_server.proofs.session.run.Goals as goal

pub returns : goal.returns
returns c =
    let last = c.loop-command.state in
    let none : into_iter_items c.loop-command.command-iterator ≡ [] =
    nil_from_length _ (search (rules, c.in-None.ensures.steps.0)) in
    let ends : Runs last last (into_iter_items c.loop-command.command-iterator) [] =
    subst (λ cs. Runs last last cs []) (sym none) (refl, refl) in
    subst (Runs c.args.state.now last c.args.commands.items)
    (append-nil c.loop-command.replies) (c.loop-command.invariant.2 last [] ends)
