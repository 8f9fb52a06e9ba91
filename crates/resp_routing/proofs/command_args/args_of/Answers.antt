use Rattle.std.proofs.Common.{rules, ◌≡◌, ℕ, ◌+◌, List, [], ◌∷◌, map, refl, ap, ◌∙◌}
use Rattle.resp_args.specs.Args.{Args}
use Rattle.resp_command.specs.ShownArgs.{shown_from}
use Rattle.resp_routing.specs.CommandArgs.{args_with, bytes_of}
use Rattle.resp_routing.specs.Commands.{words}
use Rattle.resp_routing.proofs.command_args.args_of.Goals as goal

no_cursors : (cursor : List ℕ) (place : ℕ) (args : Args) → map (bytes_of cursor) (shown_from place args []) ≡ args
no_cursors cursor place [] = refl
no_cursors cursor place (arg ∷ args) = ap (λ more. arg ∷ more) (no_cursors cursor (place + 1) args)

plain : (cursor : List ℕ) (args all : Args) (cursors : List ℕ) → all ≡ map (bytes_of cursor) (shown_from 0 args cursors)
    → cursors ≡ [] → all ≡ args
plain cursor args all cursors same none = same ∙ rw none (no_cursors cursor 0 args)

pub returns-clause-plain : goal.returns-clause-plain
returns-clause-plain c =
    let shown : words c.loop-arg.args.items ≡ args_with c.args.cursor.now c.args.command.now = search rules in
    plain c.args.cursor.now c.args.command.now.args _ c.args.command.now.cursors shown
