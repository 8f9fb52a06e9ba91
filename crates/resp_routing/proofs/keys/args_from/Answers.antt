use Rattle.std.proofs.Common.{ap, sym, ◌∙◌}
use Rattle.std.proofs.lemmas.List.{take_rest, drop-map}
use Rattle.resp_routing.specs.Commands.{words}
use Rattle.resp_routing.proofs.keys.args_from.Goals as goal

pub returns-then-first-args : goal.returns-then-first-args
returns-then-first-args c =
    ap words (take_rest c.args.args.now c.args.first) ∙ sym (drop-map (λ arg. arg.now) c.args.first c.args.args.now)
