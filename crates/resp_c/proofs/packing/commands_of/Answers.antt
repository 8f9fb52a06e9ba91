use Rattle.std.proofs.Common.{rules, ◌≡◌, ◌<◌, ◌≤◌, ◌∷◌, ◌++◌, [], length, get_or, arith, append_assoc}
use Rattle.resp_pipeline.specs.Pipeline.{args_of_commands}
use Rattle.resp_c.specs.Packing.{cuts, FitBoth}
use Rattle.resp_c.proofs.Cutting.{command_next, total-drop, total-parts, exit_refuses, command_added}
use Rattle.resp_c.proofs.packing.commands_of.Goals as goal

pub returns-in_err-command-clause-refused : goal.returns-in_err-command-clause-refused
returns-in_err-command-clause-refused c =
    let parts = total-parts _ _ _ _ c.split_at.ensures.front c.split_at.ensures.back in
    exit_refuses c.from_residual.result c.in_err-command.field-0.0 c.from_residual.ensures
    (λ (fit : FitBoth c.args.counts.now c.args.sizes.now c.args.args.now). let a = fit.args_fit in omega
    (arith, parts, a, c.loop-count.invariant.args))
    c.in_err-command.ensures.refused

pub loop-count-preserved : goal.loop-count-preserved
loop-count-preserved c =
    let i = c.loop-count.count-index in let counts = c.args.counts.now in
    let inside : i < length counts = search rules in
    let next = command_next counts i c.loop-count.sizes_left.now c.loop-count.args_left.now c.split_at.result.0.now
    c.split_at.result.1.now c.in_ok-command.rest.now inside c.split_at.ensures.front c.split_at.ensures.back
    c.in_ok-command.ensures.rest in
    let added : args_of_commands c.push_command.new.self.commands ≡ args_of_commands c.loop-count.pipeline.commands
    ++ (cuts c.split_at.result.0.now c.loop-count.args_left.now ∷ []) = command_added c.push_command.result _ _ _ _
    (search rules) c.push_command.ensures.added c.in_ok-command.ensures.command in
    let t = total-drop counts i inside in
    let parts = total-parts _ _ _ _ c.split_at.ensures.front c.split_at.ensures.back in
    let within : get_or counts i 0 ≤ length c.loop-count.sizes_left.now = search rules in
    record {
      commands = grind (arith, append_assoc, added, next, c.loop-count.invariant.commands);
      atomic = search rules;
      args = omega (arith, parts, c.loop-count.invariant.args, c.in_ok-command.ensures.size);
      sizes = omega (arith, t, c.loop-count.invariant.sizes, c.split_at.ensures.back_len, within);
    }
