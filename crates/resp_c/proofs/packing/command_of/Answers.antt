use Rattle.std.proofs.Common.{rules, ◌≡◌, ◌<◌, ◌≤◌, ◌∷◌, ◌++◌, [], length, get_or, sym, ◌∙◌, arith, append_assoc}
use Rattle.resp_c.proofs.Cutting.{cut_next, total-drop}
use Rattle.resp_c.proofs.packing.command_of.Goals as goal

pub loop-size-preserved : goal.loop-size-preserved
loop-size-preserved c =
    let i = c.loop-size.size-index in let ns = c.args.sizes.now in
    let inside : i < length ns = search rules in
    let next = cut_next ns i c.loop-size.rest.now c.split_at.result.1.now inside c.split_at.ensures.back in
    let added : c.write_arg.new.self.args ≡ c.loop-size.command.args ++ c.split_at.result.0.now ∷ [] = search rules in
    let within : get_or ns i 0 ≤ length c.loop-size.rest.now = search rules in
    record {
      command = search rules;
      args = grind (arith, append_assoc, added, c.split_at.ensures.front, next.0, c.loop-size.invariant.args);
      left = sym next.1 ∙ c.loop-size.invariant.left;
      size = let t = total-drop ns i inside in
          omega (arith, t, c.loop-size.invariant.size, c.split_at.ensures.back_len, within);
    }
