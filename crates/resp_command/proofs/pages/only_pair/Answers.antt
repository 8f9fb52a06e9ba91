use Rattle.std.proofs.Common.{arith}
use Rattle.std.proofs.lemmas.Grind.{common_steps}
use Rattle.resp_command.proofs.PageReading.{in_turn_other}
use Rattle.resp_command.proofs.pages.only_pair.Goals as goal

pub returns-then-len-ne1 : goal.returns-then-len-ne1
returns-then-len-ne1 c = record {
  finds = (
    c.wrong_dimension.ensures,
    in_turn_other _ (λ e. absurd (grind (arith, common_steps, e))),
  );
}
