use Rattle.std.proofs.Common.{ap, not, sym, ◌∙◌}
use Rattle.resp_encode.proofs.AppendedTexts.{given_no, later_false}
use Rattle.resp_encode.proofs.texts.write_simple.Goals as goal

pub returns-then-eq : goal.returns-then-eq
returns-then-eq c = given_no _ _ _ (later_false _ _ (ap not (sym c.eq.ensures ∙ c.if-eq.true)))
