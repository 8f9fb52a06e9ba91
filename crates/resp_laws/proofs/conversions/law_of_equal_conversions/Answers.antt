use Rattle.resp_laws.proofs.OwnedAndBorrowed.{agreeing_by}
use Rattle.resp_laws.proofs.conversions.law_of_equal_conversions.Goals as goal

pub returns : goal.returns
returns g c = record {
  equal = λ reply owned borrowed. agreeing_by _ _ (λ x y h k. g.met.T.SingleValued.single reply x y h k) owned borrowed;
}
