use Rattle.resp_laws.proofs.OwnedAndBorrowed.{agreeing_by}
use Rattle.resp_laws.proofs.HashedAlike.{same_hashed_sets}
use Rattle.resp_laws.proofs.conversions.law_of_hashed_sets.Goals as goal

pub returns : goal.returns
returns g c = record {
  equal = λ reply owned borrowed. agreeing_by _ _
      (λ s t. same_hashed_sets _ _ _ g.met.T.PartialOrd.laws g.met.T.Ord.matches_partial_cmp _ _
      g.met.T.SingleKey.goes_by_seen g.met.T.SingleValued.single reply s.keys t.keys) owned borrowed;
}
