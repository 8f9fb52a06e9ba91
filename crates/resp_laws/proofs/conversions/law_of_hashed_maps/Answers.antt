use Rattle.resp_laws.proofs.OwnedAndBorrowed.{agreeing_by}
use Rattle.resp_laws.proofs.HashedAlike.{same_hashed_maps}
use Rattle.resp_laws.proofs.conversions.law_of_hashed_maps.Goals as goal

pub returns : goal.returns
returns g c = record {
  equal = λ reply owned borrowed. agreeing_by _ _
      (λ m n. same_hashed_maps _ _ _ g.met.K.PartialOrd.laws g.met.K.Ord.matches_partial_cmp _ _
      g.met.K.SingleKey.goes_by_seen g.met.K.SingleValued.single _ _ g.met.V.SingleValued.single reply m.entries
      n.entries) owned borrowed;
}
