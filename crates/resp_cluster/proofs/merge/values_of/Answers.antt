use Rattle.std.proofs.Common.{map}
use Rattle.std.proofs.lemmas.List.{length-map}
use Rattle.resp_cluster.specs.Gathering.{from_last}
use Rattle.resp_cluster.proofs.Merging.{no_values}
use Rattle.resp_cluster.proofs.merge.values_of.Goals as goal

pub returns-then-not-fits-clause-refused : goal.returns-then-not-fits-clause-refused
returns-then-not-fits-clause-refused c = λ differ. record {
  none = no_values (map from_last c.in_ok-groups.groups.items) c.args.places.now c.args.replies.items c.in_ok-groups.ensures.arrays
      (λ known enough. c.fits.ensures.not c.if-not-fits.true
      (rw (c.as_slice.ensures.value, ← length-map c.in_ok-groups.groups.items from_last) known)
      (rw c.as_slice.ensures.value enough));
  says = c.unexpected.ensures;
}
