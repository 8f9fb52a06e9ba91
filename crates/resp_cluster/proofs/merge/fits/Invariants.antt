use Rattle.std.proofs.Common.{◌≡◌, ◌<◌, ℕ, length, map}
use Rattle.resp_cluster.specs.Gathered.{given_by, of_node}
use Rattle.resp_cluster.specs.Gathering.{from_last}
use Rattle.resp_cluster.proofs.merge.fits.Given as goal

abbrev pub invariant-loop-part : goal.invariant-loop-part
invariant-loop-part l =
    (k : ℕ) → k < l.part → length (given_by (map from_last l.groups) k) ≡ length (of_node k l.places l.places)
