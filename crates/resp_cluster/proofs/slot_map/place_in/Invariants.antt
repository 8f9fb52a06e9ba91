use Rattle.std.proofs.Common.{◌≡◌, ◌+◌, drop}
use Rattle.resp_cluster.specs.Maps.{place_in}
use Rattle.resp_cluster.proofs.slot_map.place_in.Given as goal

abbrev pub invariant-loop-place : goal.invariant-loop-place
invariant-loop-place l = place_in l.slot l.ranges ≡ l.place + place_in l.slot (drop l.place l.ranges)
