use Rattle.std.proofs.Common.{◌≡◌, drop}
use Rattle.resp_routing.specs.Places.{hash_on}
use Rattle.resp_routing.proofs.places.hash_on.Given as goal

abbrev pub invariant-loop-byte : goal.invariant-loop-byte
invariant-loop-byte l = hash_on l.hash (drop l.byte-index l.text) ≡ hash_on l.before l.text
