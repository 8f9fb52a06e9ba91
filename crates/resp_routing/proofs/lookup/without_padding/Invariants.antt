use Rattle.std.proofs.Common.{◌≡◌, ◌++◌, take, drop}
use Rattle.resp_routing.specs.Commands.{unpadded}
use Rattle.resp_routing.proofs.lookup.without_padding.Given as goal

abbrev pub invariant-loop-length : goal.invariant-loop-length
invariant-loop-length l = unpadded l.name ≡ take l.length l.name ++ unpadded (drop l.length l.name)
