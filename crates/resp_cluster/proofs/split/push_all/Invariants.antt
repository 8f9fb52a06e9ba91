use Rattle.std.proofs.Common.{◌≡◌, ◌++◌, take}
use Rattle.resp_routing.specs.Commands.{words}
use Rattle.resp_cluster.proofs.split.push_all.Given as goal

abbrev pub invariant-loop-arg : goal.invariant-loop-arg
invariant-loop-arg l =
    l.command ≡ record l.initial.command { args = l.initial.command.args ++ words (take l.arg-index l.args) }
