use Rattle.std.proofs.Common.{take}
use Rattle.resp_routing.specs.Commands.{words}
use Rattle.resp_routing.specs.Routes.{IsCommon, args_at}
use Rattle.resp_routing.proofs.routes.common_slot.Given as goal

abbrev pub invariant-loop-position : goal.invariant-loop-position
invariant-loop-position l = IsCommon (args_at (words l.args) (take l.position-index l.positions)) l.common
