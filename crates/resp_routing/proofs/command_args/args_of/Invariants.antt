use Rattle.std.proofs.Common.{◌≡◌, ◌++◌, map}
use Rattle.resp_command.specs.ShownArgs.{args_left}
use Rattle.resp_routing.specs.CommandArgs.{args_with, bytes_of}
use Rattle.resp_routing.specs.Commands.{words}
use Rattle.resp_routing.proofs.command_args.args_of.Given as goal

abbrev pub invariant-loop-arg : goal.invariant-loop-arg
invariant-loop-arg l = words l.args.items ++ map (bytes_of l.cursor) (args_left l.shown) ≡ args_with l.cursor l.command
