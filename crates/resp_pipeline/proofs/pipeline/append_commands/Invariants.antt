use Rattle.std.proofs.Common.{◌≡◌, ◌++◌, take}
use Rattle.std.specs.List.{flat_map}
use Rattle.resp_command.specs.Packed.{packed}
use Rattle.resp_pipeline.specs.Pipeline.{args_of_commands}
use Rattle.resp_pipeline.proofs.pipeline.append_commands.Given as goal

abbrev pub invariant-loop-command : goal.invariant-loop-command
invariant-loop-command l =
    l.out.items ≡ l.fn.out.items ++ flat_map packed (args_of_commands (take l.command-index l.commands))
