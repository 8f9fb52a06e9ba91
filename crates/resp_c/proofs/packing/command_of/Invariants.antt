use Rattle.std.proofs.Common.{◌≡◌, ◌+◌, ◌++◌, drop, length}
use Rattle.resp_command.specs.Command.{new_command}
use Rattle.resp_c.specs.Packing.{cuts, total}
use Rattle.resp_c.proofs.packing.command_of.Given as goal

abbrev pub invariant-loop-size : goal.invariant-loop-size
invariant-loop-size l = record {
  command : l.command ≡ record new_command { args = l.command.args };
  args : l.command.args ++ cuts (drop l.size-index l.sizes) l.rest ≡ cuts l.sizes l.args;
  left : drop (total (drop l.size-index l.sizes)) l.rest ≡ drop (total l.sizes) l.args;
  size : length l.rest + total l.sizes ≡ length l.args + total (drop l.size-index l.sizes);
}
