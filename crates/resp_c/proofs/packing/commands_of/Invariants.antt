use Rattle.std.proofs.Common.{◌≡◌, ◌+◌, ◌++◌, false, drop, length}
use Rattle.resp_pipeline.specs.Pipeline.{args_of_commands}
use Rattle.resp_c.specs.Packing.{cuts, total}
use Rattle.resp_c.proofs.packing.commands_of.Given as goal

abbrev pub invariant-loop-count : goal.invariant-loop-count
invariant-loop-count l = record {
  commands : args_of_commands l.pipeline.commands ++ cuts (drop l.count-index l.counts) (cuts l.sizes_left l.args_left)
      ≡ cuts l.counts (cuts l.sizes l.args);
  atomic : l.pipeline.atomic ≡ false;
  args : length l.args_left + total l.sizes ≡ length l.args + total l.sizes_left;
  sizes : length l.sizes_left + total l.counts ≡ length l.sizes + total (drop l.count-index l.counts);
}
