use Rattle.std.proofs.Common.{◌≡◌, drop}
use Rattle.resp_pipeline.specs.Outcome.{errors_from, errors_of}
use Rattle.resp_pipeline.proofs.composing.has_server_error.Given as goal

abbrev pub invariant-loop-item : goal.invariant-loop-item
invariant-loop-item l = errors_from l.item-index (drop l.item-index l.items) ≡ errors_of l.items
