use Rattle.std.proofs.Common.{◌≡◌, Some}
use Rattle.std.specs.Fmt.{◌++?◌}
use Rattle.std.specs.Vec.Iter.{into_iter_items}
use Rattle.example_snippets.specs.Relayed.{sent_for_each}
use Rattle.example_snippets.proofs.proxy.pushes.bytes_of.Given as goal

abbrev pub invariant-loop-push : goal.invariant-loop-push
invariant-loop-push l = (Some l.bytes.items ++? sent_for_each (into_iter_items l.push-iterator))
    ≡ sent_for_each l.fn.pushes.items
