use Rattle.std.proofs.Common.{◌≡◌, ◌++◌}
use Rattle.std.specs.Vec.Iter.{into_iter_items}
use Rattle.resp_from.proofs.Groups.{IsCutting}
use Rattle.resp_from.proofs.rules.groups_of.Given as goal

abbrev pub invariant-loop-reply : goal.invariant-loop-reply
invariant-loop-reply l =
    record {
      same : l.fn.replies.items ≡ l.yielded ++ into_iter_items l.reply-iterator;
      cut : IsCutting l.width l.yielded l.groups.items l.group;
    }
