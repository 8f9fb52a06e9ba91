use Rattle.std.proofs.Common.{◌≡◌, ◌++◌}
use Rattle.std.specs.Vec.Iter.{into_iter_items}
use Rattle.resp_from.proofs.Groups.{IsConverting}
use Rattle.resp_from.proofs.rules.convert_groups.Given as goal

abbrev pub invariant-loop-reply : goal.invariant-loop-reply
invariant-loop-reply g l =
    record {
      same : l.fn.replies.items ≡ l.yielded ++ into_iter_items l.reply-iterator;
      held : IsConverting l.width g.T.FromRedisValue.of_value l.yielded l.group l.all.items;
    }
