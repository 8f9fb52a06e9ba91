use Rattle.std.proofs.Common.{◌≡◌, ◌≤◌, ◌+◌, ◌++◌}
use Rattle.std.specs.List.{AllZip}
use Rattle.std.specs.Vec.{vec_len, vec_capacity}
use Rattle.std.specs.Vec.Iter.{into_iter_items, into_iter_len}
use Rattle.resp_from.specs.Conversion.{Decides}
use Rattle.resp_from.proofs.rules.answer_each.Given as goal

abbrev pub invariant-loop-reply : goal.invariant-loop-reply
invariant-loop-reply g l =
    record {
      same : l.fn.replies.items ≡ l.yielded ++ into_iter_items l.reply-iterator;
      made : AllZip (λ reply r. Decides (g.T.FromRedisValue.of_value reply) r) l.yielded l.all.items;
      room : vec_len l.all + into_iter_len l.reply-iterator ≤ vec_capacity l.all;
    }
