use Rattle.std.proofs.Common.{arith}
use Rattle.resp_from.proofs.Sizes.{one_size}
use Rattle.resp_from.proofs.arrays.ArrayFromRedisValue.from_reply.Goals as goal

pub returns-in-Array-clause-converts : goal.returns-in-Array-clause-converts
returns-in-Array-clause-converts g c = λ v shows.
    let size = one_size g.T.FromRedisValue.WIDTH g.T.FromRedisValue.BYTES g.T.FromRedisValue.of_value v in
    let made = c.in_ok-list_of_reply-in-Array.field-0 in
    rw c.from.ensures (λ items array. c.in-Err.ensures.1
    (omega (
      arith,
      made.ok.0,
      size made.items items (c.in_ok-list_of_reply-in-Array.ensures.converts v shows)
          array.listed,
      array.sized,
    )))
