use Rattle.std.proofs.Common.{rules, sym}
use Rattle.resp_from.specs.Integers.{OfInteger}
use Rattle.resp_from.proofs.Answering.{converts_alike}
use Rattle.resp_from.proofs.IntegerLines.{integer_of_number}
use Rattle.resp_from.proofs.integers.AnyFromRedisValue.from_reply.Goals as goal

pub returns-in-Some-clause-converts : goal.returns-in-Some-clause-converts
returns-in-Some-clause-converts g c = λ v shows.
    let Number = g.T.IntegerFromRedisValue.of_number in
    let Writes = g.T.IntegerFromRedisValue.of_text in
    converts_alike (OfInteger Number Writes v) (Number c.in-Some.number) c.from_number.result
    (integer_of_number Number Writes v c.in-Some.number (sym (c.in-Some.ensures.shown v shows))) (search rules)
