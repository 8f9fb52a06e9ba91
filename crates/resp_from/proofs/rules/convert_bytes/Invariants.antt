use Rattle.std.proofs.Common.{◌≡◌, ◌≤◌, ◌+◌, ◌++◌, map, pos}
use Rattle.std.specs.List.{AllZip}
use Rattle.std.specs.Vec.{vec_len, vec_capacity}
use Rattle.std.specs.Vec.Iter.{into_iter_items, into_iter_len}
use Rattle.resp_value.specs.declared.value.Value.{Int}
use Rattle.resp_from.proofs.rules.convert_bytes.Given as goal

abbrev pub invariant-loop-byte : goal.invariant-loop-byte
invariant-loop-byte g l =
    record {
      same : l.fn.bytes.items ≡ l.yielded ++ into_iter_items l.byte-iterator;
      made : AllZip g.T.FromRedisValue.of_value (map (λ byte. Int (pos byte)) l.yielded) l.all.items;
      room : vec_len l.all + into_iter_len l.byte-iterator ≤ vec_capacity l.all;
    }
