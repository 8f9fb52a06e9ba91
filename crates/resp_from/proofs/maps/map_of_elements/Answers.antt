use Rattle.std.specs.Vec.Iter.{into_iter_items}
use Rattle.resp_from.proofs.Conversions.{RefusesIf-along}
use Rattle.resp_from.proofs.KeysAndValues.{even_next, entry_next, key_refused, value_refused}
use Rattle.resp_from.proofs.maps.map_of_elements.Goals as goal

pub returns-in-Err : goal.returns-in-Err
returns-in-Err g c = record {
  converts = RefusesIf-along c.in-Err.error (λ none map. none (g.M.FillMap.entries map))
      (key_refused g.M.FillMap.keying g.K.FromRedisValue.of_value g.V.FromRedisValue.of_value c.in-Some.key
      (into_iter_items c.loop-key.rest) (g.M.FillMap.entries c.loop-key.map) _ (into_iter_items c.next.new.self)
      c.in-Err.error c.in-Some.ensures.items c.loop-key.invariant.even c.loop-key.invariant.at
      c.in-Err.ensures.converts);
}

pub returns-in-Err-from_redis_value : goal.returns-in-Err-from_redis_value
returns-in-Err-from_redis_value g c =
    let e = c.in-Err-from_redis_value.error in
    record {
      converts = RefusesIf-along e (λ none map. none (g.M.FillMap.entries map))
          (value_refused g.M.FillMap.keying g.K.FromRedisValue.of_value g.V.FromRedisValue.of_value c.in-Some.key
          (into_iter_items c.loop-key.rest) (g.M.FillMap.entries c.loop-key.map) _ c.in-Some-next.value
          (into_iter_items c.next.new.self) (into_iter_items c.next-in-Some.new.self) e c.in-Some.ensures.items
          c.in-Some-next.ensures.items c.loop-key.invariant.at c.in-Err-from_redis_value.ensures.converts);
    }

pub loop-key-preserved : goal.loop-key-preserved
loop-key-preserved g c =
    let before = into_iter_items c.loop-key.rest in
    let middle = into_iter_items c.next.new.self in
    let rest = into_iter_items c.next-in-Some.new.self in
    record {
      even = even_next c.in-Some.key c.in-Some-next.value before middle rest c.in-Some.ensures.items
          c.in-Some-next.ensures.items c.loop-key.invariant.even;
      at = entry_next g.M.FillMap.keying g.K.FromRedisValue.of_value g.V.FromRedisValue.of_value c.in-Some.key before
          (g.M.FillMap.entries c.loop-key.map) _ c.in-Some-next.value middle rest (g.M.FillMap.entries c.put.new.self)
          c.in-Ok.key c.in-Ok-from_redis_value.value c.in-Some.ensures.items c.in-Some-next.ensures.items
          c.loop-key.invariant.at c.in-Ok.ensures.converts c.in-Ok-from_redis_value.ensures.converts
          c.in_ok-put.ensures.merged;
    }
