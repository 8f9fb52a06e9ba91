use Rattle.std.proofs.Common.{arith, sym, ap, ◌∙◌, ◌∷◌, [], ◌++◌, append_assoc, map, pos, rules}
use Rattle.std.proofs.lemmas.List.{map-append}
use Rattle.std.specs.Vec.Iter.{into_iter_items}
use Rattle.resp_value.specs.declared.value.Value.{Int}
use Rattle.resp_from.specs.Conversion.{RefusesIf}
use Rattle.resp_from.proofs.Conversions.{RefusesIf-along, ConvertsList-err, AllZip-none, AllZip-more}
use Rattle.resp_from.proofs.rules.convert_bytes.Goals as goal

pub returns-in_err-from_redis_value : goal.returns-in_err-from_redis_value
returns-in_err-from_redis_value g c =
    let bytes = c.loop-byte.yielded in
    let rest = into_iter_items c.next.new.self in
    let same = c.loop-byte.invariant.same ∙ ap (λ vs. bytes ++ vs) c.in-Some.ensures.steps.0 in
    let refused : RefusesIf c.in_err-from_redis_value.field-0.0
    ((x : _) → g.T.FromRedisValue.of_value (Int (pos c.in-Some.byte)) x → ⊥) = search rules in
    record {
      converts = ConvertsList-err _ _ _ c.from_residual-in_err-from_redis_value.ensures
          (RefusesIf-along _ (AllZip-none _ (map (λ byte. Int (pos byte)) c.args.bytes.items)
          (map (λ byte. Int (pos byte)) bytes) (Int (pos c.in-Some.byte)) (map (λ byte. Int (pos byte)) rest)
          (ap (map (λ byte. Int (pos byte))) same ∙ map-append (λ byte. Int (pos byte)) bytes (c.in-Some.byte ∷ rest)))
          refused);
    }

pub loop-byte-preserved : goal.loop-byte-preserved
loop-byte-preserved g c =
    let bytes = c.loop-byte.yielded in
    let fits : g.T.FromRedisValue.of_value (Int (pos c.in-Some.byte)) c.in_ok-from_redis_value.field-0 = search rules in
    record {
      same = c.loop-byte.invariant.same ∙ (ap (λ vs. bytes ++ vs) c.in-Some.ensures.steps.0
          ∙ sym (append_assoc bytes (c.in-Some.byte ∷ []) (into_iter_items c.next.new.self)));
      made = rw (map-append (λ byte. Int (pos byte)) bytes (c.in-Some.byte ∷ []), c.push_reserved.ensures.items)
          (AllZip-more _ _ _ _ _ c.loop-byte.invariant.made fits);
      room = omega (
        arith,
        c.loop-byte.invariant.room,
        c.push_reserved.ensures.len,
        c.push_reserved.ensures.capacity,
        c.in-Some.ensures.steps.1,
      );
    }
