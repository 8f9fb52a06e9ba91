use Rattle.std.proofs.Common.{rules, arith, ap, ◌∙◌, ◌≡◌, ◌+◌, ◌-◌, ℕ, suc, pos, List, Option, Some}
use Rattle.std.specs.Ordering.{int_eq}
use Rattle.resp_value.specs.declared.value.Value.{Int, Boolean}
use Rattle.resp_args.specs.declared.options.ProtocolVersion.TheVariants.{RESP3}
use Rattle.resp_flat.specs.Reading.{made_of, next_value}
use Rattle.resp_encode.specs.Appending.{AppendsText}
use Rattle.resp_encode.specs.FlatEncoding.{both, counted_in, spelled, spelled_in, values_in}
use Rattle.resp_encode.proofs.FlatParts.{array_read, attribute_read, leaf_read, map_read, push_read, set_read}
use Rattle.resp_encode.proofs.FlatParts.{no_leaf, no_levels, no_name, no_token, other_token, token_read}
use Rattle.resp_encode.proofs.FlatWriting.{pairs_twice, refused_exit, reads_as, reads_exit, reads_refused, reads_then}
use Rattle.resp_encode.proofs.FlatWriting.{text_exit, text_read, text_then, value_exit, value_then, values_none}
use Rattle.resp_encode.proofs.flat.FlatText.+write_flat.Goals as goal

pub write_array-returns-in_err-write_count : goal.write_array-returns-in_err-write_count
write_array-returns-in_err-write_count t g c = text_exit c.from_residual.result c.in_err-write_count.field-0.0 _ _
    _ _ _ _ _ _
    c.from_residual.ensures.1 c.in_err-write_count.ensures

pub write_array-returns : goal.write_array-returns
write_array-returns t g c = text_then c.write_values.result _ _ _ _ _ _ _ _ _ c.in_ok-write_count.ensures
    c.write_values.ensures

pub write_map-returns-in_err-write_map_count : goal.write_map-returns-in_err-write_map_count
write_map-returns-in_err-write_map_count t g c = text_exit c.from_residual.result
    c.in_err-write_map_count.field-0.0 _ _ _ _ _ _ _ _
    c.from_residual.ensures.1 c.in_err-write_map_count.ensures

pub write_map-returns : goal.write_map-returns
write_map-returns t g c = text_then c.write_pairs.result _ _ _ _ _ _ _ _ _ c.in_ok-write_map_count.ensures
    c.write_pairs.ensures

pub write_attribute-returns-in_err-write_attributes : goal.write_attribute-returns-in_err-write_attributes
write_attribute-returns-in_err-write_attributes t g c = reads_exit c.from_residual.result
    c.in_err-write_attributes.field-0.0 _ _ _ _ _ _ _ _
    c.from_residual.ensures.1 c.in_err-write_attributes.ensures

pub write_attribute-returns : goal.write_attribute-returns
write_attribute-returns t g c = reads_then c.write_next.result _ _ _ _ _ _ _ _ _ c.in_ok-write_attributes.ensures
    c.write_next.ensures

pub write_values-returns : goal.write_values-returns
write_values-returns t g c =
    let none : c.args.count - c.loop.counter ≡ 0 = omega arith in
    c.loop.invariant _ c.loop.out.items _ _
    (values_none (spelled_in c.args.self.now.sent c.args.levels) (next_value c.args.self.now.text.now c.args.levels)
    (c.args.count - c.loop.counter) _ _ _ none)

pub write_values-loop-preserved : goal.write_values-loop-preserved
write_values-loop-preserved t g c = λ r new ts at h.
    let more : c.args.count - c.loop.counter ≡ suc (c.args.count - (c.loop.counter + 1)) = omega arith in
    c.loop.invariant r new ts at
    (value_then (spelled_in c.args.self.now.sent c.args.levels) (next_value c.args.self.now.text.now c.args.levels) r
    _ _ _ _ _ _ _ _ _ _ _ more c.in_ok-write_next.ensures h)

pub write_values-returns-in_err-write_next : goal.write_values-returns-in_err-write_next
write_values-returns-in_err-write_next t g c =
    let more : c.args.count - c.loop.counter ≡ suc (c.args.count - (c.loop.counter + 1)) = omega arith in
    c.loop.invariant c.from_residual.result c.write_next.new.out.items _ _
    (value_exit (spelled_in c.args.self.now.sent c.args.levels) (next_value c.args.self.now.text.now c.args.levels) _
    c.in_err-write_next.field-0.0 _ _ _ _ _ _ _ _ _ _ more c.from_residual.ensures.1 c.in_err-write_next.ensures)

pub write_pairs-returns-in_err-write_values : goal.write_pairs-returns-in_err-write_values
write_pairs-returns-in_err-write_values t g c =
    reads_as _ _ _ _ _ _ _ (pairs_twice (spelled_in c.args.self.now.sent c.args.levels)
    (next_value c.args.self.now.text.now c.args.levels) _ _ _)
    (reads_exit c.from_residual.result c.in_err-write_values.field-0.0 _ _ _ _ _ _ _ _ c.from_residual.ensures.1
    c.in_err-write_values.ensures)

pub write_pairs-returns : goal.write_pairs-returns
write_pairs-returns t g c =
    reads_as _ _ _ _ _ _ _ (pairs_twice (spelled_in c.args.self.now.sent c.args.levels)
    (next_value c.args.self.now.text.now c.args.levels) _ _ _)
    (reads_then c.write_values-2.result _ _ _ _ _ _ _ _ _ c.in_ok-write_values.ensures c.write_values-2.ensures)

pub write_next-returns-then-levels-eq0 : goal.write_next-returns-then-levels-eq0
write_next-returns-then-levels-eq0 t g c = reads_refused _ _ _ _
    (no_levels c.args.self.now.sent c.args.levels c.args.self.now.text.now _ _ c.if-levels-eq0.true)

pub write_next-returns-in_err-token : goal.write_next-returns-in_err-token
write_next-returns-in_err-token t g c =
    let more : c.args.levels ≡ suc (c.args.levels - 1) = omega arith in
    refused_exit _ _ _ _ _ _ c.from_residual.ensures.1 c.in_err-token.ensures.token.0
    (no_token c.args.self.now.sent (c.args.levels - 1) c.args.self.now.text.now c.args.levels _ _ more
    c.in_err-token.ensures.token.1)

pub write_next-returns : goal.write_next-returns
write_next-returns t g c =
    let more : c.args.levels ≡ suc (c.args.levels - 1) = omega arith in
    reads_as _ _ _ _ _ _ _ (token_read c.args.self.now.sent (c.args.levels - 1) c.args.self.now.text.now c.args.levels
    _ _ _ _ _ more c.in_ok-token.ensures.token) c.write_token.ensures

pub write_attributes-returns-in_err-write_length : goal.write_attributes-returns-in_err-write_length
write_attributes-returns-in_err-write_length t g c =
    let sent : c.args.self.now.sent ≡ Some RESP3 = search rules in
    rw sent (text_exit c.from_residual.result c.in_err-write_length.field-0.0 _ _ _ _ _ _ _ _
    c.from_residual.ensures.1
    c.in_err-write_length.ensures)

pub write_attributes-returns : goal.write_attributes-returns
write_attributes-returns t g c =
    let sent : c.args.self.now.sent ≡ Some RESP3 = search rules in
    rw sent (text_then c.write_pairs-2.result _ _ _ _ _ _ _ _ _ c.in_ok-write_length.ensures
    (rw sent at c.write_pairs-2.ensures))

pub write_push-returns-in_err-name : goal.write_push-returns-in_err-name
write_push-returns-in_err-name t g c =
    let left = t.T.Tokens.left in
    refused_exit c.from_residual.result _ _ c.args.out.now.items (left c.name.new.self.tokens) c.name.new.self.at
    c.from_residual.ensures.1 c.in_err-name.ensures.name.0
    (no_name c.args.self.now.sent c.args.levels c.args.self.now.text.now c.args.payload (left c.args.place.now.tokens)
    c.args.place.now.at c.in_err-name.ensures.name.1)

pub write_push-returns-in_err-write_push_head : goal.write_push-returns-in_err-write_push_head
write_push-returns-in_err-write_push_head t g c =
    let left = t.T.Tokens.left in
    let name = c.in_ok-name.ensures in
    let us = left c.name.new.self.tokens in
    let from = c.name.new.self.at in
    reads_as c.from_residual-in_err-write_push_head.result _ _ _ _ us from
    (push_read c.args.self.now.sent c.args.levels c.args.self.now.text.now c.args.payload _
    (left c.args.place.now.tokens) us c.args.place.now.at from name.text name.name)
    (text_exit c.from_residual-in_err-write_push_head.result c.in_err-write_push_head.field-0.0 _ _ _ _ us us from
    from
    c.from_residual-in_err-write_push_head.ensures.1 c.in_err-write_push_head.ensures)

pub write_push-returns : goal.write_push-returns
write_push-returns t g c =
    let left = t.T.Tokens.left in
    let name = c.in_ok-name.ensures in
    let us = left c.name.new.self.tokens in
    let from = c.name.new.self.at in
    reads_as c.write_values.result _ _ _ _ _ _
    (push_read c.args.self.now.sent c.args.levels c.args.self.now.text.now c.args.payload _
    (left c.args.place.now.tokens) us c.args.place.now.at from name.text name.name)
    (text_then c.write_values.result _ _ _ _ _ us _ from _ c.in_ok-write_push_head.ensures c.write_values.ensures)

pub write_token-returns-in-Nil : goal.write_token-returns-in-Nil
write_token-returns-in-Nil t g c = rw (c.in-Nil.is) (text_read _ _ _ _ _ _ (c.write_nil.ensures c.args.levels))

pub write_token-returns-in-Okay : goal.write_token-returns-in-Okay
write_token-returns-in-Okay t g c = rw (c.in-Okay.is) (text_read _ _ _ _ _ _ (c.write_ok.ensures c.args.levels))

pub write_token-returns-in-Int : goal.write_token-returns-in-Int
write_token-returns-in-Int t g c =
    let wrote : AppendsText c.write_int.result (spelled_in c.args.self.now.sent (suc c.args.levels)
    (Int c.args.token.number)) c.args.out.now.items c.write_int.new.out.items =
    (let h = c.write_int.ensures c.args.levels in search rules) in
    rw (c.in-Int.is) (text_read _ _ _ _ _ _ wrote)

pub write_token-returns-in-Boolean : goal.write_token-returns-in-Boolean
write_token-returns-in-Boolean t g c =
    let wrote : AppendsText c.write_bool.result (spelled_in c.args.self.now.sent (suc c.args.levels)
    (Boolean (int_eq c.args.token.number (pos 1)))) c.args.out.now.items c.write_bool.new.out.items =
    (let h = c.write_bool.ensures c.args.levels in search rules) in
    rw (c.in-Boolean.is) (text_read _ _ _ _ _ _ wrote)

pub write_token-returns-in-Array : goal.write_token-returns-in-Array
write_token-returns-in-Array t g c = rw (c.in-Array.is)
    (reads_as _ _ _ _ _ _ _ (array_read c.args.self.now.sent c.args.levels c.args.self.now.text.now _ _ _)
    c.write_array.ensures)

pub write_token-returns-in-Set : goal.write_token-returns-in-Set
write_token-returns-in-Set t g c =
    let left = t.T.Tokens.left in
    let x = c.args.self.now.text.now in
    let ts = left c.args.place.now.tokens in
    let at = c.args.place.now.at in
    let n = c.args.token.size in
    rw (c.in-Set.is)
    (reads_as c.write_array-in-Set.result _ (both (made_of
    (counted_in c.args.self.now.sent c.set_mark.result n) ts at)
    (values_in c.args.self.now.sent c.args.levels x n)) _ _ _ _
    (set_read c.args.self.now.sent c.args.levels x n ts at
    ∙ ap (λ (o : Option (List ℕ)). both (made_of o ts at) (values_in c.args.self.now.sent c.args.levels x n))
    (c.set_mark.ensures n))
    c.write_array-in-Set.ensures)

pub write_token-returns-in-Map : goal.write_token-returns-in-Map
write_token-returns-in-Map t g c = rw (c.in-Map.is)
    (reads_as _ _ _ _ _ _ _ (map_read c.args.self.now.sent c.args.levels c.args.self.now.text.now _ _ _)
    c.write_map.ensures)

pub write_token-returns-in-Attribute : goal.write_token-returns-in-Attribute
write_token-returns-in-Attribute t g c = rw (c.in-Attribute.is)
    (reads_as _ _ _ _ _ _ _ (attribute_read c.args.self.now.sent c.args.levels c.args.self.now.text.now _ _ _)
    c.write_attribute.ensures)

pub write_token-returns-in_err-bytes-in_default : goal.write_token-returns-in_err-bytes-in_default
write_token-returns-in_err-bytes-in_default t g c =
    let left = t.T.Tokens.left in
    let x = c.args.self.now.text.now in
    let other = c.in_default in
    reads_as c.from_residual.result _ _ _ _ (left c.bytes.new.self.tokens) c.bytes.new.self.at
    (ap (spelled (spelled_in c.args.self.now.sent (suc c.args.levels)))
    (other_token (next_value x c.args.levels) x c.args.token.kind c.args.token.size c.args.token.number
    (left c.args.place.now.tokens) c.args.place.now.at other.not-Nil other.not-Okay other.not-Int other.not-Array
    other.not-Map other.not-Attribute other.not-Boolean other.not-Set other.not-Push))
    (refused_exit c.from_residual.result _ _ c.args.out.now.items _ _ c.from_residual.ensures.1
    c.in_err-bytes-in_default.ensures.bytes.0
    (no_leaf c.args.self.now.sent c.args.levels x c.args.token.kind c.args.token.size (left c.args.place.now.tokens)
    c.args.place.now.at c.in_err-bytes-in_default.ensures.bytes.1))

pub write_token-returns-in_ok-bytes-in_default : goal.write_token-returns-in_ok-bytes-in_default
write_token-returns-in_ok-bytes-in_default t g c =
    let left = t.T.Tokens.left in
    let x = c.args.self.now.text.now in
    let other = c.in_default in
    let us = left c.bytes.new.self.tokens in
    let from = c.bytes.new.self.at in
    reads_as c.write_leaf.result _ _ _ _ us from
    (ap (spelled (spelled_in c.args.self.now.sent (suc c.args.levels)))
    (other_token (next_value x c.args.levels) x c.args.token.kind c.args.token.size c.args.token.number
    (left c.args.place.now.tokens) c.args.place.now.at other.not-Nil other.not-Okay other.not-Int other.not-Array
    other.not-Map other.not-Attribute other.not-Boolean other.not-Set other.not-Push)
    ∙ leaf_read c.args.self.now.sent c.args.levels x c.args.token.kind c.args.token.size
    (left c.args.place.now.tokens)
    us c.args.place.now.at from _ c.in_ok-bytes-in_default.ensures.bytes)
    (text_read _ _ us from _ _ (c.write_leaf.ensures c.args.levels))
