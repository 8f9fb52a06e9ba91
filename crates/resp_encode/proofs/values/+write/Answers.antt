use Rattle.std.proofs.Common.{rules, arith, Ok, Err, subst, sym, ap, ◌∙◌, ◌<◌, ◌≤◌, ◌*◌, suc, length, ◌≡◌, get_or}
use Rattle.resp_value.specs.declared.value.Value.{Attribute}
use Rattle.resp_args.specs.declared.options.ProtocolVersion.TheVariants.{RESP3}
use Rattle.resp_encode.specs.Encoding.{push_of}
use Rattle.resp_encode.specs.Encodings.{encoding_in}
use Rattle.resp_encode.specs.Appending.{AppendsText, counted}
use Rattle.resp_encode.proofs.Levels.{no_level, resp3_level, attribute_is}
use Rattle.resp_encode.proofs.AppendedTexts.{appends_then, appends_refused, memory_exit, first_exit, second_exit}
use Rattle.resp_encode.proofs.AppendedTexts.{element_then, element_exit, elements_end, last_then, last_exit, pair_then}
use Rattle.resp_encode.proofs.AppendedTexts.{key_exit, value_exit, pairs_end}
use Rattle.resp_encode.proofs.OwnNames.{no_push}
use Rattle.resp_encode.proofs.values.+write.Goals as goal

pub write_array-returns-in_err-write_length : goal.write_array-returns-in_err-write_length
write_array-returns-in_err-write_length t c = first_exit c.from_residual.result c.in_err-write_length.field-0.0 _ _ _ _
    c.from_residual.ensures.1 c.in_err-write_length.ensures

pub write_array-returns : goal.write_array-returns
write_array-returns t c = appends_then c.write_elements.result _ _ _ _ _ c.in_ok-write_length.ensures
    c.write_elements.ensures

pub write_map-returns-in_err-write_length : goal.write_map-returns-in_err-write_length
write_map-returns-in_err-write_length t c = first_exit c.from_residual.result c.in_err-write_length.field-0.0 _ _ _ _
    c.from_residual.ensures.1 c.in_err-write_length.ensures

pub write_map-returns : goal.write_map-returns
write_map-returns t c = appends_then c.write_pairs.result _ _ _ _ _ c.in_ok-write_length.ensures c.write_pairs.ensures

pub write_value-returns-then-depth-eq0 : goal.write_value-returns-then-depth-eq0
write_value-returns-then-depth-eq0 t c = no_level _ _ _ _ c.if-depth-eq0.true

pub write_value-returns-in-RESP3 : goal.write_value-returns-in-RESP3
write_value-returns-in-RESP3 t c = rw c.in-RESP3.is (resp3_level _ _ _ _ _ (omega arith) c.write_resp3.ensures)

pub write_flat-returns-in_err-write_length : goal.write_flat-returns-in_err-write_length
write_flat-returns-in_err-write_length t c =
    let size : c.in-Some.count ≡ 2 * length c.args.pairs.now = (let h = c.in-Some.ensures in omega arith) in
    first_exit c.from_residual.result c.in_err-write_length.field-0.0 _ _ _ _ c.from_residual.ensures.1
    (subst (λ n. AppendsText (Err c.in_err-write_length.field-0.0) (counted 42 n) c.args.out.now.items
    c.write_length.new.out.items) size c.in_err-write_length.ensures)

pub write_flat-returns : goal.write_flat-returns
write_flat-returns t c =
    let size : c.in-Some.count ≡ 2 * length c.args.pairs.now = (let h = c.in-Some.ensures in omega arith) in
    appends_then c.write_pairs.result _ _ _ _ _
    (subst (λ n. AppendsText (Ok c.in_ok-write_length.field-0) (counted 42 n) c.args.out.now.items
    c.write_length.new.out.items) size c.in_ok-write_length.ensures) c.write_pairs.ensures

pub write_named-returns-in_err-write_length : goal.write_named-returns-in_err-write_length
write_named-returns-in_err-write_length t c =
    let size : c.in-Some.count ≡ suc (length c.args.payload.now) = (let h = c.in-Some.ensures in omega arith) in
    first_exit c.from_residual.result c.in_err-write_length.field-0.0 _ _ _ _ c.from_residual.ensures.1
    (subst (λ n. AppendsText (Err c.in_err-write_length.field-0.0) (counted c.args.mark n) c.args.out.now.items
    c.write_length.new.out.items) size c.in_err-write_length.ensures)

pub write_named-returns-in_err-write_name : goal.write_named-returns-in_err-write_name
write_named-returns-in_err-write_name t c =
    let size : c.in-Some.count ≡ suc (length c.args.payload.now) = (let h = c.in-Some.ensures in omega arith) in
    second_exit c.from_residual-in_err-write_name.result c.in_err-write_name.field-0.0 _ _ _ _ _ _
    c.from_residual-in_err-write_name.ensures.1
    (subst (λ n. AppendsText (Ok c.in_ok-write_length.field-0) (counted c.args.mark n) c.args.out.now.items
    c.write_length.new.out.items) size c.in_ok-write_length.ensures) c.in_err-write_name.ensures

pub write_named-returns : goal.write_named-returns
write_named-returns t c =
    let size : c.in-Some.count ≡ suc (length c.args.payload.now) = (let h = c.in-Some.ensures in omega arith) in
    appends_then c.write_elements.result _ _ _ _ _
    (subst (λ n. AppendsText (Ok c.in_ok-write_length.field-0) (counted c.args.mark n) c.args.out.now.items
    c.write_length.new.out.items) size c.in_ok-write_length.ensures)
    (appends_then c.write_elements.result _ _ _ _ _ c.in_ok-write_name.ensures c.write_elements.ensures)

pub write_elements-loop-element-init : goal.write_elements-loop-element-init
write_elements-loop-element-init t c = λ r new h. h

pub write_elements-returns : goal.write_elements-returns
write_elements-returns t c =
    let done : length c.args.elements.now ≤ c.loop-element.element-index = search rules in
    c.loop-element.invariant _ c.loop-element.out.items
    (elements_end (encoding_in c.args.protocol c.args.depth) c.args.elements.now c.loop-element.element-index
    c.loop-element.out.items done)

pub write_pairs-loop-key-init : goal.write_pairs-loop-key-init
write_pairs-loop-key-init t c = λ r new h. h

pub write_pairs-returns : goal.write_pairs-returns
write_pairs-returns t c =
    let done : length c.args.pairs.now ≤ c.loop-key.key-index = search rules in
    c.loop-key.invariant _ c.loop-key.out.items
    (pairs_end (encoding_in c.args.protocol c.args.depth) c.args.pairs.now c.loop-key.key-index c.loop-key.out.items
    done)

pub write_elements-returns-in_err-write_value : goal.write_elements-returns-in_err-write_value
write_elements-returns-in_err-write_value t c =
    let inside : c.loop-element.element-index < length c.args.elements.now = search rules in
    let here : get_or c.args.elements.now c.loop-element.element-index c.element-item.result ≡ c.element-item.result =
    sym c.element-item.is in
    c.loop-element.invariant c.from_residual.result c.write_value.new.out.items
    (element_exit (encoding_in c.args.protocol c.args.depth) c.args.elements.now c.loop-element.element-index
    c.element-item.result inside here _ c.in_err-write_value.field-0.0 _ _ c.from_residual.ensures.1
    c.in_err-write_value.ensures)

pub write_elements-loop-element-preserved : goal.write_elements-loop-element-preserved
write_elements-loop-element-preserved t c = λ r new h.
    let inside : c.loop-element.element-index < length c.args.elements.now = search rules in
    let here : get_or c.args.elements.now c.loop-element.element-index c.element-item.result ≡ c.element-item.result =
    sym c.element-item.is in
    c.loop-element.invariant r new
    (element_then (encoding_in c.args.protocol c.args.depth) c.args.elements.now c.loop-element.element-index
    c.element-item.result inside here r _ _ new c.in_ok-write_value.ensures h)

pub write_pairs-returns-in_err-write_value : goal.write_pairs-returns-in_err-write_value
write_pairs-returns-in_err-write_value t c =
    let inside : c.loop-key.key-index < length c.args.pairs.now = search rules in
    let here : get_or c.args.pairs.now c.loop-key.key-index c.loop-key-item.result ≡ c.loop-key-item.result =
    sym c.loop-key-item.is in
    c.loop-key.invariant c.from_residual.result c.write_value.new.out.items
    (key_exit (encoding_in c.args.protocol c.args.depth) c.args.pairs.now c.loop-key.key-index c.loop-key-item.result
    inside here _ c.in_err-write_value.field-0.0 _ _ c.from_residual.ensures.1 c.in_err-write_value.ensures)

pub write_pairs-returns-in_err-write_value-2 : goal.write_pairs-returns-in_err-write_value-2
write_pairs-returns-in_err-write_value-2 t c =
    let inside : c.loop-key.key-index < length c.args.pairs.now = search rules in
    let here : get_or c.args.pairs.now c.loop-key.key-index c.loop-key-item.result ≡ c.loop-key-item.result =
    sym c.loop-key-item.is in
    c.loop-key.invariant c.from_residual-in_err-write_value-2.result c.write_value-in-loop-key.new.out.items
    (value_exit (encoding_in c.args.protocol c.args.depth) c.args.pairs.now c.loop-key.key-index c.loop-key-item.result
    inside here _ c.in_err-write_value-2.field-0.0 _ _ _ c.from_residual-in_err-write_value-2.ensures.1
    c.in_ok-write_value.ensures c.in_err-write_value-2.ensures)

pub write_pairs-loop-key-preserved : goal.write_pairs-loop-key-preserved
write_pairs-loop-key-preserved t c = λ r new h.
    let inside : c.loop-key.key-index < length c.args.pairs.now = search rules in
    let here : get_or c.args.pairs.now c.loop-key.key-index c.loop-key-item.result ≡ c.loop-key-item.result =
    sym c.loop-key-item.is in
    c.loop-key.invariant r new
    (pair_then (encoding_in c.args.protocol c.args.depth) c.args.pairs.now c.loop-key.key-index c.loop-key-item.result
    inside here r _ _ _ new c.in_ok-write_value.ensures c.in_ok-write_value-2.ensures h)

pub write_push-returns-in_err-has_own_kind : goal.write_push-returns-in_err-has_own_kind
write_push-returns-in_err-has_own_kind t c = memory_exit c.from_residual.result _ _ c.from_residual.ensures.1

pub write_push-returns-then-not-branch : goal.write_push-returns-then-not-branch
write_push-returns-then-not-branch t c =
    let none = no_push (encoding_in RESP3 c.args.depth) c.args.kind.now c.args.payload.now
    (sym c.in_ok-has_own_kind.ensures ∙ c.if-not-branch.true) in
    appends_refused (push_of (encoding_in RESP3 c.args.depth) c.args.kind.now c.args.payload.now) c.args.out.now.items
    none

pub write_resp3-returns-in_err-write_map-in-Attribute : goal.write_resp3-returns-in_err-write_map-in-Attribute
write_resp3-returns-in_err-write_map-in-Attribute t c =
    let spell = encoding_in RESP3 c.args.depth in
    let is = attribute_is spell c.args.value.now c.in-Attribute.payload c.as_slice-in-Attribute.result.now
    (c.in-Attribute.is ∙ ap (Attribute c.in-Attribute.payload) (sym c.as_slice-in-Attribute.ensures)) in
    subst (λ text. AppendsText c.from_residual.result text c.args.out.now.items c.write_map-in-Attribute.new.out.items)
    (sym is)
    (last_exit c.from_residual.result c.in_err-write_map-in-Attribute.field-0.0 spell _ _ c.in-Attribute.payload _ _
    c.from_residual.ensures.1 c.in_err-write_map-in-Attribute.ensures)

pub write_resp3-returns-in_ok-write_map-in-Attribute : goal.write_resp3-returns-in_ok-write_map-in-Attribute
write_resp3-returns-in_ok-write_map-in-Attribute t c =
    let spell = encoding_in RESP3 c.args.depth in
    let is = attribute_is spell c.args.value.now c.get.result.now c.as_slice-in-Attribute.result.now
    (c.in-Attribute.is ∙ (let p = c.get.ensures in let q = c.as_slice-in-Attribute.ensures in cc)) in
    subst (λ text. AppendsText c.write_value.result text c.args.out.now.items c.write_value.new.out.items) (sym is)
    (last_then c.write_value.result spell _ _ c.get.result.now _ _ _ c.in_ok-write_map-in-Attribute.ensures
    c.write_value.ensures)

pub write_resp3-returns-in-Nil : goal.write_resp3-returns-in-Nil
write_resp3-returns-in-Nil t c = search rules

pub write_resp2-returns-in-Nil : goal.write_resp2-returns-in-Nil
write_resp2-returns-in-Nil t c = search rules
