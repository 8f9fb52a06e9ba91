use Rattle.std.proofs.Common.{rules, ◌<◌, length, ◌∙◌}
use Rattle.resp_value.specs.declared.value.Value.{Array, Map, Set}
use Rattle.resp_flat.specs.declared.token.TokenKind.TheVariants as kind
use Rattle.resp_flat.specs.FlatReplies.{list_tokens, pairs_tokens}
use Rattle.resp_flat.proofs.Appending.{on_ok, made_of, tokens_of_array, tokens_of_set, tokens_of_map, attribute_tokens}
use Rattle.resp_flat.proofs.Appending.{attribute_text, push_made, element_next, entry_next, keeps_then}
use Rattle.resp_flat.proofs.flat_reply.FlatReply.+add.Goals as goal

pub add-returns-in-Array-clause-tokens : goal.add-returns-in-Array-clause-tokens
add-returns-in-Array-clause-tokens t c = on_ok c.list.result
    (made_of Array (list_tokens kind.Array) tokens_of_array _ _ _ _ _ _ c.in-Array.is c.as_slice-in-Array.ensures)
    c.list.ensures.tokens

pub add-returns-in-Set-clause-tokens : goal.add-returns-in-Set-clause-tokens
add-returns-in-Set-clause-tokens t c = on_ok c.list-in-Set.result
    (made_of Set (list_tokens kind.Set) tokens_of_set _ _ _ _ _ _ c.in-Set.is c.as_slice-in-Set.ensures)
    c.list-in-Set.ensures.tokens

pub add-returns-in-Map-clause-tokens : goal.add-returns-in-Map-clause-tokens
add-returns-in-Map-clause-tokens t c = on_ok c.pairs.result
    (made_of Map (pairs_tokens kind.Map) tokens_of_map _ _ _ _ _ _ c.in-Map.is c.as_slice-in-Map.ensures)
    c.pairs.ensures.tokens

pub add-returns-in_ok-pairs-in-Attribute-clause-tokens : goal.add-returns-in_ok-pairs-in-Attribute-clause-tokens
add-returns-in_ok-pairs-in-Attribute-clause-tokens t c =
    let first = c.in_ok-pairs-in-Attribute.ensures in
    on_ok c.add.result (attribute_tokens _ _ _ _ _ _ _ _ _ _ c.in-Attribute.is c.as_slice-in-Attribute.ensures
    c.get.ensures first.tokens first.text) c.add.ensures.tokens

pub add-returns-in_ok-pairs-in-Attribute-clause-text : goal.add-returns-in_ok-pairs-in-Attribute-clause-text
add-returns-in_ok-pairs-in-Attribute-clause-text t c =
    on_ok c.add.result (attribute_text _ _ _ _ _ _ _ _ c.in-Attribute.is c.as_slice-in-Attribute.ensures c.get.ensures
    c.in_ok-pairs-in-Attribute.ensures.text) c.add.ensures.text

pub add-returns-in-Push-clause-tokens : goal.add-returns-in-Push-clause-tokens
add-returns-in-Push-clause-tokens t c = on_ok c.push.result
    (push_made _ _ _ _ _ _ _ _ c.in-Push.is c.name.ensures c.as_slice-in-Push.ensures) c.push.ensures.tokens

pub elements-loop-element-preserved : goal.elements-loop-element-preserved
elements-loop-element-preserved t c =
    let inside : c.loop-element.element-index < length c.args.elements.now = search rules in
    let added = c.in_ok-add.ensures in
    let next = element_next c.args.elements.now c.loop-element.element-index c.element-item.result _ _ _ _ inside
    c.element-item.is added.tokens added.text in
    record {
      tokens = next.0 ∙ c.loop-element.invariant.tokens;
      text = next.1 ∙ c.loop-element.invariant.text;
      kept_tokens = keeps_then _ _ _ c.loop-element.invariant.kept_tokens added.kept_tokens;
      kept_text = keeps_then _ _ _ c.loop-element.invariant.kept_text added.kept_text;
    }

pub entries-loop-key-preserved : goal.entries-loop-key-preserved
entries-loop-key-preserved t c =
    let inside : c.loop-key.key-index < length c.args.pairs.now = search rules in
    let key = c.in_ok-add.ensures in let value = c.in_ok-add-2.ensures in
    let next = entry_next c.args.pairs.now c.loop-key.key-index c.loop-key-item.result _ _ _ _ _ _ inside
    c.loop-key-item.is key.tokens key.text value.tokens value.text in
    record {
      tokens = next.0 ∙ c.loop-key.invariant.tokens;
      text = next.1 ∙ c.loop-key.invariant.text;
      kept_tokens = keeps_then _ _ _ c.loop-key.invariant.kept_tokens
          (keeps_then _ _ _ key.kept_tokens value.kept_tokens);
      kept_text = keeps_then _ _ _ c.loop-key.invariant.kept_text (keeps_then _ _ _ key.kept_text value.kept_text);
    }
