use Rattle.std.proofs.Common.{◌≡◌, ◌++◌, drop, map, length}
use Rattle.resp_flat.specs.FlatReplies.{Keeps, placed, tokens_of, text_of, joined, joined_pairs, tokens_of_pair}
use Rattle.resp_flat.specs.FlatReplies.{text_of_pair}
use Rattle.resp_flat.proofs.flat_reply.FlatReply.+add.Given as goal

abbrev pub invariant-elements-loop-element : goal.invariant-elements-loop-element
invariant-elements-loop-element l = record {
  tokens : l.self.tokens.items ++ placed (length l.self.text.items)
      (joined (map tokens_of (drop l.element-index l.elements))) ≡ l.fn.self.tokens.items
      ++ placed (length l.fn.self.text.items) (joined (map tokens_of l.elements));
  text : l.self.text.items ++ joined (map text_of (drop l.element-index l.elements)) ≡ l.fn.self.text.items
      ++ joined (map text_of l.elements);
  kept_tokens : Keeps l.fn.self.tokens.items l.self.tokens.items;
  kept_text : Keeps l.fn.self.text.items l.self.text.items;
}

abbrev pub invariant-entries-loop-key : goal.invariant-entries-loop-key
invariant-entries-loop-key l = record {
  tokens : l.self.tokens.items ++ placed (length l.self.text.items)
      (joined_pairs (map tokens_of_pair (drop l.key-index l.pairs))) ≡ l.fn.self.tokens.items
      ++ placed (length l.fn.self.text.items) (joined_pairs (map tokens_of_pair l.pairs));
  text : l.self.text.items ++ joined_pairs (map text_of_pair (drop l.key-index l.pairs)) ≡ l.fn.self.text.items
      ++ joined_pairs (map text_of_pair l.pairs);
  kept_tokens : Keeps l.fn.self.tokens.items l.self.tokens.items;
  kept_text : Keeps l.fn.self.text.items l.self.text.items;
}
