use Rattle.std.proofs.Common.{◌≡◌, ◌+◌, ◌++◌, ◌∷◌, ℕ, [], rules, refl, ap, sym, ◌∙◌}
use Rattle.resp_flat.specs.declared.token.Token.{Token}
use Rattle.resp_flat.specs.declared.flat_reply.FlatReply.{FlatReply}
use Rattle.resp_flat.specs.FlatReplies.{sized, placed}
use Rattle.resp_parse.specs.declared.shape.ElementsKind.{ElementsKind}
use Rattle.resp_parse.specs.Shapes.{count_of, token_kind}
use Rattle.resp_parse.specs.FlatBuilders.{opening}
use Rattle.resp_parse.proofs.FlatBuilding.{flat-opened}
use Rattle.resp_parse.proofs.InMemory.{flat-paid}
use Rattle.resp_parse.proofs.flat_builder.FlatBuilderBuilder.open.Goals as goal

pub returns : goal.returns
returns c = record {
  stands = λ fs f b h.
      let r = c.args.self.now.reply in
      let new : FlatReply = record { tokens = c.push-2.new.self; text = r.text } in
      let opens = c.args.self.now.opens.items in
      let opened : opening f ≡ sized (token_kind c.args.kind) c.args.size = ap
      (λ (k : ElementsKind). sized (token_kind k) f.size) b.kind_is
      ∙ ap (sized (token_kind c.args.kind)) b.size_is in
      let pushed : c.push-2.new.self.items ≡ r.tokens.items
      ++ placed c.len-2.result (sized (token_kind c.args.kind) c.args.size ∷ []) = search rules in
      let tokens : c.push-2.new.self.items ≡ r.tokens.items ++ placed c.len-2.result (opening f ∷ []) = pushed
      ∙ ap (λ (t : Token). r.tokens.items ++ placed c.len-2.result (t ∷ [])) (sym opened) in
      let count : count_of f.kind f.size ≡ f.after + 1 = ap (λ (k : ElementsKind). count_of k f.size) b.kind_is
      ∙ ap (count_of c.args.kind) b.size_is ∙ c.requires.count ∙ ap (λ (n : ℕ). n + 1) (sym b.after_is) in
      let held = flat-opened r new opens fs c.push.new.self.items f h.0 (search rules) refl b.none (search rules)
      count in
      (held, flat-paid new c.push.new.self.items _ [] held);
}
