use Rattle.std.proofs.Common.{◌≡◌, rules, sym, ◌∙◌, subst}
use Rattle.resp_value.specs.declared.value.Value.{Value, SimpleString}
use Rattle.resp_flat.specs.declared.flat_reply.FlatReply.{FlatReply}
use Rattle.resp_flat.specs.FlatReplies.{tokens_of, text_of}
use Rattle.resp_parse.specs.Grammar.{simple}
use Rattle.resp_parse.specs.FlatBuilders.{HoldsFlat}
use Rattle.resp_parse.proofs.FlatBuilding.{flat-simple}
use Rattle.resp_parse.proofs.flat_builder.FlatBuilderBuilder.simple.Goals as goal

pub returns-clause-stands : goal.returns-clause-stands
returns-clause-stands c = λ fs h.
    let new : FlatReply = record { tokens = c.push.new.self; text = c.extend_from_slice.new.self } in
    let other : simple c.args.text.now ≡ SimpleString c.args.text.now = search rules in
    subst (λ (v : Value). HoldsFlat new c.args.self.now.opens.items fs (tokens_of v) (text_of v))
    (sym (c.simple.ensures ∙ other))
    (flat-simple c.args.self.now.reply new c.args.self.now.opens.items fs c.args.text.now h.0 (search rules)
    (search rules))
