use Rattle.std.proofs.Common.{rules, sym, subst}
use Rattle.resp_value.specs.declared.value.Value.{Value}
use Rattle.resp_flat.specs.declared.flat_reply.FlatReply.{FlatReply}
use Rattle.resp_flat.specs.FlatReplies.{tokens_of, text_of}
use Rattle.resp_parse.specs.FlatBuilders.{HoldsFlat}
use Rattle.resp_parse.proofs.FlatBuilding.{flat-bulk}
use Rattle.resp_parse.proofs.flat_builder.FlatBuilder.bulk_body.Goals as goal

pub returns-clause-stands : goal.returns-clause-stands
returns-clause-stands c = λ fs h.
    let new : FlatReply = record { tokens = c.push.new.self; text = c.args.self.now.reply.text } in
    subst (λ (v : Value). HoldsFlat new c.args.self.now.opens.items fs (tokens_of v) (text_of v)) (sym c.bulk.ensures)
    (flat-bulk c.args.self.now.reply new c.args.self.now.opens.items fs c.args.body.now.seen c.args.self.now.start
    c.saturating_sub.result h.0.0 h.1 (search rules) (search rules) (search rules))
