use Rattle.std.proofs.Common.{ap, ◌∙◌, ◌∷◌, [], codes}
use Rattle.resp_value.specs.declared.value.Value.{Array, BulkString, Map}
use Rattle.example_server.proofs.reply.greeting.Goals as goal

pub returns : goal.returns
returns c =
    let version = c.in_ok-field.ensures ∙ ap (λ n. (BulkString (codes "proto"), n)) c.number.ensures in
    let modules = c.in_ok-field-3.ensures ∙ ap (λ vs. (BulkString (codes "modules"), Array vs)) c.new.ensures in
    ap Map (c.from.ensures ∙ c.in_ok-fields.ensures.items
    ∙ (λ i. c.in_ok-text_field.ensures i ∷ c.in_ok-text_field-2.ensures i ∷ version i
    ∷ c.in_ok-field-2.ensures i ∷ c.in_ok-text_field-3.ensures i ∷ c.in_ok-text_field-4.ensures i
    ∷ modules i ∷ []))
