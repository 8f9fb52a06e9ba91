use Rattle.std.proofs.Common.{sym, ◌∙◌}
use Rattle.resp_c.proofs.Tokens.{unknown_refused, made_sends, made_refused}
use Rattle.resp_c.proofs.encoding.encode.Goals as goal

pub returns-then-not-are_known-clause-refused : goal.returns-then-not-are_known-clause-refused
returns-then-not-are_known-clause-refused c =
    unknown_refused c.args.protocol c.args.tokens.now c.args.text.now
    (sym c.are_known.ensures ∙ c.if-not-are_known.true)

pub returns-clause-sends : goal.returns-clause-sends
returns-clause-sends c = made_sends c.args.protocol c.in-Some.version c.args.tokens.now c.args.text.now
    (sym c.version_numbered.ensures ∙ c.in-Some.is)
    (λ v. v.items) c.bytes_of.result (sym c.are_known.ensures ∙ c.if-not-are_known.false) c.bytes_of.ensures.bytes

pub returns-clause-refused : goal.returns-clause-refused
returns-clause-refused c = made_refused c.args.protocol c.in-Some.version c.args.tokens.now c.args.text.now
    (sym c.version_numbered.ensures ∙ c.in-Some.is)
    c.bytes_of.result c.bytes_of.ensures.refused
