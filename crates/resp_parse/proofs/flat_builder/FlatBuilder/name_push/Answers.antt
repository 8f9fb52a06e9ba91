use Rattle.std.proofs.Common.{◌≡◌, ℕ, suc, ◌+◌, ◌++◌, take, drop, ap, sym, ◌∙◌, arith, rules}
use Rattle.resp_parse.specs.FlatBuilders.{names_kind, with_name}
use Rattle.resp_parse.proofs.FlatPushes.{names-past, named-past, names-rest, named-rest}
use Rattle.resp_parse.proofs.flat_builder.FlatBuilder.name_push.Goals as goal

pub returns-then-token-len-clause-named : goal.returns-then-token-len-clause-named
returns-then-token-len-clause-named c = sym
    (names-past c.args.token c.args.self.now.reply.tokens.items c.args.self.now.reply.text.items (search rules))

pub returns-then-token-len-clause-tokens : goal.returns-then-token-len-clause-tokens
returns-then-token-len-clause-tokens c = named-past c.args.token c.args.self.now.reply.tokens.items (search rules)

pub returns-clause-named : goal.returns-clause-named
returns-clause-named c =
    let next : c.args.token + 1 ≡ suc c.args.token = omega arith in
    names-rest (c.args.token + 1) c.args.self.now.reply.tokens.items c.deref_mut.result.now
    c.args.self.now.reply.text.items c.deref.result.now c.name_kind.result c.deref_mut.ensures.value
    c.deref.ensures.value c.name_kind.ensures.named
    ∙ ap (λ (n : ℕ). names_kind (drop n c.args.self.now.reply.tokens.items) c.args.self.now.reply.text.items) next

pub returns-clause-tokens : goal.returns-clause-tokens
returns-clause-tokens c =
    let next : c.args.token + 1 ≡ suc c.args.token = omega arith in
    named-rest (c.args.token + 1) c.args.self.now.reply.tokens.len c.args.self.now.reply.tokens.items
    c.deref_mut.result.now c.name_kind.new.tokens (search rules) c.deref_mut.ensures.value (search rules)
    c.name_kind.ensures.token
    ∙ ap (λ (n : ℕ). take n c.args.self.now.reply.tokens.items ++ with_name (drop n c.args.self.now.reply.tokens.items))
    next
