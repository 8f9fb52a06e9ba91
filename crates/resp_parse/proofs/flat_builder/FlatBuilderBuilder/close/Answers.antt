use Rattle.std.proofs.Common.{rules, sym, ap, ◌∙◌, subst, Ok}
use Rattle.resp_value.specs.declared.value.Value.{Value}
use Rattle.resp_flat.specs.FlatReplies.{tokens_of, text_of}
use Rattle.resp_parse.specs.declared.flat_builder.FlatBuilder.{FlatBuilder}
use Rattle.resp_parse.specs.FlatBuilders.{HoldsFlat}
use Rattle.resp_parse.proofs.FlatPushes.{push-refused}
use Rattle.resp_parse.proofs.FlatClosing.{Closed, closing, closed-value, closed-held, closed-push, closed-other}
use Rattle.resp_parse.proofs.flat_builder.FlatBuilderBuilder.close.Goals as goal
use Rattle.resp_parse.proofs.flat_builder.FlatBuilderBuilder.close.Goals.{in-Push+else-not-name_push, in_default}

pub returns-then-not-name_push-clause-value : goal.returns-then-not-name_push-clause-value
returns-then-not-name_push-clause-value c = λ f fs w a e h.
    let r = c.args.self.now.reply in
    let all = closing r c.args.self.now.opens.items c.pop.new.self.items f c.args.closed.now fs w
    c.unwrap_or-token.result _ c.pop.result h a e (search rules) c.pop.ensures.value c.pop.ensures.items
    c.unwrap_or-token.ensures in
    rw c.in-Push.is (push-refused r c.pop.new.self.items c.unwrap_or-token.result fs c.args.closed.now all (sym
    c.name_push.ensures.named ∙ c.if-not-name_push.true))

pub returns-clause-value : goal.returns-clause-value
returns-clause-value c = λ f fs w a e h.
    let r = c.args.self.now.reply in
    let g = c.args.closed.now in
    let at = c.unwrap_or-token.result in
    let before = c.pop.new.self.items in
    let s = c.match-closed.self.reply in
    let all = closing r c.args.self.now.opens.items before f g fs w at _ c.pop.result h a e (search rules)
    c.pop.ensures.value c.pop.ensures.items c.unwrap_or-token.ensures in
    let closed : Closed s before fs g = elim c.match-closed.branch [
      | in-Push+else-not-name_push u ↦ subst (λ (b : FlatBuilder). Closed b.reply before fs g) (sym u.self-is)
          (closed-push r u.name_push.new.self.reply before at fs g all u.in-Push.is
          (sym u.name_push.ensures.named ∙ u.if-not-name_push.false) u.name_push.ensures.tokens
          u.name_push.ensures.text)
      | in_default u ↦ subst (λ (b : FlatBuilder). Closed b.reply before fs g) (sym u.self-is)
          (closed-other r before at fs g all u.in_default.not-Push)
    ] in
    closed-value s before fs g closed ∙ ap Ok (sym (c.elements.ensures))

pub returns-clause-stands : goal.returns-clause-stands
returns-clause-stands c = λ f fs w a e h.
    let r = c.args.self.now.reply in
    let g = c.args.closed.now in
    let at = c.unwrap_or-token.result in
    let before = c.pop.new.self.items in
    let all = closing r c.args.self.now.opens.items before f g fs w at _ c.pop.result h a e (search rules)
    c.pop.ensures.value c.pop.ensures.items c.unwrap_or-token.ensures in
    let closed : Closed c.match-closed.self.reply c.match-closed.self.opens.items fs g = elim c.match-closed.branch [
      | in-Push+else-not-name_push u ↦ subst (λ (b : FlatBuilder). Closed b.reply b.opens.items fs g) (sym u.self-is)
          (subst (λ o. Closed u.name_push.new.self.reply o fs g) (sym (search rules))
          (closed-push r u.name_push.new.self.reply before at fs g all u.in-Push.is
          (sym u.name_push.ensures.named ∙ u.if-not-name_push.false) u.name_push.ensures.tokens
          u.name_push.ensures.text))
      | in_default u ↦ subst (λ (b : FlatBuilder). Closed b.reply b.opens.items fs g) (sym u.self-is)
          (closed-other r before at fs g all u.in_default.not-Push)
    ] in
    subst (λ (v : Value). HoldsFlat c.match-closed.self.reply c.match-closed.self.opens.items fs (tokens_of v)
    (text_of v)) (sym (c.elements.ensures))
    (closed-held c.match-closed.self.reply c.match-closed.self.opens.items fs g closed)
