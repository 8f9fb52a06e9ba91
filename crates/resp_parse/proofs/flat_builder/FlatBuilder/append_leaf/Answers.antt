use Rattle.std.proofs.Common.{◌≡◌, ◌++◌, ◌∙◌, length, ap, sym, subst, rules}
use Rattle.std.proofs.lemmas.List.{append-nil}
use Rattle.resp_value.specs.declared.value.Value.{Value}
use Rattle.resp_flat.specs.declared.flat_reply.FlatReply.{FlatReply}
use Rattle.resp_flat.specs.FlatReplies.{placed, tokens_of, text_of}
use Rattle.resp_parse.specs.FlatBuilders.{HoldsFlat}
use Rattle.resp_parse.proofs.FlatBuilding.{flat-appended}
use Rattle.resp_parse.proofs.flat_builder.FlatBuilder.append_leaf.Goals as goal
use Rattle.resp_parse.proofs.flat_builder.FlatBuilder.append_leaf.Goals.{in-Some+in_ok-push-in-Some, in-None+in_ok-append-in-None}

pub returns-clause-stands : goal.returns-clause-stands
returns-clause-stands c = λ fs h.
    let old = c.args.self.now.reply in
    let opens = c.args.self.now.opens.items in
    let at_end : c.len.result ≡ length old.text.items = search rules in
    let shown : (new : FlatReply) → new.tokens.items ≡ old.tokens.items ++ placed (length old.text.items)
    (tokens_of c.args.value.now) → new.text.items ≡ old.text.items ++ text_of c.args.value.now →
    HoldsFlat new opens fs (tokens_of c.of-seen.result) (text_of c.of-seen.result) = λ new t z.
    subst (λ (v : Value). HoldsFlat new opens fs (tokens_of v) (text_of v)) (sym c.of-seen.ensures)
    (flat-appended old new opens fs (tokens_of c.args.value.now) (text_of c.args.value.now) h.0 t z) in
    elim c.match-token_alone.branch [
      | in-Some+in_ok-push-in-Some w ↦ rw w.self-is
          (shown (record { tokens = w.push.new.self; text = old.text })
          (w.in_ok-push-in-Some.ensures.items ∙ ap (λ ts. old.tokens.items ++ ts) (sym w.in-Some.ensures.token)
          ∙ ap (λ n. old.tokens.items ++ placed n (tokens_of c.args.value.now)) at_end)
          (sym (append-nil old.text.items) ∙ ap (λ x. old.text.items ++ x) (sym w.in-Some.ensures.no_text)))
      | in-None+in_ok-append-in-None w ↦ rw (w.self-is, w.append.ensures.opens)
          (shown w.append.new.self.reply w.in_ok-append-in-None.ensures.tokens w.in_ok-append-in-None.ensures.text)
    ]
