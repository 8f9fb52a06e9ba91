use Rattle.std.proofs.Common.{◌≡◌, [], ◌∙◌, true, false, ap, sym, refl, if◌then◌else◌}
use Rattle.std.proofs.lemmas.Result.{err_from_is_err_and}
use Rattle.resp_command.specs.Subscriptions.{IsUnanswered}
use Rattle.resp_link.proofs.StreamedExchanges.{into-called, into-nothing}
use Rattle.resp_link.proofs.link.ByteLink.req_command_into.Goals as goal

pub returns-in_err-bytes : goal.returns-in_err-bytes
returns-in_err-bytes g c =
    let p = err_from_is_err_and c.from_residual.result c.from_residual.ensures.1 in
    let is = c.in_err-bytes.ensures.memory in
    let some : c.args.cmd.now.args ≡ [] → ⊥ = λ none. let e : true ≡ false = sym (c.is_empty.ensures.1 none)
    ∙ c.if-is_empty.false in cc in
    let waits : IsUnanswered c.args.cmd.now → ⊥ = λ none. let e : true ≡ false = sym (c.is_unanswered.ensures.1 none)
    ∙ c.if-is_unanswered.false in cc in
    rw (p.1, p.2) (into-called _ _ c.args.cmd.now _ _ _ _ _ c.if-self.false some waits refl refl
    (into-nothing _ _ _ _ _ _ _ is))

pub returns-then-is_no_response : goal.returns-then-is_no_response
returns-then-is_no_response g c =
    let some : c.args.cmd.now.args ≡ [] → ⊥ = λ none. let e : true ≡ false = sym (c.is_empty.ensures.1 none)
    ∙ c.if-is_empty.false in cc in
    let waits : IsUnanswered c.args.cmd.now → ⊥ = λ none. let e : true ≡ false = sym (c.is_unanswered.ensures.1 none)
    ∙ c.if-is_unanswered.false in cc in
    into-called _ _ c.args.cmd.now _ _ _ 0 _ c.if-self.false some waits
    (c.as_slice.ensures.value ∙ c.in_ok-bytes.ensures.packed)
    (ap (λ b. if b then 0 else 1) (sym c.if-is_no_response.true ∙ c.is_no_response.ensures))
    (c.send_alone.ensures.hands _)

pub returns : goal.returns
returns g c =
    let some : c.args.cmd.now.args ≡ [] → ⊥ = λ none. let e : true ≡ false = sym (c.is_empty.ensures.1 none)
    ∙ c.if-is_empty.false in cc in
    let waits : IsUnanswered c.args.cmd.now → ⊥ = λ none. let e : true ≡ false = sym (c.is_unanswered.ensures.1 none)
    ∙ c.if-is_unanswered.false in cc in
    into-called _ _ c.args.cmd.now _ _ _ 1 _ c.if-self.false some waits
    (c.as_slice-2.ensures.value ∙ c.in_ok-bytes.ensures.packed)
    (ap (λ b. if b then 0 else 1) (sym c.if-is_no_response.false ∙ c.is_no_response.ensures))
    c.exchange_into.ensures.hands
