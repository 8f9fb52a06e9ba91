use Rattle.std.proofs.Common.{◌≡◌, ◌++◌, ◌∙◌, true, false, ap, refl, sym, if◌then◌else◌}
use Rattle.std.proofs.lemmas.Result.{err_from_is_err_and}
use Rattle.resp_command.specs.Packed.{packed}
use Rattle.resp_link.proofs.Receiving.{receives_none}
use Rattle.resp_link.proofs.LinkExchanges.{commanded, unsent, replied, unanswered}
use Rattle.resp_link.proofs.link.ByteLinkConnectionLike.req_command.Goals as goal

pub returns-in_err-send_all : goal.returns-in_err-send_all
returns-in_err-send_all g c =
    let p = err_from_is_err_and c.from_residual-in_err-send_all.result c.from_residual-in_err-send_all.ensures.1 in
    let args = c.args.cmd.now.args in
    rw (p.1, p.2) (commanded _ _ c.args.cmd.now _ _ _ _ c.if-self.false refl
    (λ none. let e : true ≡ false = sym (c.is_empty.ensures.1 none) ∙ c.if-is_empty.false in cc)
    (λ none. let e : true ≡ false = sym (c.is_unanswered.ensures.1 none) ∙ c.if-is_unanswered.false in cc)
    (c.as_slice.ensures.value ∙ c.in_ok-write_packed_command.ensures.written
    ∙ ap (λ z. z ++ packed args) c.clear.ensures.items) refl
    (unsent _ _ _ _ _ _ _ _ (rw c.in_err-send_all.was at c.send_all.ensures)))

pub returns-then-is_no_response : goal.returns-then-is_no_response
returns-then-is_no_response g c =
    let args = c.args.cmd.now.args in
    commanded _ _ c.args.cmd.now _ 0 _ _ c.if-self.false refl
    (λ none. let e : true ≡ false = sym (c.is_empty.ensures.1 none) ∙ c.if-is_empty.false in cc)
    (λ none. let e : true ≡ false = sym (c.is_unanswered.ensures.1 none) ∙ c.if-is_unanswered.false in cc)
    (c.as_slice.ensures.value ∙ c.in_ok-write_packed_command.ensures.written
    ∙ ap (λ z. z ++ packed args) c.clear.ensures.items)
    (ap (λ b. if b then 0 else 1) (sym c.if-is_no_response.true ∙ c.is_no_response.ensures))
    (replied _ _ _ _ _ _ 0 _ _ _ (rw c.in_ok-send_all.was at c.send_all.ensures) (receives_none _) refl)

pub returns-in-Err : goal.returns-in-Err
returns-in-Err g c =
    let args = c.args.cmd.now.args in
    commanded _ _ c.args.cmd.now _ 1 _ _ c.if-self.false refl
    (λ none. let e : true ≡ false = sym (c.is_empty.ensures.1 none) ∙ c.if-is_empty.false in cc)
    (λ none. let e : true ≡ false = sym (c.is_unanswered.ensures.1 none) ∙ c.if-is_unanswered.false in cc)
    (c.as_slice.ensures.value ∙ c.in_ok-write_packed_command.ensures.written
    ∙ ap (λ z. z ++ packed args) c.clear.ensures.items)
    (ap (λ b. if b then 0 else 1) (sym c.if-is_no_response.false ∙ c.is_no_response.ensures))
    (unanswered _ _ _ _ _ _ 1 _ _ (rw c.in_ok-send_all.was at c.send_all.ensures) c.in-Err.ensures.reply)

pub returns : goal.returns
returns g c =
    let args = c.args.cmd.now.args in
    commanded _ _ c.args.cmd.now _ 1 _ _ c.if-self.false refl
    (λ none. let e : true ≡ false = sym (c.is_empty.ensures.1 none) ∙ c.if-is_empty.false in cc)
    (λ none. let e : true ≡ false = sym (c.is_unanswered.ensures.1 none) ∙ c.if-is_unanswered.false in cc)
    (c.as_slice.ensures.value ∙ c.in_ok-write_packed_command.ensures.written
    ∙ ap (λ z. z ++ packed args) c.clear.ensures.items)
    (ap (λ b. if b then 0 else 1) (sym c.if-is_no_response.false ∙ c.is_no_response.ensures))
    (replied _ _ _ _ _ _ 1 _ _ _ (rw c.in_ok-send_all.was at c.send_all.ensures) c.in-Ok.ensures.reply refl)
