use Rattle.std.proofs.Common.{◌≡◌, ◌∙◌, sym, true, false, refl}
use Rattle.std.proofs.lemmas.Result.{err_from_is_err_and}
use Rattle.resp_args.specs.declared.options.ProtocolVersion.TheVariants as version
use Rattle.resp_connect.specs.Greeting.{in_old, in_new, fell_back, no_hello}
use Rattle.resp_connect.proofs.Greeted.{says_done, says_refused}
use Rattle.resp_connect.proofs.greeting.say.Goals as goal

pub returns-in_err-send : goal.returns-in_err-send
returns-in_err-send g c =
    let p = err_from_is_err_and c.from_residual-in_err-send.result c.from_residual-in_err-send.ensures.1 in
    let resp2 = sym c.protocol.ensures ∙ c.is_resp2.ensures.0 c.if-is_resp2.true in
    rw (p.1, p.2) (in_old resp2 (says_refused _ _ _ (tt {0}) version.RESP2 _
    (rw c.in_err-send.was at c.send.ensures _ c.in_ok-in_resp2.ensures.made)))

pub returns-then-is_resp2 : goal.returns-then-is_resp2
returns-then-is_resp2 g c =
    let resp2 = sym c.protocol.ensures ∙ c.is_resp2.ensures.0 c.if-is_resp2.true in
    in_old resp2 (says_done _ _ _ (tt {0}) version.RESP2
    (rw c.in_ok-send.was at c.send.ensures _ c.in_ok-in_resp2.ensures.made))

pub returns-in_err-send-2 : goal.returns-in_err-send-2
returns-in_err-send-2 g c =
    let p = err_from_is_err_and c.from_residual-in_err-send-2.result c.from_residual-in_err-send-2.ensures.1 in
    rw (p.1, p.2) (in_new
    (λ is. let k : true ≡ false = sym (c.is_resp2.ensures.1 (c.protocol.ensures ∙ is)) ∙ c.if-is_resp2.false in cc) _
    (rw c.in_default.is at c.send-2.ensures _ c.in_ok-hello.ensures.made)
    (says_refused _ _ _ (tt {0}) version.RESP3 _
    (rw c.in_err-send-2.was at c.send-in_default.ensures _ c.in_ok-rest.ensures.made)))

pub returns-in_default : goal.returns-in_default
returns-in_default g c = in_new
    (λ is. let k : true ≡ false = sym (c.is_resp2.ensures.1 (c.protocol.ensures ∙ is)) ∙ c.if-is_resp2.false in cc) _
    (rw c.in_default.is at c.send-2.ensures _ c.in_ok-hello.ensures.made)
    (says_done _ _ _ (tt {0}) version.RESP3
    (rw c.in_ok-send-2.was at c.send-in_default.ensures _ c.in_ok-rest.ensures.made))

pub returns-in_err-send-3 : goal.returns-in_err-send-3
returns-in_err-send-3 g c =
    let p = err_from_is_err_and c.from_residual-in_err-send-3.result c.from_residual-in_err-send-3.ensures.1 in
    let instead = c.falls_back.ensures.0 c.if-falls_back.true in
    rw (p.1, p.2) (fell_back _ c.in-Err.error (rw c.in-Err.is at c.send-2.ensures _ c.in_ok-hello.ensures.made)
    (sym c.protocol-2.ensures ∙ instead.0, instead.1)
    (says_refused _ _ _ (tt {0}) version.RESP2 _
    (rw c.in_err-send-3.was at c.send-then-falls_back.ensures _ c.in_ok-in_resp2.ensures.made)))

pub returns-then-falls_back : goal.returns-then-falls_back
returns-then-falls_back g c =
    let instead = c.falls_back.ensures.0 c.if-falls_back.true in
    fell_back _ c.in-Err.error (rw c.in-Err.is at c.send-2.ensures _ c.in_ok-hello.ensures.made)
    (sym c.protocol-2.ensures ∙ instead.0, instead.1)
    (says_done _ _ _ (tt {0}) version.RESP2
    (rw c.in_ok-send-3.was at c.send-then-falls_back.ensures _ c.in_ok-in_resp2.ensures.made))

pub returns : goal.returns
returns g c = no_hello
    (λ is. let k : true ≡ false = sym (c.is_resp2.ensures.1 (c.protocol.ensures ∙ is)) ∙ c.if-is_resp2.false in cc) _
    (rw c.in-Err.is at c.send-2.ensures _ c.in_ok-hello.ensures.made)
    (λ instead. let k : true ≡ false = sym (c.falls_back.ensures.1 (c.protocol-2.ensures ∙ instead.0, instead.1))
    ∙ c.if-falls_back.false in cc) refl
