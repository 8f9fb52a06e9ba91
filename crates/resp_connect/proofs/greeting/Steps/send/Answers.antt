use Rattle.std.proofs.Common.{◌≡◌, length, rules}
use Rattle.std.proofs.lemmas.Result.{err_from_is_err_and}
use Rattle.resp_connect.proofs.Greetings.{says_failed, says_answered}
use Rattle.resp_connect.proofs.greeting.Steps.send.Goals as goal

pub returns-in_err-replies : goal.returns-in_err-replies
returns-in_err-replies g c = λ said holds.
    let p = err_from_is_err_and c.from_residual.result c.from_residual.ensures.1 in
    let bytes : c.as_slice.result.now ≡ c.args.self.bytes.items = search rules in
    let count : c.len.result ≡ length c.args.self.steps.items = search rules in
    rw (p.1, p.2) (says_failed (λ vs. vs.items) _ _ _ _ said holds _
    (rw (bytes, count) at c.req_packed_commands.ensures.call) _ _ c.in_err-replies.was)

pub returns : goal.returns
returns g c = λ said holds.
    let bytes : c.as_slice.result.now ≡ c.args.self.bytes.items = search rules in
    let count : c.len.result ≡ length c.args.self.steps.items = search rules in
    let steps : c.as_slice-2.result.now ≡ c.args.self.steps.items = search rules in
    rw (c.accept.ensures, steps) (says_answered (λ vs. vs.items) _ _ _ _ said holds _
    (rw (bytes, count) at c.req_packed_commands.ensures.call) _ _ c.in_ok-replies.was)
