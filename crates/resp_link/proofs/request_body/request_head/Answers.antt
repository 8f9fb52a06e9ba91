use Rattle.std.proofs.Common.{◌≡◌, ◌-◌, ◌++◌, ◌∷◌, [], ap, ◌∙◌, length, rules}
use Rattle.resp_command.specs.Packed.{packed_or_none}
use Rattle.resp_command.specs.Command.{Command}
use Rattle.resp_link.proofs.RequestsWithBodies.{head-written}
use Rattle.resp_link.proofs.request_body.request_head.Goals as goal

pub returns-clause-head : goal.returns-clause-head
returns-clause-head c =
    let args : c.write_arg.new.self.args ≡ c.args.cmd.now.args ++ [] ∷ [] = c.in_ok-write_arg.ensures.ok
    ∙ ap (λ (w : Command). w.args ++ [] ∷ []) c.in_ok-whole.ensures in
    let e : c.in_ok-head.head.items ≡ packed_or_none (c.args.cmd.now.args ++ [] ∷ []) = c.in_ok-head.ensures.packed
    ∙ ap packed_or_none args in
    let size : c.len.result ≡ length c.in_ok-head.head.items = search rules in
    head-written c.args.cmd.now.args c.args.len _ _ _ _ _ _ _ e (ap (λ n. n - 6) size)
    c.truncate.ensures.items c.in_ok-push.ensures.items (c.as_bytes.ensures.value ∙ c.format.ensures.text)
    c.in_ok-extend_from_slice.ensures.items c.in_ok-extend_from_slice-2.ensures.items
