use Rattle.std.proofs.Common.{◌≡◌, ◌++◌, ◌∷◌, [], ◌+◌, ◌-◌, length, ap, ◌∙◌, rules, arith, length-append}
use Rattle.resp_command.specs.Packed.{bulk}
use Rattle.resp_command.specs.EncodedArgs.{args_at}
use Rattle.resp_command.proofs.FramedArgs.{pushed, length-bulk, Holds}
use Rattle.resp_command.proofs.encoded_args.EncodedArgs.push.Goals as goal

held : (c : goal.After-push_reserved) → Holds c.push.new.self c.push_reserved.new.self.items
    (args_at c.self.inside.bytes c.self.inside.spans.items ++ c.args.arg.now ∷ [])
held c =
    let a = c.args.arg.now in
    let e : c.push.new.self ≡ c.self.inside.bytes ++ bulk a = search rules in
    let p : c.push_reserved.new.self.items ≡ c.self.inside.spans.items
    ++ (record { from = c.in_ok-to.to - length a; to = c.in_ok-to.to }) ∷ [] = search rules in
    let n : c.in_ok-to.to + 2 ≡ length c.push.new.self = search rules in
    pushed c.self.inside.bytes _ a c.self.inside.spans.items _ (c.in_ok-to.to - length a) c.in_ok-to.to
    c.self.invariant e p n
    (omega (arith, n, ap length e, length-append c.self.inside.bytes (bulk a), length-bulk a))

pub invariant_of-self-2 : goal.invariant_of-self-2
invariant_of-self-2 c = (held c).framed

pub returns : goal.returns
returns c = (held c).view ∙ ap (λ xs. xs ++ c.args.arg.now ∷ []) c.self.view_is
