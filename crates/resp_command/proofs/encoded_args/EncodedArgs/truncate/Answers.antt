use Rattle.std.proofs.Common.{ap, sym, ◌∙◌, take, length}
use Rattle.std.specs.List.{flat_map}
use Rattle.resp_args.specs.Args.{Args}
use Rattle.resp_command.specs.Packed.{bulk}
use Rattle.resp_command.specs.EncodedArgs.{args_at}
use Rattle.resp_command.proofs.FramedArgs.{truncated, Holds}
use Rattle.resp_command.proofs.encoded_args.EncodedArgs.truncate.Goals as goal

held : (c : goal.After-truncate-then-len) → Holds c.truncate.new.self c.truncate-then-len.new.self.items
    (take c.args.len (args_at c.self.inside.bytes c.self.inside.spans.items))
held c =
    let end = c.start_of-end.ensures.place ∙ ap (λ (args : Args). length (flat_map bulk (take c.args.len args)))
    (sym c.self.view_is) in
    let cut = c.truncate.ensures ∙ ap (λ n. take n c.self.inside.bytes) end in
    truncated c.self.inside.bytes _ c.self.inside.spans.items _ c.args.len c.self.invariant cut
    c.truncate-then-len.ensures.items

pub invariant_of-self : goal.invariant_of-self
invariant_of-self c = (held c).framed

pub returns-then-len : goal.returns-then-len
returns-then-len c = (held c).view ∙ ap (take c.args.len) c.self.view_is
