use Rattle.std.proofs.Common.{arith, ◌≡◌, ◌∙◌, ◌+◌, ◌-◌, List, slice_index_or, ap, length, take}
use Rattle.std.specs.List.{flat_map}
use Rattle.resp_command.specs.Packed.{bulk}
use Rattle.resp_command.specs.EncodedArgs.{args_at}
use Rattle.resp_command.specs.declared.encoded_args.Span.{Span}
use Rattle.resp_command.proofs.FramedArgs.{starts, start-fits, counted}
use Rattle.resp_command.proofs.encoded_args.EncodedArgs.start_of.Goals as goal

ends : (c : goal.After-deref) → (slice_index_or c.deref.result.now (c.args.index - 1) (record { from = 0; to = 0 })).to
    + 2 ≡ length (flat_map bulk (take c.args.index (args_at c.self.inside.bytes c.self.inside.spans.items)))
ends c =
    let many = counted _ _ c.self.invariant in
    ap (λ (spans : List Span). (slice_index_or spans (c.args.index - 1) (record { from = 0; to = 0 })).to + 2)
    c.deref.ensures
    ∙ starts _ _ c.self.invariant c.args.index (record { from = 0; to = 0 }) (omega arith)
    (omega (arith, c.requires, many, ap length c.self.view_is))

pub overflow_add-result : goal.overflow_add-result
overflow_add-result c =
    let room = start-fits _ _ c.self.invariant c.args.index in
    record { fits = omega (arith, ends c, room) }

pub returns-else-index-eq0-clause-place : goal.returns-else-index-eq0-clause-place
returns-else-index-eq0-clause-place c = rw (← c.self.view_is) (ends c)

pub returns-else-index-eq0-clause-bounded : goal.returns-else-index-eq0-clause-bounded
returns-else-index-eq0-clause-bounded c =
    let room = start-fits _ _ c.self.invariant c.args.index in
    omega (arith, ends c, room, c.len-size.ensures.len, c.len-size.ensures.bounded)
