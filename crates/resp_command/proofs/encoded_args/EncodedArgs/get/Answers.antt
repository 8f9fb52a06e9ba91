use Rattle.std.proofs.Common.{rules}
use Rattle.resp_command.proofs.FramedArgs.{span-within}
use Rattle.resp_command.proofs.encoded_args.EncodedArgs.get.Goals as goal

pub part-requires : goal.part-requires
part-requires c =
    let h = span-within c.self.inside.bytes c.self.inside.spans.items c.args.index (record { from = 0; to = 0 })
    c.self.invariant (search rules) in
    rw (c.as_slice.ensures, c.deref.ensures) h
