use Rattle.std.proofs.Common.{arith, ◌≡◌, ◌∙◌, ap, length}
use Rattle.std.specs.List.{flat_map}
use Rattle.resp_command.specs.Packed.{bulk}
use Rattle.resp_command.proofs.FramedArgs.{framed-between, longer-front, front-fits}
use Rattle.resp_command.proofs.encoded_args.EncodedArgs.range.Goals as goal

pub part-requires : goal.part-requires
part-requires c =
    let all : c.self.inside.bytes ≡ flat_map bulk c.args.self.now = c.self.invariant.bytes_are
    ∙ ap (flat_map bulk) c.self.view_is in
    let here : c.as_slice.result.now ≡ flat_map bulk c.args.self.now = c.as_slice.ensures ∙ all in
    let low = longer-front c.args.self.now c.args.from c.args.to c.requires.0 in
    let high = front-fits c.args.to c.args.self.now in (
      omega (arith, low, c.start_of-start.ensures.place, c.start_of-end.ensures.place),
      omega (arith, high, c.start_of-end.ensures.place, ap length here),
    )

pub returns : goal.returns
returns c =
    let all : c.self.inside.bytes ≡ flat_map bulk c.args.self.now = c.self.invariant.bytes_are
    ∙ ap (flat_map bulk) c.self.view_is in
    let here : c.as_slice.result.now ≡ flat_map bulk c.args.self.now = c.as_slice.ensures ∙ all in
    c.part.ensures ∙ rw (c.start_of-start.ensures.place, c.start_of-end.ensures.place)
    (framed-between c.as_slice.result.now c.args.self.now c.args.from c.args.to here c.requires.0)
