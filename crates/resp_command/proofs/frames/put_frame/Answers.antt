use Rattle.std.proofs.Common.{◌≡◌, ◌+◌, ◌++◌, ℕ, List, length, drop, append_assoc, length-append, subst, arith}
use Rattle.resp_parse.specs.Lines.{crlf}
use Rattle.resp_command.specs.Packed.{length_line}
use Rattle.resp_command.proofs.FramesInPlace.{as_long, written_on}
use Rattle.resp_command.proofs.frames.put_frame.Goals as goal

pub put-requires : goal.put-requires
put-requires c =
    let line : List ℕ = length_line 36 (length c.args.arg.now) in
    let long = as_long c.args.free.now c.put_line-from.new.free line c.put_line-from.ensures.items
    (omega (arith, c.put_line-from.ensures.size, c.put_line-from.ensures.few, c.requires.room)) in
    omega (arith, long, c.put_line-from.ensures.few, c.requires.room)

pub put-requires-2 : goal.put-requires-2
put-requires-2 c =
    let arg : List ℕ = c.args.arg.now in
    let line : List ℕ = length_line 36 (length arg) in
    let one = written_on c.args.free.now c.put_line-from.new.free c.put.new.free line arg c.put_line-from.result
    c.put_line-from.ensures.size c.put_line-from.ensures.items c.put.ensures in
    let long = as_long c.args.free.now c.put.new.free (line ++ arg) one (omega (
      arith,
      length-append line arg,
      c.put_line-from.ensures.size,
      c.put_line-from.ensures.few,
      c.requires.room,
    )) in
    omega (arith, long, c.put_line-from.ensures.few, c.requires.room)

pub returns-clause-items : goal.returns-clause-items
returns-clause-items c =
    let arg : List ℕ = c.args.arg.now in
    let line : List ℕ = length_line 36 (length arg) in
    let one = written_on c.args.free.now c.put_line-from.new.free c.put.new.free line arg c.put_line-from.result
    c.put_line-from.ensures.size c.put_line-from.ensures.items c.put.ensures in
    let to : c.put_line-from.result + length arg ≡ length (line ++ arg) = omega
    (arith, c.put_line-from.ensures.size, length-append line arg) in
    let two = written_on c.args.free.now c.put.new.free c.put-2.new.free (line ++ arg) crlf _ to one c.put-2.ensures in
    subst (λ (l : List ℕ). c.put-2.new.free ≡ l ++ drop (length l) c.args.free.now) (append_assoc line arg crlf) two
