use Rattle.std.proofs.Common.{◌-◌, length}
use Rattle.resp_link.proofs.SentSoFar.{SentSoFar}
use Rattle.resp_link.proofs.pieces.send_piece.Given as goal

abbrev pub invariant-loop-done : goal.invariant-loop-done
invariant-loop-done g l =
    let sink = g.K.CommandSink.sink in
    SentSoFar (sink l.initial.sink) (sink l.sink) l.bytes l.done

abbrev pub decreases-loop-done : goal.decreases-loop-done
decreases-loop-done g l = length l.bytes - l.done
