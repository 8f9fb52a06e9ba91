use Rattle.std.proofs.Common.{◌<◌, length}
use Rattle.resp_link.proofs.RequestsWithBodies.{SentSome}
use Rattle.resp_link.proofs.request_body.send_body.Given as goal

abbrev pub invariant-loop-missing : goal.invariant-loop-missing
invariant-loop-missing g l =
    let source = g.B.ReplySource.source in
    let sink = g.K.CommandSink.sink in
    record {
      chunk : 0 < length l.chunk;
      so_far : SentSome l.len (sink l.initial.sink) (sink l.sink) (source l.initial.body) (source l.body) l.missing;
    }

abbrev pub decreases-loop-missing : goal.decreases-loop-missing
decreases-loop-missing g l = l.missing
