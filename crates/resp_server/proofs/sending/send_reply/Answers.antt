use Rattle.std.proofs.Common.{rules}
use Rattle.resp_encode.specs.Encodings.{encoding_in}
use Rattle.resp_server.proofs.Sent.{sent, failed, not_sent}
use Rattle.resp_server.proofs.sending.send_reply.Goals as goal

pub returns-in_err-encode_reply : goal.returns-in_err-encode_reply
returns-in_err-encode_reply g c = record {
  sends = λ v flat readable. not_sent (encoding_in c.args.protocol 100 v) _ c.in_err-encode_reply.field-0.0 _
      c.from_residual.ensures.1 (c.in_err-encode_reply.ensures.refused v flat readable);
}

pub returns-in_err-send_all : goal.returns-in_err-send_all
returns-in_err-send_all g c =
    let sink = g.K.CommandSink.sink in
    record {
      sends = λ v flat readable. failed (encoding_in c.args.protocol 100 v) c.encode_reply.new.out.items
          (sink c.args.sink.now) (sink c.send_all.new.sink) c.in_err-send_all.field-0.0 _
          (rw (c.new-bytes.ensures.items) at c.in_ok-encode_reply.ensures.appended v flat readable) (search rules)
          c.from_residual-in_err-send_all.ensures;
    }

pub returns : goal.returns
returns g c =
    let sink = g.K.CommandSink.sink in
    record {
      sends = λ v flat readable. sent (encoding_in c.args.protocol 100 v) c.encode_reply.new.out.items
          (sink c.args.sink.now) (sink c.send_all.new.sink) c.in_ok-send_all.field-0
          (rw (c.new-bytes.ensures.items) at c.in_ok-encode_reply.ensures.appended v flat readable) (search rules);
    }
