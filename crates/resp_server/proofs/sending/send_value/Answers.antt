use Rattle.std.proofs.Common.{rules}
use Rattle.resp_encode.specs.Encodings.{encoding_in}
use Rattle.resp_server.proofs.Sent.{sent, failed}
use Rattle.resp_server.proofs.sending.send_value.Goals as goal

pub returns-in_err-send_all : goal.returns-in_err-send_all
returns-in_err-send_all g c =
    let sink = g.K.CommandSink.sink in
    let bytes = encoding_in c.args.protocol 100 c.args.value.now in
    record {
      sends = failed bytes c.encode.new.out.items (sink c.args.sink.now) (sink c.send_all.new.sink)
          c.in_err-send_all.field-0.0 _ (search rules) (search rules) c.from_residual-in_err-send_all.ensures;
    }

pub returns : goal.returns
returns g c =
    let sink = g.K.CommandSink.sink in
    let bytes = encoding_in c.args.protocol 100 c.args.value.now in
    record {
      sends = sent bytes c.encode.new.out.items (sink c.args.sink.now) (sink c.send_all.new.sink)
          c.in_ok-send_all.field-0 (search rules) (search rules);
    }
