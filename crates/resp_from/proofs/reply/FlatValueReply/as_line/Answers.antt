use Rattle.resp_from.proofs.FlatForms.{line_shown}
use Rattle.resp_from.proofs.reply.FlatValueReply.as_line.Goals as goal

pub returns-in-SimpleString : goal.returns-in-SimpleString
returns-in-SimpleString c = record {
  shown = λ v shows. line_shown v c.as_bytes.result c.kind.result shows.1 (c.kind.ensures.shown v shows.0)
      c.in-SimpleString.is (c.as_bytes.ensures.shown v shows.0);
}
