use Rattle.resp_from.proofs.FlatForms.{list_shown}
use Rattle.resp_from.proofs.Levels.{elements_readable}
use Rattle.resp_from.proofs.reply.FlatValueReply.into_elements.Goals as goal

pub returns-in-Array : goal.returns-in-Array
returns-in-Array c = record {
  shown = λ v shows.
      let is = list_shown v c.kind.result (c.kind.ensures.shown v shows.0) c.in-Array.is in
      (is, (c.elements.ensures.shown v shows.0, elements_readable v is shows.1));
}
