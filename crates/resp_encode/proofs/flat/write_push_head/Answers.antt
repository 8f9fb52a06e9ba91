use Rattle.resp_encode.proofs.AppendedTexts.{appends_nothing}
use Rattle.resp_encode.proofs.flat.write_push_head.Goals as goal

pub returns-in-None : goal.returns-in-None
returns-in-None c = rw (c.in-None.is) (appends_nothing _)
