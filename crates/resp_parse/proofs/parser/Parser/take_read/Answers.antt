use Rattle.resp_parse.proofs.parser.Parser.take_read.Goals as goal

pub returns-in-Err-clause-takes : goal.returns-in-Err-clause-takes
returns-in-Err-clause-takes c = λ b h. rw c.refusal.ensures.refusal (c.in-Err.ensures.takes b h).0
