use Rattle.resp_from.proofs.flat_reply.from_flat_reply.Goals as goal

pub returns-in-None-clause-first : goal.returns-in-None-clause-first
returns-in-None-clause-first g c = λ v shows readable. absurd (c.in-None.ensures.first v shows)
