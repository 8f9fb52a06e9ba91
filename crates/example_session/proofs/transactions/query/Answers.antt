use Rattle.example_session.proofs.transactions.query.Goals as goal

pub returns-in-Ok : goal.returns-in-Ok
returns-in-Ok g c = rw c.outcome_of.ensures (rw c.in-Ok.is at c.query-answer.ensures)
