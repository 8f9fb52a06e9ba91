use Rattle.resp_from.proofs.FlatForms.{element_next}
use Rattle.resp_from.proofs.reply.FlatValueReply.next_of.Goals as goal

pub returns-clause-next : goal.returns-clause-next
returns-clause-next c = λ vs show. element_next c.next.result c.args.elements.now c.next.new.self vs
    c.next.ensures.steps show
