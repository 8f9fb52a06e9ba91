use Rattle.resp_from.proofs.FlatForms.{pair_next_of}
use Rattle.resp_from.proofs.reply.FlatValueReply.next_pair_of.Goals as goal

pub returns-clause-next : goal.returns-clause-next
returns-clause-next c = λ ps show. pair_next_of c.next.result c.args.pairs.now c.next.new.self ps c.next.ensures.steps
    show
