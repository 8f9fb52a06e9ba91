use Rattle.std.proofs.lemmas.Result.{err_from_is_err_and}
use Rattle.resp_link.proofs.Receiving.{stands_since}
use Rattle.resp_link.proofs.ReadsMessages.{came_value, came_none}
use Rattle.resp_link.proofs.inbox.Inbox.next_message.Goals as goal

pub returns-in_err-parse_from-clause-message : goal.returns-in_err-parse_from-clause-message
returns-in_err-parse_from-clause-message g c sink =
    let source = g.S.ReplySource.source in
    let at = c.args.self.now in
    let p = err_from_is_err_and c.from_residual.result c.from_residual.ensures.1 in
    rw (p.1, p.2) (came_none (source at.source) _ at.parser c.parse_from.new.self _ _ sink c.parse_from.ensures.limits _
    (rw c.in_err-parse_from.was at c.parse_from.ensures.parses at.parser.since (stands_since at.parser c.requires)))

pub returns-clause-message : goal.returns-clause-message
returns-clause-message g c sink =
    let source = g.S.ReplySource.source in
    let at = c.args.self.now in
    came_value (source at.source) _ at.parser c.parse_from.new.self _ _ sink c.parse_from.ensures.limits _ _
    (rw c.in_ok-parse_from.was at c.parse_from.ensures.parses at.parser.since (stands_since at.parser c.requires))
    c.message_of.ensures.message c.message_of.ensures.error
