use Rattle.std.proofs.Common.{subst}
use Rattle.std.proofs.lemmas.Result.{err_from_is_err_and}
use Rattle.resp_parse.specs.BulkBodies.{OpensBulk}
use Rattle.resp_parse.proofs.ParserStates.{IsBetweenValues-same}
use Rattle.resp_link.specs.Streaming.{CannotHandReply}
use Rattle.resp_link.proofs.StreamedReplies.{hands-reply, stops-after}
use Rattle.resp_link.proofs.inbox.Inbox.next_streamed.Goals as goal

pub hand_bulk-requires-clause-opens : goal.hand_bulk-requires-clause-opens
hand_bulk-requires-clause-opens g c =
    let next = rw c.in-Bulk.is at c.in_ok-header.ensures.next in
    subst (λ b. OpensBulk b c.in-Bulk.header)
    (IsBetweenValues-same c.next_incoming.new.self.parser c.in_ok-header.ensures.rest) next.1

pub returns-in_err-hand_bulk-in-Bulk-clause-next : goal.returns-in_err-hand_bulk-in-Bulk-clause-next
returns-in_err-hand_bulk-in-Bulk-clause-next g c =
    let p = err_from_is_err_and c.from_residual-in_err-hand_bulk-in-Bulk.result
    c.from_residual-in_err-hand_bulk-in-Bulk.ensures.1 in
    let next = rw c.in-Bulk.is at c.in_ok-header.ensures.next in
    rw (p.1, p.2) (CannotHandReply.in_body (stops-after _ _ next.0 _ _ _ _
    c.in_err-hand_bulk-in-Bulk.ensures.hands))

pub returns-in_ok-hand_bulk-in-Bulk-clause-next : goal.returns-in_ok-hand_bulk-in-Bulk-clause-next
returns-in_ok-hand_bulk-in-Bulk-clause-next g c =
    let next = rw c.in-Bulk.is at c.in_ok-header.ensures.next in
    hands-reply _ _ next.0 _ _ _ c.in-Bulk.header c.in_ok-hand_bulk-in-Bulk.ensures.hands
