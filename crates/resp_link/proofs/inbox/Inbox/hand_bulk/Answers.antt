use Rattle.std.proofs.Common.{◌≤◌, ◌<◌, ◌+◌, ap, sym, subst, refl, arith}
use Rattle.std.proofs.lemmas.Result.{err_from_is_err_and}
use Rattle.resp_parse.specs.declared.limits.Limits.{Limits}
use Rattle.resp_parse.specs.BulkBodies.{OpensBulk}
use Rattle.resp_parse.specs.Limits.{AreLimits}
use Rattle.resp_parse.proofs.ParserStates.{IsBetweenValues-same}
use Rattle.resp_link.specs.LinkStates.{inflow_at}
use Rattle.resp_link.proofs.BulkReadings.{body-lacks, body-lacks_lf}
use Rattle.resp_link.proofs.StreamedReplies.{stops-too_long, stops-body, stops-at_cr, ends-bulk}
use Rattle.resp_link.proofs.TakenParts.{front-left}
use Rattle.resp_link.proofs.inbox.Inbox.hand_bulk.Goals as goal
use Rattle.resp_link.proofs.inbox.Inbox.hand_bulk.Goals.{then-room-lt2-via-then-room-lt2}
use Rattle.resp_link.proofs.inbox.Inbox.hand_bulk.Goals.{then-room-lt2-via-else-room-lt2+then-room-body_len}

pub returns-then-room-lt2-clause-hands : goal.returns-then-room-lt2-clause-hands
returns-then-room-lt2-clause-hands g c =
    let at = c.args.self.now in
    let h = c.args.header.now in
    let opens = subst (λ b. OpensBulk b h) (sym (IsBetweenValues-same at.parser c.requires.rest)) c.requires.opens in
    let are = subst AreLimits c.limits.ensures.limits c.limits.ensures.valid in
    let bytes = ap (λ (l : Limits). l.bytes) c.limits.ensures.limits in
    let passes : at.parser.limits.bytes < h.header_len + h.body_len + 2 = elim c.then-room-lt2.branch [
      | then-room-lt2-via-then-room-lt2 w ↦ omega (arith, bytes, c.saturating_sub-room.ensures, w.if-room-lt2.true)
      | then-room-lt2-via-else-room-lt2+then-room-body_len w ↦
          omega (arith, bytes, c.saturating_sub-room.ensures, w.if-room-body_len.true)
    ] in
    rw c.too_long.ensures
    (stops-too_long (inflow_at g.S.ReplySource.source at) _ _ (g.K.CommandSink.sink c.args.sink.now) h are opens refl
    passes)

pub returns-in_err-hand_body-clause-hands : goal.returns-in_err-hand_body-clause-hands
returns-in_err-hand_body-clause-hands g c =
    let at = c.args.self.now in
    let h = c.args.header.now in
    let opens = subst (λ b. OpensBulk b h) (sym (IsBetweenValues-same at.parser c.requires.rest)) c.requires.opens in
    let are = subst AreLimits c.limits.ensures.limits c.limits.ensures.valid in
    let bytes = ap (λ (l : Limits). l.bytes) c.limits.ensures.limits in
    let fits : h.header_len + h.body_len + 2 ≤ at.parser.limits.bytes = omega
    (arith, bytes, c.saturating_sub-room.ensures, c.if-room-lt2.false, c.if-room-body_len.false) in
    let mid_is = front-left _ at.parser c.skip.new.self _ _ h.header_len c.requires.rest c.skip.ensures.rest
    c.skip.ensures.limits c.skip.ensures.unparsed in
    let p = err_from_is_err_and c.from_residual.result c.from_residual.ensures.1 in
    rw (p.1, p.2) (stops-body _ _ _ _ h are opens mid_is fits _ _ c.in_err-hand_body.ensures.hands)

pub returns-in_err-take_byte-clause-hands : goal.returns-in_err-take_byte-clause-hands
returns-in_err-take_byte-clause-hands g c =
    let at = c.args.self.now in
    let h = c.args.header.now in
    let opens = subst (λ b. OpensBulk b h) (sym (IsBetweenValues-same at.parser c.requires.rest)) c.requires.opens in
    let are = subst AreLimits c.limits.ensures.limits c.limits.ensures.valid in
    let bytes = ap (λ (l : Limits). l.bytes) c.limits.ensures.limits in
    let fits : h.header_len + h.body_len + 2 ≤ at.parser.limits.bytes = omega
    (arith, bytes, c.saturating_sub-room.ensures, c.if-room-lt2.false, c.if-room-body_len.false) in
    let body = c.in_ok-hand_body.ensures.hands in
    let lacks = body-lacks h.body_len body.body (omega (arith, body.size)) in
    let mid_is = front-left _ at.parser c.skip.new.self _ _ h.header_len c.requires.rest c.skip.ensures.rest
    c.skip.ensures.limits c.skip.ensures.unparsed in
    let p = err_from_is_err_and c.from_residual-in_err-take_byte.result c.from_residual-in_err-take_byte.ensures.1 in
    rw (p.1, p.2) (stops-at_cr _ _ _ _ h are opens mid_is fits _ _ body.body body.size body.takes body.failures
    (c.in_err-take_byte.ensures.taken h.body_len _ body.body body.took lacks))

pub returns-clause-hands : goal.returns-clause-hands
returns-clause-hands g c =
    let at = c.args.self.now in
    let h = c.args.header.now in
    let opens = subst (λ b. OpensBulk b h) (sym (IsBetweenValues-same at.parser c.requires.rest)) c.requires.opens in
    let are = subst AreLimits c.limits.ensures.limits c.limits.ensures.valid in
    let bytes = ap (λ (l : Limits). l.bytes) c.limits.ensures.limits in
    let fits : h.header_len + h.body_len + 2 ≤ at.parser.limits.bytes = omega
    (arith, bytes, c.saturating_sub-room.ensures, c.if-room-lt2.false, c.if-room-body_len.false) in
    let body = c.in_ok-hand_body.ensures.hands in
    let lacks = body-lacks h.body_len body.body (omega (arith, body.size)) in
    let mid_is = front-left _ at.parser c.skip.new.self _ _ h.header_len c.requires.rest c.skip.ensures.rest
    c.skip.ensures.limits c.skip.ensures.unparsed in
    let cr = c.in_ok-take_byte.ensures.taken h.body_len _ body.body body.took lacks in
    ends-bulk _ _ _ _ h are opens mid_is fits _ _ body.body body.size body.takes body.failures
    (c.take_byte-2.ensures.taken h.body_len _ _ cr (body-lacks_lf h.body_len body.body body.size))
