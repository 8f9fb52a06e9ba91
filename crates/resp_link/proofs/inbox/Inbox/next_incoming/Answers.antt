use Rattle.std.proofs.Common.{rules, refl}
use Rattle.std.proofs.lemmas.Result.{err_from_is_err_and}
use Rattle.resp_command.proofs.Values.{as_push-Push}
use Rattle.resp_link.proofs.Incoming.{found-waits, found-pushes, found-header, found-other}
use Rattle.resp_link.proofs.Receiving.{only_pushes_none, only_pushes_more, received_one, received_none, not_aside}
use Rattle.resp_link.proofs.Receiving.{stands_since}
use Rattle.resp_link.proofs.inbox.Inbox.next_incoming.Goals as goal

pub loop-header-init : goal.loop-header-init
loop-header-init g c = record { rest = c.requires; only = only_pushes_none _ }

pub returns-in_err-header-clause-next : goal.returns-in_err-header-clause-next
returns-in_err-header-clause-next g c =
    let source = g.S.ReplySource.source in
    let at = c.loop-header.self in
    let p = err_from_is_err_and c.from_residual.result c.from_residual.ensures.1 in
    rw (p.1, p.2) (received_none _ (source at.source) _ at.parser c.find_bulk.new.self _ _ _ c.loop-header.invariant.only
    c.find_bulk.ensures.limits (c.in_err-header.ensures.looks at.parser.since
    (stands_since at.parser c.loop-header.invariant.rest)))

pub returns-in-Some-clause-next : goal.returns-in-Some-clause-next
returns-in-Some-clause-next g c =
    let source = g.S.ReplySource.source in
    let at = c.loop-header.self in
    let found = rw c.in-Some.is at (c.in_ok-header.ensures.looks at.parser.since
    (stands_since at.parser c.loop-header.invariant.rest)) in (
      found-pushes _ (source at.source) _ at.parser c.find_bulk.new.self _ _ _ c.loop-header.invariant.only
          c.find_bulk.ensures.limits found,
      found-header (source at.source) _ at.parser c.find_bulk.new.self _ found,
    )

pub returns-in_err-reply-clause-next : goal.returns-in_err-reply-clause-next
returns-in_err-reply-clause-next g c =
    let source = g.S.ReplySource.source in
    let at = c.loop-header.self in
    let mid = c.find_bulk.new.self in
    let found = rw c.in_default.is at (c.in_ok-header.ensures.looks at.parser.since
    (stands_since at.parser c.loop-header.invariant.rest)) in
    let only = found-waits _ (source at.source) (source c.find_bulk.new.source) at.parser mid _ _ _
    c.loop-header.invariant.only c.find_bulk.ensures.limits found in
    let p = err_from_is_err_and c.from_residual-in_err-reply.result c.from_residual-in_err-reply.ensures.1 in
    rw (p.1, p.2) (received_none _ (source c.find_bulk.new.source) _ mid c.parse_from.new.self _ _ _ only
    c.parse_from.ensures.limits (rw c.in_err-reply.was at c.parse_from.ensures.parses mid.since
    (stands_since mid found.rest)))

pub loop-header-preserved : goal.loop-header-preserved
loop-header-preserved g c =
    let source = g.S.ReplySource.source in
    let at = c.loop-header.self in
    let mid = c.find_bulk.new.self in
    let found = rw c.in_default.is at (c.in_ok-header.ensures.looks at.parser.since
    (stands_since at.parser c.loop-header.invariant.rest)) in
    let only = found-waits _ (source at.source) (source c.find_bulk.new.source) at.parser mid _ _ _
    c.loop-header.invariant.only c.find_bulk.ensures.limits found in
    let parsed = rw c.in_ok-reply.was at c.parse_from.ensures.parses mid.since (stands_since mid found.rest) in
    record {
      rest = parsed.rest;
      only = only_pushes_more _ (source c.find_bulk.new.source) _ mid c.parse_from.new.self _ _ _ _ c.in_ok-reply.reply
          only c.parse_from.ensures.limits parsed
          (record { kind = c.in-Push.kind; payload = c.in-Push.payload }) (rw c.in-Push.is (as_push-Push _ _))
          (rw (c.in_ok-set_aside-in-Push.was, c.value_len-size.ensures.size, c.limits.ensures.limits) at
          c.set_aside.ensures.aside);
    }

pub returns-in_err-set_aside-in-Push-clause-next : goal.returns-in_err-set_aside-in-Push-clause-next
returns-in_err-set_aside-in-Push-clause-next g c =
    let source = g.S.ReplySource.source in
    let at = c.loop-header.self in
    let mid = c.find_bulk.new.self in
    let found = rw c.in_default.is at (c.in_ok-header.ensures.looks at.parser.since
    (stands_since at.parser c.loop-header.invariant.rest)) in
    let only = found-waits _ (source at.source) (source c.find_bulk.new.source) at.parser mid _ _ _
    c.loop-header.invariant.only c.find_bulk.ensures.limits found in
    let p = err_from_is_err_and c.from_residual-in_err-set_aside-in-Push.result
    c.from_residual-in_err-set_aside-in-Push.ensures.1 in
    let parsed = rw c.in_ok-reply.was at c.parse_from.ensures.parses mid.since (stands_since mid found.rest) in
    rw (p.1, p.2, c.in_err-set_aside-in-Push.ensures.listed, c.in_err-set_aside-in-Push.ensures.counted)
    (not_aside _ (source c.find_bulk.new.source) _
    mid c.parse_from.new.self _ _ c.in_ok-reply.reply
    (record { kind = c.in-Push.kind; payload = c.in-Push.payload })
    only c.parse_from.ensures.limits parsed (rw c.in-Push.is (as_push-Push _ _)) _
    (rw (c.in_err-set_aside-in-Push.was, c.value_len-size.ensures.size, c.limits.ensures.limits) at
    c.set_aside.ensures.aside))

pub returns-in_default-2 : goal.returns-in_default-2
returns-in_default-2 g c =
    let source = g.S.ReplySource.source in
    let at = c.loop-header.self in
    let mid = c.find_bulk.new.self in
    let found = rw c.in_default.is at (c.in_ok-header.ensures.looks at.parser.since
    (stands_since at.parser c.loop-header.invariant.rest)) in
    let only = found-waits _ (source at.source) (source c.find_bulk.new.source) at.parser mid _ _ _
    c.loop-header.invariant.only c.find_bulk.ensures.limits found in
    let parsed = rw c.in_ok-reply.was at c.parse_from.ensures.parses mid.since (stands_since mid found.rest) in
    record {
      next = (
        received_one _ (source c.find_bulk.new.source) _ mid c.parse_from.new.self _ _ _ _ c.in_ok-reply.reply
            only c.parse_from.ensures.limits parsed (search rules) refl refl,
        found-other (source at.source) _ _ at.parser mid c.parse_from.new.self c.in_ok-reply.reply found
            c.parse_from.ensures.limits parsed,
      );
      rest = parsed.rest;
    }
