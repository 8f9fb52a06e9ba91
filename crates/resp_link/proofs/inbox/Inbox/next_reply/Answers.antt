use Rattle.std.proofs.Common.{rules, refl}
use Rattle.std.proofs.lemmas.Result.{err_from_is_err_and}
use Rattle.resp_command.proofs.Values.{as_push-Push}
use Rattle.resp_link.proofs.Receiving.{only_pushes_none, only_pushes_more, received_one, received_none, not_aside}
use Rattle.resp_link.proofs.Receiving.{stands_since}
use Rattle.resp_link.proofs.inbox.Inbox.next_reply.Goals as goal

pub loop-value-init : goal.loop-value-init
loop-value-init g c = record { rest = c.requires; only = only_pushes_none _ }

pub returns-in-Err-clause-reply : goal.returns-in-Err-clause-reply
returns-in-Err-clause-reply g c =
    let source = g.S.ReplySource.source in
    let at = c.loop-value.self in
    received_none _ (source at.source) _ at.parser c.parse_from.new.self _ _ _ c.loop-value.invariant.only
    c.in-Err.ensures.limits (c.in-Err.ensures.parses at.parser.since
    (stands_since at.parser c.loop-value.invariant.rest))

pub returns-in_err-set_aside-in-Push-clause-reply : goal.returns-in_err-set_aside-in-Push-clause-reply
returns-in_err-set_aside-in-Push-clause-reply g c =
    let source = g.S.ReplySource.source in
    let at = c.loop-value.self in
    let p = err_from_is_err_and c.from_residual.result c.from_residual.ensures.1 in
    let parsed = c.in-Ok.ensures.parses at.parser.since (stands_since at.parser c.loop-value.invariant.rest) in
    rw (p.1, p.2, c.in_err-set_aside-in-Push.ensures.listed, c.in_err-set_aside-in-Push.ensures.counted)
    (not_aside _ (source at.source) _
    at.parser c.parse_from.new.self _ _ c.in-Ok.value
    (record { kind = c.in-Push.kind; payload = c.in-Push.payload })
    c.loop-value.invariant.only c.parse_from.ensures.limits parsed (rw c.in-Push.is (as_push-Push _ _)) _
    (rw (c.in_err-set_aside-in-Push.was, c.value_len-size.ensures.size, c.limits.ensures.limits) at
    c.set_aside.ensures.aside))

pub loop-value-preserved : goal.loop-value-preserved
loop-value-preserved g c =
    let source = g.S.ReplySource.source in
    let at = c.loop-value.self in
    let parsed = c.in-Ok.ensures.parses at.parser.since (stands_since at.parser c.loop-value.invariant.rest) in
    record {
      rest = parsed.rest;
      only = only_pushes_more _ (source at.source) _ at.parser c.parse_from.new.self _ _ _ _ c.in-Ok.value
          c.loop-value.invariant.only c.parse_from.ensures.limits parsed
          (record { kind = c.in-Push.kind; payload = c.in-Push.payload }) (rw c.in-Push.is (as_push-Push _ _))
          (rw (c.in_ok-set_aside-in-Push.was, c.value_len-size.ensures.size, c.limits.ensures.limits) at
          c.set_aside.ensures.aside);
    }

pub returns-in_default : goal.returns-in_default
returns-in_default g c =
    let source = g.S.ReplySource.source in
    let at = c.loop-value.self in
    let parsed = c.in-Ok.ensures.parses at.parser.since (stands_since at.parser c.loop-value.invariant.rest) in
    record {
      reply = received_one _ (source at.source) _ at.parser c.parse_from.new.self _ _ _ _ c.in-Ok.value
          c.loop-value.invariant.only c.parse_from.ensures.limits parsed (search rules) refl refl;
      rest = parsed.rest;
    }
