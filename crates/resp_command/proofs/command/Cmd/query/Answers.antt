use Rattle.std.proofs.Common.{Ok, Err, sym, subst}
use Rattle.resp_from.specs.Conversion.{ConvertsCall}
use Rattle.resp_command.proofs.Queries.{command_refused, command_answered, harmless_answered, refused_call}
use Rattle.resp_command.proofs.command.Cmd.query.Goals as goal

pub returns-in-Err : goal.returns-in-Err
returns-in-Err g c = command_refused _ _ _ _ _ _ c.in-Err.is c.req_command.ensures

pub returns-then-may_hold_error : goal.returns-then-may_hold_error
returns-then-may_hold_error g c = command_answered _ _ _ _ _ _ _ c.in-Ok.is c.answer.ensures c.req_command.ensures

pub returns-in-Err-from_redis_value : goal.returns-in-Err-from_redis_value
returns-in-Err-from_redis_value g c =
    let Of = g.T.FromRedisValue.of_value in
    command_answered _ _ _ _ _ _ _ c.in-Ok.is (harmless_answered Of c.in-Ok.reply (Err c.from.result)
    (c.may_hold_error.ensures c.if-may_hold_error.false)
    (subst (λ e. ConvertsCall (Of c.in-Ok.reply) (Err e)) (sym c.from.ensures)
    (refused_call _ c.in-Err-from_redis_value.error c.in-Err-from_redis_value.ensures.converts)))
    c.req_command.ensures

pub returns : goal.returns
returns g c = command_answered _ _ _ _ _ _ _ c.in-Ok.is (harmless_answered g.T.FromRedisValue.of_value c.in-Ok.reply
    (Ok c.in-Ok-from_redis_value.value) (c.may_hold_error.ensures c.if-may_hold_error.false)
    c.in-Ok-from_redis_value.ensures.converts) c.req_command.ensures
