use Rattle.std.proofs.Common.{Some, ap, ◌∙◌}
use Rattle.resp_types.proofs.Roles.{by_items, items_found}
use Rattle.resp_types.proofs.role.RoleFromRedisValue.from_redis_value.Goals as goal

pub returns-in-Some-clause-converts : goal.returns-in-Some-clause-converts
returns-in-Some-clause-converts c =
    let found = items_found _ c.items_of.result c.in_ok-items.items c.items_of.ensures c.in_ok-items.was in
    by_items c.args.value _ c.role_of.result (found ∙ ap Some c.in-Some.ensures.items) c.role_of.ensures.converts
