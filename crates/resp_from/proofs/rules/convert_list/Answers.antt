use Rattle.std.proofs.Common.{◌≡◌, false, rules}
use Rattle.resp_from.specs.Rules.{is_one_each}
use Rattle.resp_from.proofs.Groups.{OfList-groups, is_one_each-false}
use Rattle.resp_from.proofs.rules.convert_list.Goals as goal

pub returns-else-one_each : goal.returns-else-one_each
returns-else-one_each g c =
    let groups : is_one_each c.args.width c.args.replies.items ≡ false = search rules in
    record {
      converts = OfList-groups c.args.width g.T.FromRedisValue.of_value
          (is_one_each-false c.args.width c.args.replies.items groups) c.args.replies.items c.convert_groups.result
          groups
          c.convert_groups.ensures.converts;
    }
