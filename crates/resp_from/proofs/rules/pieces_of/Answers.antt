use Rattle.std.proofs.Common.{◌≡◌, false, rules}
use Rattle.resp_from.specs.Rules.{is_one_each}
use Rattle.resp_from.proofs.Groups.{ArePieces-groups}
use Rattle.resp_from.proofs.rules.pieces_of.Goals as goal

pub returns : goal.returns
returns c =
    let groups : is_one_each c.args.width c.args.replies.items ≡ false = search rules in
    record {
      converts = ArePieces-groups c.args.width c.args.replies.items c.groups_of.result groups
          c.groups_of.ensures.converts;
    }
