use Rattle.std.proofs.Common.{sym, ◌∙◌}
use Rattle.resp_cluster.proofs.Combining.{made_refused}
use Rattle.resp_cluster.proofs.cluster_link.fan_out.combined.Goals as goal

pub returns-clause-refused : goal.returns-clause-refused
returns-clause-refused c =
    made_refused c.args.makes.now c.args.nodes.now c.args.replies.items (sym c.one_is_enough.ensures ∙ c.if-one_is_enough.false)
    _ _ c.in_ok-replies.ensures.passed c.in_ok-replies.ensures.none c.made.ensures.refused
