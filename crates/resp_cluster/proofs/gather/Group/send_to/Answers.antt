use Rattle.resp_cluster.proofs.Grouping.{sent_group}
use Rattle.resp_cluster.proofs.gather.Group.send_to.Goals as goal

pub returns-clause-sent : goal.returns-clause-sent
returns-clause-sent g c commands is = sent_group _ commands _ _ _ c.args.self.now _ is c.if-self-eq0.false
    (rw (← c.as_slice.ensures.value) c.send_group.ensures.sent) c.send_group.ensures.counted
