use Rattle.resp_cluster.proofs.cluster_link.ClusterLink.link_to.Goals as goal

pub returns-clause-reached : goal.returns-clause-reached
returns-clause-reached g c = rw (← c.self.view_is) (record {
  links = c.reach.new.self;
  reaches = rw c.in_ok-reach.was at c.reach.ensures;
  is_last = c.last_mut.ensures;
})
