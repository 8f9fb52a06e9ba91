use Rattle.resp_containers.proofs.Merging.{hashed_more}
use Rattle.resp_containers.proofs.hashed.HashMapFillMap.put.Goals as goal

pub returns-clause-merged : goal.returns-clause-merged
returns-clause-merged g c pairs merged =
    let put = c.in_ok-insert.ensures in
    hashed_more g.K.PartialEq.eq g.met.K.Eq.laws pairs c.args.self.now.entries c.insert.new.self.entries c.args.key
    c.args.value c.in_ok-insert.field-0 put.old put.keys_stay put.entries put.unique put.updates.0 merged
