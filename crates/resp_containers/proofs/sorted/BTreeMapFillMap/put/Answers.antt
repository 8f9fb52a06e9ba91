use Rattle.resp_containers.proofs.Merging.{sorted_more}
use Rattle.resp_containers.proofs.sorted.BTreeMapFillMap.put.Goals as goal

pub returns-clause-merged : goal.returns-clause-merged
returns-clause-merged g c pairs merged =
    let put = c.in_ok-insert.ensures in
    sorted_more g.K.Ord.cmp g.met.K.Ord.total pairs c.args.self.now.entries c.insert.new.self.entries c.args.key
    c.args.value c.in_ok-insert.field-0 put.old put.keys_stay put.entries put.ordered put.updates.0 merged
