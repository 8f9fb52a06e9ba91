use Rattle.resp_containers.proofs.Merging.{sorted_member}
use Rattle.resp_containers.proofs.sorted.BTreeSetFillSet.put.Goals as goal

pub returns-clause-deduplicated : goal.returns-clause-deduplicated
returns-clause-deduplicated g c items merged =
    let put = c.in_ok-insert.ensures in
    sorted_member g.T.Ord.cmp g.met.T.Ord.total items c.args.self.now.keys c.insert.new.self.keys c.args.member
    c.in_ok-insert.field-0 put.added put.unchanged put.keys put.ordered put.updates.0 merged
