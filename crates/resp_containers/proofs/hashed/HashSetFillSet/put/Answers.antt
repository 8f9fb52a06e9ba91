use Rattle.resp_containers.proofs.Merging.{hashed_member}
use Rattle.resp_containers.proofs.hashed.HashSetFillSet.put.Goals as goal

pub returns-clause-deduplicated : goal.returns-clause-deduplicated
returns-clause-deduplicated g c items merged =
    let put = c.in_ok-insert.ensures in
    hashed_member g.T.PartialEq.eq g.met.T.Eq.laws items c.args.self.now.keys c.insert.new.self.keys c.args.member
    c.in_ok-insert.field-0 put.added put.keys put.unique put.updates.0 merged
