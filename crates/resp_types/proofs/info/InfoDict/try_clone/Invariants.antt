use Rattle.resp_types.proofs.Copies.{Copied}
use Rattle.resp_types.proofs.info.InfoDict.try_clone.Given as goal

abbrev pub invariant-loop-key : goal.invariant-loop-key
invariant-loop-key l = Copied l.self.map.entries l.key-iterator l.map.entries
