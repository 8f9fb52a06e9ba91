use Rattle.std.proofs.Common.{ap, arith}
use Rattle.std.specs.Option.{option_copied}
use Rattle.resp_cluster.proofs.Asking.{asked_too, none_asked, none_gives, one_gives, passed_over}
use Rattle.resp_cluster.proofs.links.NodeLinks.ask_primaries.Goals as goal

pub loop-place-init : goal.loop-place-init
loop-place-init g c = none_asked g.N.Link.ConnectionLike.connection c.args.known.now c.args.self.now

pub loop-place-preserved-in_default : goal.loop-place-preserved-in_default
loop-place-preserved-in_default g c = passed_over g.N.Link.ConnectionLike.connection c.args.known.now c.args.self.now
    c.loop-place.place c.loop-place.self c.loop-place.why c.loop-place.invariant (grind arith) (option_copied c.new_primary.result)
    c.new_primary.ensures (ap option_copied c.in_default.is)

pub returns-in-Ok : goal.returns-in-Ok
returns-in-Ok g c = one_gives g.N.Link.ConnectionLike.connection c.args.known.now c.args.self.now
    c.loop-place.place c.loop-place.self c.loop-place.why c.loop-place.invariant (grind arith) (option_copied c.new_primary.result)
    c.new_primary.ensures c.in-Some.node.now (ap option_copied c.in-Some.is) _ _ (rw c.in-Ok.is at c.ask_map.ensures)

pub loop-place-preserved : goal.loop-place-preserved
loop-place-preserved g c = asked_too g.N.Link.ConnectionLike.connection c.args.known.now c.args.self.now
    c.loop-place.place c.loop-place.self c.loop-place.why c.loop-place.invariant (grind arith) (option_copied c.new_primary.result)
    c.new_primary.ensures c.in-Some.node.now (ap option_copied c.in-Some.is) _ _ (rw c.in-Err.is at c.ask_map.ensures)

pub returns : goal.returns
returns g c = none_gives g.N.Link.ConnectionLike.connection c.args.known.now c.args.self.now
    c.loop-place.place c.loop-place.self c.loop-place.why c.loop-place.invariant (grind arith)
