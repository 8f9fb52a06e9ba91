use Rattle.std.proofs.Common.{◌≡◌, ◌-◌, suc, arith, refl}
use Rattle.resp_parse.specs.declared.open_aggregates.OpenAggregate.{OpenAggregate}
use Rattle.resp_parse.specs.Building.{BeginsAggregate}
use Rattle.resp_parse.specs.Shapes.{count_of}
use Rattle.resp_parse.proofs.Announced.{elements-opened}
use Rattle.resp_parse.proofs.machine.Machine.begin_elements.Goals as goal

pub returns-clause-goes : goal.returns-clause-goes
returns-clause-goes g c =
    let after = c.count-count.result - 1 in
    let opened : OpenAggregate = record
    { kind = c.args.kind; size = c.args.size; after = after; seen = c.new.result } in
    let begins : BeginsAggregate c.args.kind c.args.size after opened = record
    { kind_is = refl; size_is = refl; after_is = refl; none = c.new.ensures } in
    let some : count_of c.args.kind c.args.size
    ≡ suc after = omega (arith, c.count-count.ensures.count, c.if-count-eq0.false) in
    elements-opened c.args.self.now.depth c.args.self.now.open_aggregates c.args.kind
    (record c.args.self.now { builder = c.open.new.self; open_aggregates = c.push.new.self })
    (count_of c.args.kind c.args.size) after c.args.size opened
    some begins refl c.in_ok-push.ensures.ok c.requires.no_body

pub returns-clause-builds : goal.returns-clause-builds
returns-clause-builds g c =
    let after = c.count-count.result - 1 in
    let opened : OpenAggregate = record
    { kind = c.args.kind; size = c.args.size; after = after; seen = c.new.result } in
    let begins : BeginsAggregate c.args.kind c.args.size after opened = record
    { kind_is = refl; size_is = refl; after_is = refl; none = c.new.ensures } in
    rw (c.requires.no_body, c.in_ok-push.ensures.ok)
    (c.in_ok-open.ensures.stands c.args.self.now.open_aggregates opened begins c.requires.builds)
