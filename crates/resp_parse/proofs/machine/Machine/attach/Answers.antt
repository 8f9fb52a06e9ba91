use Rattle.std.proofs.Common.{◌≡◌, ◌+◌, arith, ap}
use Rattle.resp_parse.specs.Counts.{Counts}
use Rattle.resp_parse.specs.OpenAggregates.{KeptIn, ClosedBy}
use Rattle.resp_parse.proofs.Attaching.{added-closed, added-refused, closed-least_bytes, closed-potential}
use Rattle.resp_parse.proofs.Attaching.{closed-shorter, builds-kept, builds-closed, builds-outermost}
use Rattle.resp_parse.proofs.SameCounts.{same-iterate, same-iterations}
use Rattle.resp_parse.proofs.machine.Machine.attach.Goals as goal

pub returns-in-StillOpen-clause-builds : goal.returns-in-StillOpen-clause-builds
returns-in-StillOpen-clause-builds g c =
    let a : KeptIn c.loop-value.self.open_aggregates c.loop-value.value c.add.new.self = c.in-StillOpen.ensures.adds in
    rw c.loop-value.invariant.no_body
    (builds-kept g.B.Builder.stands c.loop-value.self.builder c.loop-value.self.open_aggregates c.loop-value.value
    c.add.new.self c.loop-value.invariant.builds c.keep.new.self a c.in_ok-keep-in-StillOpen.ensures.stands)

pub returns-in-Outermost-clause-builds : goal.returns-in-Outermost-clause-builds
returns-in-Outermost-clause-builds g c =
    let a = c.in-Outermost.ensures.adds in
    builds-outermost g.B.Builder.stands c.loop-value.self.builder c.loop-value.self.open_aggregates c.loop-value.value
    c.add.new.self c.loop-value.invariant.builds a.0 a.1

pub returns-in-Err-clause-ends : goal.returns-in-Err-clause-ends
returns-in-Err-clause-ends g c =
    let now = c.loop-value.self.open_aggregates in
    let w = c.loop-value.value in
    let fs = c.add.new.self in
    let f = c.in-Closed.closed in
    let d = c.args.self.now.depth in
    let gs = c.args.self.now.open_aggregates in
    let v = c.args.value in
    let same = c.loop-value.invariant.same in
    let a : ClosedBy now w fs f = c.in-Closed.ensures.adds in
    let all = builds-closed g.B.Builder.stands c.loop-value.self.builder now w fs c.loop-value.invariant.builds f a in
    added-refused d gs v now w same fs f a c.args.self.now c.in-Err.why
    (c.in-Err.ensures.value a.aggregate fs w a.last a.closed_is all)

pub returns-in-Err-clause-places : goal.returns-in-Err-clause-places
returns-in-Err-clause-places g c =
    let now = c.loop-value.self.open_aggregates in
    let w = c.loop-value.value in
    let fs = c.add.new.self in
    let f = c.in-Closed.closed in
    let d = c.args.self.now.depth in
    let gs = c.args.self.now.open_aggregates in
    let v = c.args.value in
    let same = c.loop-value.invariant.same in
    let a : ClosedBy now w fs f = c.in-Closed.ensures.adds in
    let t : c.iterate.new.self.iterations ≡ c.loop-value.counts.iterations + 1 = ap (λ (n : Counts). n.iterations)
    c.iterate.ensures in
    let l = closed-potential d gs v now w same fs f a in
    omega (arith, l, t, c.loop-value.invariant.places)

pub returns-in-Err-clause-iterations : goal.returns-in-Err-clause-iterations
returns-in-Err-clause-iterations g c =
    same-iterations c.args.counts.now c.loop-value.counts c.iterate.new.self c.loop-value.invariant.iterations
    (same-iterate c.loop-value.counts c.iterate.new.self c.iterate.ensures)

pub loop-value-preserved : goal.loop-value-preserved
loop-value-preserved g c =
    let now = c.loop-value.self.open_aggregates in
    let w = c.loop-value.value in
    let fs = c.add.new.self in
    let f = c.in-Closed.closed in
    let d = c.args.self.now.depth in
    let gs = c.args.self.now.open_aggregates in
    let v = c.args.value in
    let same = c.loop-value.invariant.same in
    let a : ClosedBy now w fs f = c.in-Closed.ensures.adds in
    let all = builds-closed g.B.Builder.stands c.loop-value.self.builder now w fs c.loop-value.invariant.builds f a in
    let u = c.in-Ok.made in
    let made = c.in-Ok.ensures.value a.aggregate fs w a.last a.closed_is all in
    let t : c.iterate.new.self.iterations ≡ c.loop-value.counts.iterations + 1 = ap (λ (n : Counts). n.iterations)
    c.iterate.ensures in
    record {
      same = added-closed d gs v now w same fs f a u made;
      limit = c.loop-value.invariant.limit;
      depth = (let l = closed-shorter d gs v now w same fs f a in let m = c.loop-value.invariant.depth in omega
          (arith, l, m));
      builds = c.in-Ok.ensures.stands a.aggregate fs w a.last a.closed_is all;
      no_body = c.loop-value.invariant.no_body;
      scanned = c.loop-value.invariant.scanned;
      built_within = (let m = closed-least_bytes d gs v now w same fs f a u made in omega (
        arith,
        m,
        c.loop-value.invariant.built_within,
      ));
      places = (let l = closed-potential d gs v now w same fs f a in omega
          (arith, l, t, c.loop-value.invariant.places));
      iterations = same-iterations c.args.counts.now c.loop-value.counts c.iterate.new.self
          c.loop-value.invariant.iterations (same-iterate c.loop-value.counts c.iterate.new.self c.iterate.ensures);
    }
