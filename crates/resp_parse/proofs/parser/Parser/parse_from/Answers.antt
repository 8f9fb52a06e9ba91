use Rattle.std.proofs.Common.{rules, ◌≡◌, ◌++◌, ap, ◌∙◌, refl, arith, Ok, Some, None}
use Rattle.resp_parse.proofs.Counting.{received-same, calls-most}
use Rattle.std.proofs.lemmas.Result.{err_from_is_err_and}
use Rattle.resp_parse.specs.Counts.{Counts}
use Rattle.resp_parse.specs.Calls.{Takes}
use Rattle.resp_parse.proofs.ParserStates.{StandsAfter-not_failed, StandsAfter-from_since, StandsAfter-works}
use Rattle.resp_parse.proofs.FaultOffsets.{HasOffset-unfilled}
use Rattle.resp_parse.proofs.Parsing.{FilledAsNeeded-none, FilledAsNeeded-asked, Parsed-taken, CannotParse-taken}
use Rattle.resp_parse.proofs.Parsing.{CannotParse-asked, CannotParse-failed}
use Rattle.resp_parse.proofs.parser.Parser.parse_from.Goals as goal

pub loop-init : goal.loop-init
loop-init g c = record {
  limits = refl;
  calls = omega arith;
  filled = λ b h. FilledAsNeeded-none b c.args.self.now (g.S.ReplySource.source c.args.source.now) h;
}

pub loop-preserved : goal.loop-preserved
loop-preserved g c =
    let source = g.S.ReplySource.source in
    record {
      limits = c.ask.ensures.limits ∙ c.take_value.ensures.limits ∙ c.loop.invariant.limits;
      calls = omega (
        arith,
        c.loop.invariant.calls,
        c.in_ok-ask.ensures.asked.0,
        c.in_ok-ask.ensures.asked.1,
        received-same c.loop.self c.take_value.new.self (λ e. (c.take_value.ensures.failed e).1)
            c.take_value.ensures.counts,
        calls-most c.loop.self c.take_value.new.self
            (λ e. (c.take_value.ensures.failed e).1) c.take_value.ensures.counts,
      );
      filled = λ b h.
          let k = c.loop.invariant.filled b h in
          let w : Takes (b ++ k.more.filled) c.take_value.new.self (Ok None) = rw c.in_default.is at
          (c.in_ok-value.ensures.takes (b ++ k.more.filled) k.more.stands) in
          FilledAsNeeded-asked b c.args.self.now c.loop.self (source c.args.source.now) (source c.loop.source) k
          c.take_value.new.self (c.take_value.ensures.limits ∙ c.loop.invariant.limits)
          (received-same c.loop.self c.take_value.new.self (λ e. (c.take_value.ensures.failed e).1)
          c.take_value.ensures.counts) w (source c.ask.new.source) c.ask.new.self
          (c.in_ok-ask.ensures.asks (b ++ k.more.filled) w.1);
    }

pub returns-then-is_failed-clause-parses : goal.returns-then-is_failed-clause-parses
returns-then-is_failed-clause-parses g c = λ b h. absurd (StandsAfter-not_failed c.args.self.now b h (search rules))

pub returns-in_err-value-clause-parses : goal.returns-in_err-value-clause-parses
returns-in_err-value-clause-parses g c = λ b h.
    let source = g.S.ReplySource.source in
    let p = err_from_is_err_and c.from_residual.result c.from_residual.ensures.1 in
    let k = c.loop.invariant.filled b h in
    rw (p.1, p.2) (CannotParse-taken b c.args.self.now c.loop.self (source c.args.source.now) (source c.loop.source) k
    c.take_value.new.self c.in_err-value.field-0.0 (c.take_value.ensures.limits ∙ c.loop.invariant.limits)
    (received-same c.loop.self c.take_value.new.self (λ e. (c.take_value.ensures.failed e).1)
    c.take_value.ensures.counts) (c.in_err-value.ensures.takes (b ++ k.more.filled) k.more.stands))

pub returns-in-Some-clause-parses : goal.returns-in-Some-clause-parses
returns-in-Some-clause-parses g c = λ b h.
    let source = g.S.ReplySource.source in
    let k = c.loop.invariant.filled b h in
    let w : Takes (b ++ k.more.filled) c.take_value.new.self (Ok (Some c.in-Some.value)) = rw c.in-Some.is at
    (c.in_ok-value.ensures.takes (b ++ k.more.filled) k.more.stands) in
    Parsed-taken b c.args.self.now c.loop.self (source c.args.source.now) (source c.loop.source) k c.take_value.new.self
    c.in-Some.value (c.take_value.ensures.limits ∙ c.loop.invariant.limits)
    (received-same c.loop.self c.take_value.new.self (λ e. (c.take_value.ensures.failed e).1)
    c.take_value.ensures.counts) w

pub returns-in_err-ask-clause-parses : goal.returns-in_err-ask-clause-parses
returns-in_err-ask-clause-parses g c = λ b h.
    let source = g.S.ReplySource.source in
    let p = err_from_is_err_and c.from_residual-in_err-ask.result c.from_residual-in_err-ask.ensures.1 in
    let k = c.loop.invariant.filled b h in
    let w : Takes (b ++ k.more.filled) c.take_value.new.self (Ok None) = rw c.in_default.is at
    (c.in_ok-value.ensures.takes (b ++ k.more.filled) k.more.stands) in
    rw (p.1, p.2) (CannotParse-asked b c.args.self.now c.loop.self (source c.args.source.now) (source c.loop.source) k
    c.take_value.new.self (c.take_value.ensures.limits ∙ c.loop.invariant.limits)
    (received-same c.loop.self c.take_value.new.self (λ e. (c.take_value.ensures.failed e).1)
    c.take_value.ensures.counts) w (source c.ask.new.source) c.ask.new.self c.ask.ensures.limits
    c.in_err-ask.ensures.asked.1 c.in_err-ask.field-0.0
    (c.in_err-ask.ensures.asks (b ++ k.more.filled) w.1))

pub returns-clause-parses : goal.returns-clause-parses
returns-clause-parses g c = λ b h.
    let source = g.S.ReplySource.source in
    let k = c.loop.invariant.filled b h in
    CannotParse-failed b c.args.self.now c.loop.self (source c.args.source.now) (source c.loop.source) k c.fail.new.self
    _ (c.fail.ensures.limits ∙ c.loop.invariant.limits) (ap (λ (t : Counts). t.received) c.fail.ensures.counts) refl
    (c.fail.ensures.fails (b ++ k.more.filled) k.more.stands)

pub returns-in_err-value-clause-calls : goal.returns-in_err-value-clause-calls
returns-in_err-value-clause-calls g c =
    omega (
      arith,
      c.loop.invariant.calls,
      received-same c.loop.self c.take_value.new.self
          (λ e. (c.take_value.ensures.failed e).1) c.take_value.ensures.counts,
      calls-most c.loop.self
          c.take_value.new.self (λ e. (c.take_value.ensures.failed e).1) c.take_value.ensures.counts,
    )

pub returns-in-Some-clause-calls : goal.returns-in-Some-clause-calls
returns-in-Some-clause-calls g c =
    omega (
      arith,
      c.loop.invariant.calls,
      received-same c.loop.self c.take_value.new.self
          (λ e. (c.take_value.ensures.failed e).1) c.take_value.ensures.counts,
      calls-most c.loop.self
          c.take_value.new.self (λ e. (c.take_value.ensures.failed e).1) c.take_value.ensures.counts,
    )

pub returns-in_err-ask-clause-calls : goal.returns-in_err-ask-clause-calls
returns-in_err-ask-clause-calls g c =
    omega (
      arith,
      c.loop.invariant.calls,
      c.in_err-ask.ensures.asked.0,
      c.in_err-ask.ensures.asked.1,
      received-same
          c.loop.self c.take_value.new.self (λ e. (c.take_value.ensures.failed e).1) c.take_value.ensures.counts,
      calls-most c.loop.self c.take_value.new.self (λ e. (c.take_value.ensures.failed e).1)
          c.take_value.ensures.counts,
    )

pub returns-clause-calls : goal.returns-clause-calls
returns-clause-calls g c = rw c.fail.ensures.counts (omega (arith, c.loop.invariant.calls))

pub returns-in_err-value-clause-offset : goal.returns-in_err-value-clause-offset
returns-in_err-value-clause-offset g c = λ w.
    let p = err_from_is_err_and c.from_residual.result c.from_residual.ensures.1 in
    let k = c.loop.invariant.filled c.args.self.now.since
    (StandsAfter-from_since c.args.self.now c.args.self.now.since w refl) in
    rw (p.1, p.2) (c.in_err-value.ensures.offset (StandsAfter-works c.loop.self _ k.more.stands))

pub returns-in-Some-clause-offset : goal.returns-in-Some-clause-offset
returns-in-Some-clause-offset g c = λ w.
    let k = c.loop.invariant.filled c.args.self.now.since
    (StandsAfter-from_since c.args.self.now c.args.self.now.since w refl) in
    c.in_ok-value.ensures.offset (StandsAfter-works c.loop.self _ k.more.stands)

pub returns-in_err-ask-clause-offset : goal.returns-in_err-ask-clause-offset
returns-in_err-ask-clause-offset g c = λ u.
    let source = g.S.ReplySource.source in
    let p = err_from_is_err_and c.from_residual-in_err-ask.result c.from_residual-in_err-ask.ensures.1 in
    let b = c.args.self.now.since in
    let k = c.loop.invariant.filled b (StandsAfter-from_since c.args.self.now b u refl) in
    let h : c.take_value.new.self.fault_offset
    ≡ None = c.in_ok-value.ensures.offset (StandsAfter-works c.loop.self _ k.more.stands) in
    let w : Takes (b ++ k.more.filled) c.take_value.new.self (Ok None) = rw c.in_default.is at
    (c.in_ok-value.ensures.takes (b ++ k.more.filled) k.more.stands) in
    rw (p.1, p.2) (HasOffset-unfilled (b ++ k.more.filled) c.in_err-ask.field-0.0 c.ask.new.self (source c.loop.source)
    (source c.ask.new.source) c.ask.new.self.fault_offset (c.in_err-ask.ensures.asks (b ++ k.more.filled) w.1)
    (c.ask.ensures.offset ∙ h))

pub returns-clause-offset : goal.returns-clause-offset
returns-clause-offset g c = λ w.
    let k = c.loop.invariant.filled c.args.self.now.since
    (StandsAfter-from_since c.args.self.now c.args.self.now.since w refl) in
    c.fail.ensures.offset (StandsAfter-works c.loop.self _ k.more.stands)
