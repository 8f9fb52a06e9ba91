use Rattle.std.proofs.Common.{◌≡◌, ◌≤◌, ◌++◌, ap, sym, ◌∙◌, subst, refl, arith, length, Ok, None}
use Rattle.std.proofs.lemmas.Result.{err_from_is_err_and}
use Rattle.resp_parse.specs.Counts.{Counts}
use Rattle.resp_parse.specs.declared.limits.Limits.{Limits}
use Rattle.resp_parse.specs.Limits.{AreLimits}
use Rattle.resp_parse.specs.Resume.{IsLooked}
use Rattle.resp_parse.specs.Limited.{Awaits}
use Rattle.resp_parse.specs.Calls.{Takes}
use Rattle.resp_parse.specs.BulkBodies.{BeginsOther, InHeader, OpensBulk}
use Rattle.resp_parse.proofs.Parsing.{FilledAsNeeded-none, FilledAsNeeded-asked, CannotParse-asked, CannotParse-failed}
use Rattle.resp_parse.proofs.HeadersInPieces.{Scanned-none}
use Rattle.resp_parse.proofs.BulkBodies.{finds, other-within, too_long-other, in_header-awaits, in_header-longer}
use Rattle.resp_parse.proofs.parser.Parser.find_bulk.Goals as goal

pub loop-init : goal.loop-init
loop-init g c = record {
  limits = refl;
  rest = c.requires.rest;
  looked = record { within = omega arith; rest = Scanned-none _ };
  filled = λ b h. FilledAsNeeded-none b c.args.self.now (g.S.ReplySource.source c.args.source.now) h;
}

pub returns-in-Bulk-clause-looks : goal.returns-in-Bulk-clause-looks
returns-in-Bulk-clause-looks g c = λ b h.
    finds b _ _ _ _ _ (c.loop.invariant.filled b h) c.loop.invariant.limits c.loop.invariant.rest
    (subst (λ u. OpensBulk u c.in-Bulk.header) c.unparsed-bytes.ensures.unparsed c.in-Bulk.ensures.starts)

pub returns-in-Other-clause-looks : goal.returns-in-Other-clause-looks
returns-in-Other-clause-looks g c = λ b h.
    finds b _ _ _ _ _ (c.loop.invariant.filled b h) c.loop.invariant.limits c.loop.invariant.rest
    (other-within _ _ (subst BeginsOther c.unparsed-bytes.ensures.unparsed c.in-Other.ensures.starts))

pub returns-then-bytes-most-clause-looks : goal.returns-then-bytes-most-clause-looks
returns-then-bytes-most-clause-looks g c = λ b h.
    let at = c.loop.self in
    let same : c.limits-most.result ≡ at.limits = c.limits-most.ensures.limits ∙ sym c.loop.invariant.limits in
    finds b _ _ _ _ _ (c.loop.invariant.filled b h) c.loop.invariant.limits c.loop.invariant.rest
    (too_long-other at.limits at.unparsed (subst AreLimits same c.limits-most.ensures.valid)
    (subst InHeader c.unparsed-bytes.ensures.unparsed c.in-Unknown.ensures.starts)
    (omega (arith, c.if-bytes-most.true, ap length c.unparsed-bytes.ensures.unparsed, ap (λ (l : Limits). l.bytes) same)))

pub returns-in_err-ask-clause-looks : goal.returns-in_err-ask-clause-looks
returns-in_err-ask-clause-looks g c = λ b h.
    let source = g.S.ReplySource.source in
    let p = err_from_is_err_and c.from_residual.result c.from_residual.ensures.1 in
    let at = c.loop.self in
    let k = c.loop.invariant.filled b h in
    let same : c.limits-most.result ≡ at.limits = c.limits-most.ensures.limits ∙ sym c.loop.invariant.limits in
    let few : length at.unparsed ≤ at.limits.bytes = omega
    (arith, c.if-bytes-most.false, ap length c.unparsed-bytes.ensures.unparsed, ap (λ (l : Limits). l.bytes) same) in
    let awaits : Awaits at.limits at.unparsed = in_header-awaits at.limits at.unparsed
    (subst AreLimits same c.limits-most.ensures.valid)
    (subst InHeader c.unparsed-bytes.ensures.unparsed c.in-Unknown.ensures.starts) few in
    let held : b ++ k.more.filled ≡ at.unparsed = c.loop.invariant.rest.only (b ++ k.more.filled) k.more.stands in
    let w : Takes (b ++ k.more.filled) at (Ok None) = (subst (Awaits at.limits) (sym held) awaits, k.more.stands) in
    rw (p.1, p.2) (CannotParse-asked b c.args.self.now at (source c.args.source.now) (source c.loop.source) k
    at c.loop.invariant.limits refl w (source c.ask.new.source) c.ask.new.self c.ask.ensures.limits
    c.in_err-ask.ensures.asked.1 c.in_err-ask.field-0.0
    (c.in_err-ask.ensures.asks (b ++ k.more.filled) k.more.stands))

pub loop-preserved : goal.loop-preserved
loop-preserved g c =
    let source = g.S.ReplySource.source in
    let at = c.loop.self in
    let same : c.limits-most.result ≡ at.limits = c.limits-most.ensures.limits ∙ sym c.loop.invariant.limits in
    let few : length at.unparsed ≤ at.limits.bytes = omega
    (arith, c.if-bytes-most.false, ap length c.unparsed-bytes.ensures.unparsed, ap (λ (l : Limits). l.bytes) same) in
    let header = subst InHeader c.unparsed-bytes.ensures.unparsed c.in-Unknown.ensures.starts in
    let awaits : Awaits at.limits at.unparsed = in_header-awaits at.limits at.unparsed
    (subst AreLimits same c.limits-most.ensures.valid) header few in
    let rest = c.in_ok-ask.ensures.rest c.loop.invariant.rest in
    let more = c.in_ok-ask.ensures.asks at.unparsed c.loop.invariant.rest.stands in
    let now : at.unparsed ++ more.more.filled ≡ c.ask.new.self.unparsed = rest.only _ more.more.stands in
    record {
      limits = c.ask.ensures.limits ∙ c.loop.invariant.limits;
      rest = rest;
      looked = subst (IsLooked c.ask.new.self.unparsed) (ap length (sym c.unparsed-bytes.ensures.unparsed))
          (subst (λ u. IsLooked u (length at.unparsed)) now (in_header-longer _ _ header));
      filled = λ b h.
          let k = c.loop.invariant.filled b h in
          let held : b ++ k.more.filled ≡ at.unparsed = c.loop.invariant.rest.only (b ++ k.more.filled) k.more.stands in
          let w : Takes (b ++ k.more.filled) at (Ok None) = (subst (Awaits at.limits) (sym held) awaits, k.more.stands) in
          FilledAsNeeded-asked b c.args.self.now at (source c.args.source.now) (source c.loop.source) k
          at c.loop.invariant.limits refl w (source c.ask.new.source) c.ask.new.self
          (c.in_ok-ask.ensures.asks (b ++ k.more.filled) k.more.stands);
    }

pub returns-clause-looks : goal.returns-clause-looks
returns-clause-looks g c = λ b h.
    let source = g.S.ReplySource.source in
    let k = c.loop.invariant.filled b h in
    CannotParse-failed b c.args.self.now c.loop.self (source c.args.source.now) (source c.loop.source) k c.fail.new.self
    _ (c.fail.ensures.limits ∙ c.loop.invariant.limits) (ap (λ (t : Counts). t.received) c.fail.ensures.counts) refl
    (c.fail.ensures.fails (b ++ k.more.filled) k.more.stands)
