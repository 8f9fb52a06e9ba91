use Rattle.std.proofs.Common.{◌≡◌, ◌∙◌, ap, sym, arith, length, []}
use Rattle.std.proofs.lemmas.Result.{err_from_is_err_and}
use Rattle.resp_parse.proofs.ParserStates.{IsBetweenValues-same}
use Rattle.resp_link.proofs.TakenParts.{has-byte, no-byte, none-held}
use Rattle.resp_link.proofs.inbox.Inbox.have_byte.Goals as goal
use Rattle.resp_link.proofs.inbox.Inbox.have_byte.Goals.{then-unparsed_len-eq0+in_ok-fill_from, else-unparsed_len-eq0}

pub returns-in_err-fill_from-clause-byte : goal.returns-in_err-fill_from-clause-byte
returns-in_err-fill_from-clause-byte g c = λ n start part so_far lacks.
    let source = g.S.ReplySource.source in
    let at = c.args.self.now in
    let p = err_from_is_err_and c.from_residual.result c.from_residual.ensures.1 in
    let none : at.parser.unparsed ≡ [] = none-held at.parser.unparsed
    (sym c.unparsed_len.ensures.unparsed ∙ c.if-unparsed_len-eq0.true) in
    rw (p.1, p.2) (no-byte n start (source at.source) (source c.fill_from.new.source) at.parser c.fill_from.new.self _ _
    part so_far c.requires c.fill_from.ensures.limits none _
    (c.in_err-fill_from.ensures.asks at.parser.unparsed c.requires.stands))

pub returns-clause-byte : goal.returns-clause-byte
returns-clause-byte g c = λ n start part so_far lacks.
    let source = g.S.ReplySource.source in
    let at = c.args.self.now in
    elim c.if-unparsed_len-eq0.branch [
      | then-unparsed_len-eq0+in_ok-fill_from w ↦
          let none : at.parser.unparsed ≡ [] = none-held at.parser.unparsed
          (sym c.unparsed_len.ensures.unparsed ∙ w.if-unparsed_len-eq0.true) in
          rw w.self-is (has-byte n start (source at.source) (source w.fill_from.new.source) at.parser
          w.fill_from.new.self _ _ part so_far c.requires w.fill_from.ensures.limits none lacks
          (w.in_ok-fill_from.ensures.rest c.requires)
          (w.in_ok-fill_from.ensures.asks at.parser.unparsed c.requires.stands))
      | else-unparsed_len-eq0 w ↦
          let l = ap length (IsBetweenValues-same at.parser c.requires) in
          rw w.self-is (so_far, omega (arith, l, c.unparsed_len.ensures.unparsed, w.if-unparsed_len-eq0.false))
    ]
