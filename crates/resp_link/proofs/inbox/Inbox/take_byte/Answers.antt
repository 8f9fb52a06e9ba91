use Rattle.std.proofs.Common.{◌≡◌, ◌∙◌, ◌∷◌, ap, sym, arith, length}
use Rattle.std.proofs.lemmas.Result.{err_from_is_err_and}
use Rattle.resp_parse.proofs.ParserStates.{IsBetweenValues-same}
use Rattle.resp_link.specs.Streaming.{CannotTakeByte}
use Rattle.resp_link.proofs.TakenParts.{takes-byte, front-left}
use Rattle.resp_link.proofs.inbox.Inbox.take_byte.Goals as goal

pub returns-in_err-have_byte-clause-taken : goal.returns-in_err-have_byte-clause-taken
returns-in_err-have_byte-clause-taken g c = λ n start part so_far lacks.
    let p = err_from_is_err_and c.from_residual.result c.from_residual.ensures.1 in
    let h = c.in_err-have_byte.ensures.byte n start part so_far lacks in
    rw (p.1, p.2) (CannotTakeByte.no_byte h.0 h.1.0 h.1.1)

pub returns-in_default-clause-taken : goal.returns-in_default-clause-taken
returns-in_default-clause-taken g c = λ n start part so_far lacks.
    let now = c.have_byte.new.self in
    let h = c.in_ok-have_byte.ensures.byte n start part so_far lacks in
    let l = ap length (c.unparsed.ensures.unparsed ∙ sym (IsBetweenValues-same now.parser (c.in_ok-have_byte.ensures.rest))) in
    absurd (omega (arith, h.1, l, c.in_default.ensures.cases))

pub returns-then-first-byte-clause-taken : goal.returns-then-first-byte-clause-taken
returns-then-first-byte-clause-taken g c = λ n start part so_far lacks.
    let now = c.have_byte.new.self in
    let h = c.in_ok-have_byte.ensures.byte n start part so_far lacks in
    CannotTakeByte.other h.0 (record {
      other = c.in-Some.first.now;
      rest = c.in-Some.field-0-1.now;
      first = IsBetweenValues-same now.parser (c.in_ok-have_byte.ensures.rest) ∙ sym c.unparsed.ensures.unparsed
          ∙ c.in-Some.ensures.cases.0;
      differs = c.if-first-byte.true;
      error = c.body_end-then-first-byte.ensures;
    })

pub returns-clause-taken : goal.returns-clause-taken
returns-clause-taken g c = λ n start part so_far lacks.
    let now = c.have_byte.new.self in
    let h = c.in_ok-have_byte.ensures.byte n start part so_far lacks in
    let rest = c.in_ok-have_byte.ensures.rest in
    let first : now.parser.since ≡ c.args.byte ∷ c.in-Some.field-0-1.now = IsBetweenValues-same now.parser rest
    ∙ sym c.unparsed.ensures.unparsed ∙ c.in-Some.ensures.cases.0
    ∙ ap (λ z. z ∷ c.in-Some.field-0-1.now) c.if-first-byte.false in
    takes-byte n c.args.byte start _ _ part c.in-Some.field-0-1.now h.0 first
    (front-left _ now.parser c.skip.new.self _ _ 1 rest c.skip.ensures.rest c.skip.ensures.limits
    c.skip.ensures.unparsed)
