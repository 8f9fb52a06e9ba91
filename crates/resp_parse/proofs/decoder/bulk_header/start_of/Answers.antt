use Rattle.std.proofs.Common.{ap, sym, subst, ◌∙◌, refl, ◌+◌}
use Rattle.resp_parse.specs.Number.{length_in}
use Rattle.resp_parse.specs.BulkBodies.{BeginsOther, InHeader, OpensBulk}
use Rattle.resp_parse.proofs.OtherValues.{other-type}
use Rattle.resp_parse.proofs.BulkBodies.{opens-at, other-text, other-length, in_header-line}
use Rattle.resp_parse.proofs.decoder.bulk_header.start_of.Goals as goal

pub returns-then-first-ne36 : goal.returns-then-first-ne36
returns-then-first-ne36 c = record
    { starts = subst BeginsOther (sym c.in-Some.ensures.cases.0) (other-type _ _ c.if-first-ne36.true) }

pub returns-in_default-first_line : goal.returns-in_default-first_line
returns-in_default-first_line c = record {
  starts = subst InHeader (sym c.in-Some.ensures.cases.0)
      (in_header-line _ _ c.if-first-ne36.false c.in_default-first_line.ensures.line);
}

pub returns-in_default-from_utf8 : goal.returns-in_default-from_utf8
returns-in_default-from_utf8 c = record {
  starts = subst BeginsOther (sym c.in-Some.ensures.cases.0)
      (other-text _ _ c.in-Some-first_line.line.len c.if-first-ne36.false c.in-Some-first_line.ensures.line
      c.in_default-from_utf8.ensures.cases.0);
}

pub returns-in-Ok-length_of : goal.returns-in-Ok-length_of
returns-in-Ok-length_of c = record {
  starts = subst (λ b. OpensBulk b (record
      { header_len = c.in-Some-first_line.line.len + 3; body_len = c.in-Ok-length_of.body_len }))
      (sym c.in-Some.ensures.cases.0)
      (opens-at _ _ c.in-Some-first_line.line.len c.if-first-ne36.false c.in-Some-first_line.ensures.line
      c.in-Ok-length_of.body_len _ c.in-Ok.ensures.cases.1
      (ap length_in (sym c.in-Ok.ensures.cases.0) ∙ sym c.in-Ok-length_of.ensures.value) refl);
}

pub returns-in-Err : goal.returns-in-Err
returns-in-Err c = record {
  starts = subst BeginsOther (sym c.in-Some.ensures.cases.0)
      (other-length _ _ c.in-Some-first_line.line.len c.if-first-ne36.false c.in-Some-first_line.ensures.line
      c.in-Ok.ensures.cases.1 c.in-Err.field-0
      (ap length_in (sym c.in-Ok.ensures.cases.0) ∙ sym c.in-Err.ensures.value));
}
