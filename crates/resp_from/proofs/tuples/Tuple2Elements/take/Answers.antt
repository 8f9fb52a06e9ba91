use Rattle.resp_from.specs.Tuples.{First}
use Rattle.resp_from.proofs.Conversions.{Converts-err}
use Rattle.resp_from.proofs.TupleParts.{first_refused, rest_refused, first_and_rest}
use Rattle.resp_from.proofs.tuples.Tuple2Elements.take.Goals as goal

pub returns-in_err-first-in-Some : goal.returns-in_err-first-in-Some
returns-in_err-first-in-Some g c = record {
  converts = λ vs shown.
      let Of = g.A.FromRedisValue.of_value in
      let Rest = g.E.Elements.of_values in
      let e = c.in_err-first-in-Some.field-0.0 in
      Converts-err (λ p. First Of p.0 (λ ws. Rest ws p.1) vs) c.from_residual.result e c.from_residual.ensures
      (first_refused g.R.Reply.shows (g.R.Reply.show c.next_of.new.elements) Of Rest c.in-Some.value e vs
      (c.in-Some.ensures.next vs shown) c.in_err-first-in-Some.ensures.converts);
}

pub returns-in_err-rest-in-Some : goal.returns-in_err-rest-in-Some
returns-in_err-rest-in-Some g c = record {
  converts = λ vs shown.
      let Of = g.A.FromRedisValue.of_value in
      let Rest = g.E.Elements.of_values in
      let e = c.in_err-rest-in-Some.field-0.0 in
      Converts-err (λ p. First Of p.0 (λ ws. Rest ws p.1) vs) c.from_residual-in_err-rest-in-Some.result e
      c.from_residual-in_err-rest-in-Some.ensures
      (rest_refused g.R.Reply.shows (g.R.Reply.show c.next_of.new.elements) Of Rest c.in-Some.value e vs
      (c.in-Some.ensures.next vs shown) c.in_err-rest-in-Some.ensures.converts);
}

pub returns-in_ok-rest-in-Some : goal.returns-in_ok-rest-in-Some
returns-in_ok-rest-in-Some g c = record {
  converts = λ vs shown.
      first_and_rest g.R.Reply.shows (g.R.Reply.show c.next_of.new.elements) g.A.FromRedisValue.of_value
      g.E.Elements.of_values c.in-Some.value c.in_ok-first-in-Some.first _ vs (c.in-Some.ensures.next vs shown)
      c.in_ok-first-in-Some.ensures.converts c.in_ok-rest-in-Some.ensures.converts;
}
