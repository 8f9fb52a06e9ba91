use Rattle.std.proofs.Common.{◌≡◌, subst}
use Rattle.resp_value.specs.declared.value.Value.{Value}
use Rattle.resp_from.specs.Conversion.{Converts}
use Rattle.resp_from.specs.Tuples.{HasValues}
use Rattle.resp_from.proofs.tuples.elements_of.Goals as goal

pub returns-in_ok-into_value-in-Err : goal.returns-in_ok-into_value-in-Err
returns-in_ok-into_value-in-Err g c = record {
  converts = λ v shows.
      let same : c.in_ok-into_value-in-Err.field-0 ≡ v = c.in_ok-into_value-in-Err.ensures.value v
      (c.in-Err.ensures.shown v shows).1 in
      subst (λ (w : Value). Converts (λ elements. HasValues c.args.width w
      (λ values. g.E.Elements.of_values values elements)) c.elements_of_tree.result) same
      c.elements_of_tree.ensures.converts;
}
