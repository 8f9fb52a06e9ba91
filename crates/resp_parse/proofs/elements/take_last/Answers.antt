use Rattle.std.proofs.Common.{◌≡◌, ap, sym, ◌∙◌}
use Rattle.resp_value.specs.declared.value.Value.{Value}
use Rattle.resp_parse.specs.declared.elements.Waits.TheVariants.{Nothing, Key}
use Rattle.resp_parse.specs.KeptElements.{waits_in}
use Rattle.resp_parse.proofs.PushesAndAttributes.{last_of, last-taken}
use Rattle.resp_parse.proofs.elements.take_last.Goals as goal

pub returns-in-Key : goal.returns-in-Key
returns-in-Key c = record {
  last = λ vs e o.
      let p : Value × Value = (c.in-Some.key, c.in-Some.value) in
      let t : Key ≡ waits_in vs = sym c.in-Key.is ∙ o in
      let all = last-taken vs c.pop.new.self p (sym e ∙ c.in-Some.ensures) in
      (ap (λ w. last_of w p) t ∙ all.0, all.1);
}

pub returns-in-Nothing : goal.returns-in-Nothing
returns-in-Nothing c = record {
  last = λ vs e o.
      let p : Value × Value = (c.in-Some.key, c.in-Some.value) in
      let t : Nothing ≡ waits_in vs = sym c.in-Nothing.is ∙ o in
      let all = last-taken vs c.pop.new.self p (sym e ∙ c.in-Some.ensures) in
      (ap (λ w. last_of w p) t ∙ all.0, all.1);
}
