use Rattle.std.proofs.Common.{◌≡◌, ◌∷◌, ◌++◌, [], OnOk, Result, Ok, Err, ap, sym, ◌∙◌}
use Rattle.resp_value.specs.declared.value.Value.{Nil}
use Rattle.resp_value.specs.Views.{pairs}
use Rattle.resp_parse.specs.declared.elements.Waits.TheVariants.{Nothing, Key}
use Rattle.resp_parse.specs.KeptElements.{waits_in}
use Rattle.resp_parse.proofs.PairedElements.{last_key, odd-pairs, odd-more, even-more, key-more, after_one}
use Rattle.resp_parse.proofs.elements.add.Goals as goal

on_ok : {X E A B : Type 0} (r : Result X E) → (A → B) → OnOk r A → OnOk r B
on_ok (Ok x) f h = f h
on_ok (Err e) f h = tt

pub returns-in-Key : goal.returns-in-Key
returns-in-Key c = record {
  pairs = λ vs e o.
      let t : waits_in vs ≡ Key = sym o ∙ c.in-Key.is in (
        c.set_last_value.ensures (pairs vs) (last_key vs) Nil (e ∙ odd-pairs vs t)
            ∙ key-more vs c.args.element t,
        sym (odd-more vs c.args.element ∙ ap after_one t),
      );
}

pub returns-in-Nothing : goal.returns-in-Nothing
returns-in-Nothing c = record {
  pairs = λ vs e o.
      let f : waits_in vs ≡ Nothing = sym o ∙ c.in-Nothing.is in
      on_ok c.push.result (λ p. (
        p ∙ ap (λ ps. ps ++ (c.args.element, Nil) ∷ []) e ∙ even-more vs c.args.element f,
        sym
            (odd-more vs c.args.element ∙ ap after_one f),
      )) c.push.ensures.ok;
}
