use Rattle.std.proofs.Common.{◌≡◌, ◌-◌, ◌∷◌, ◌++◌, [], length, slice_set, ap, ◌∙◌, arith}
use Rattle.std.specs.Vec.{vec_len}
use Rattle.std.proofs.lemmas.Grind.{common_steps}
use Rattle.resp_value.specs.declared.value.Value.{Value}
use Rattle.resp_parse.proofs.PairedElements.{other-last}
use Rattle.resp_parse.proofs.elements.set_last_value.Goals as goal
use Rattle.resp_parse.proofs.elements.set_last_value.Goals.{in-Some, in-None}

pub returns : goal.returns
returns c = λ ps key before e.
    let all = c.into_vec-all.result in
    let n = vec_len all - 1 in
    let items : all.items ≡ ps ++ (key, before) ∷ [] = c.into_vec-all.ensures ∙ c.replace.ensures.value ∙ e in
    elim c.match-last_mut.branch [
      | in-Some w ↦
          (let at : n ≡ length ps = grind (arith, common_steps, items) in
          let last : w.in-Some.last.now ≡ (key, before) = grind (arith, common_steps, items) in
          let q : Value × Value = (w.in-Some.last.now.0, w.replace-in-Some.new.dest) in
          c.into.ensures ∙ ap (λ v. v.items) w.all-is ∙ ap (λ xs. slice_set xs n q) items
          ∙ other-last ps (key, before) q n at
          ∙ ap (λ d. ps ++ (w.in-Some.last.now.0, d) ∷ []) w.replace-in-Some.ensures.after
          ∙ ap (λ p. ps ++ (p.0, c.args.value) ∷ []) last)
      | in-None w ↦ absurd (grind (arith, common_steps, items, w.in-None.ensures.item))
    ]
