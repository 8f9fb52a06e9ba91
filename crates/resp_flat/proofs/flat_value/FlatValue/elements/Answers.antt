use Rattle.std.proofs.Common.{◌∙◌, ap, sym, subst, List, ℕ}
use Rattle.std.specs.List.{AllZip}
use Rattle.resp_flat.specs.FlatValues.{View, IsShownIn, views_from, elements_of}
use Rattle.resp_flat.proofs.ViewCounts.{one_for_each}
use Rattle.resp_flat.proofs.Shown.{elements_shown, elements_counted}
use Rattle.resp_flat.proofs.flat_value.FlatValue.elements.Goals as goal

pub returns-clause-shown : goal.returns-clause-shown
returns-clause-shown c = λ v shows.
    let self = c.args.self.now in
    subst (λ (ws : List View). AllZip IsShownIn ws (elements_of v))
    (sym (c.over.ensures.left ∙ ap (λ (n : ℕ). views_from n self.others.now self.text.now) c.element_count.ensures))
    (elements_shown self v shows)

pub returns-clause-all : goal.returns-clause-all
returns-clause-all c = λ v shows. record {
  all = one_for_each IsShownIn _ _ (returns-clause-shown c v shows)
      ∙ sym (c.over.ensures.count ∙ c.element_count.ensures ∙ elements_counted c.args.self.now v shows);
}
