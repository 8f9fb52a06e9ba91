use Rattle.std.proofs.Common.{◌∙◌, ◌≡◌, ◌/◌, ◌≤◌, ◌-◌, ◌^◌, ◌*◌, min, length, ap, sym, subst, List, ℕ, arith}
use Rattle.std.specs.List.{AllZip}
use Rattle.resp_flat.specs.FlatValues.{View, BothAreShownIn, views_from, two_by_two, elements_left, pairs_left}
use Rattle.resp_flat.specs.FlatValues.{pairs_of}
use Rattle.resp_flat.proofs.Shown.{pairs_shown, pairs-short}
use Rattle.resp_flat.proofs.ViewCounts.{one_for_each, pairs_counted, elements_fewer}
use Rattle.resp_flat.proofs.flat_value.FlatValue.pairs.Goals as goal

pub returns-clause-shown : goal.returns-clause-shown
returns-clause-shown c = λ v shows.
    let self = c.args.self.now in
    let short : length self.others.now ≤ 2 ^ 64 - 1 = omega arith in
    subst (λ (ws : List (View × View)). AllZip BothAreShownIn ws (pairs_of v))
    (sym (c.over.ensures.left ∙ ap
    (λ (n : ℕ). two_by_two (views_from (min (n * 2) (2 ^ 64 - 1)) self.others.now self.text.now))
    c.pair_count.ensures))
    (pairs_shown self v (2 ^ 64 - 1) shows short)

pub returns-clause-all : goal.returns-clause-all
returns-clause-all c = λ v shows.
    let self = c.args.self.now in
    let short : length self.others.now ≤ 2 ^ 64 - 1 = omega arith in
    let parts = c.over.result.parts in
    let count : parts.left ≡ length (pairs_of v) * 2 = c.over.ensures.count
    ∙ ap (λ (n : ℕ). min (n * 2) (2 ^ 64 - 1)) c.pair_count.ensures ∙ pairs-short self v (2 ^ 64 - 1) shows short in
    let same : length (pairs_left c.over.result)
    ≡ length (pairs_of v) = one_for_each BothAreShownIn _ _ (returns-clause-shown c v shows) in
    let half : length (pairs_left c.over.result)
    ≡ length (elements_left parts) / 2 = pairs_counted (elements_left parts) in
    let most : length (elements_left parts) ≤ parts.left = elements_fewer parts in
    record { all = omega arith }
