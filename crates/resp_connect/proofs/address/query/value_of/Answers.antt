use Rattle.std.proofs.Common.{◌≡◌, ◌+◌, ◌∙◌, sym, ap, drop, rules, Some}
use Rattle.std.proofs.lemmas.List.{drop_all}
use Rattle.std.specs.Option.{option_copied, option_or}
use Rattle.resp_connect.specs.Queries.{value_of}
use Rattle.resp_connect.proofs.LookUps.{found_here, not_found_here, value_of-nil}
use Rattle.resp_connect.proofs.address.query.value_of.Goals as goal
use Rattle.resp_connect.proofs.address.query.value_of.Goals.{then-eq_str, else-eq_str}

pub loop-other-preserved : goal.loop-other-preserved
loop-other-preserved c =
    let items = c.as_slice-other-items.result.now in
    let name = c.args.name.now in
    let i = c.loop-other.other-index in
    let before = option_copied c.loop-other.found in
    elim c.if-eq_str.branch [
      | then-eq_str w ↦
          let value : option_copied c.if-eq_str.found ≡ Some c.loop-other-item.result.1 = search rules in
          ap (option_or (value_of name (drop (i + 1) items))) value
          ∙ found_here name items i c.loop-other-item.result before c.loop-other-test.true c.loop-other-item.is (search rules)
          ∙ c.loop-other.invariant
      | else-eq_str w ↦
          ap (λ o. option_or (value_of name (drop (i + 1) items)) (option_copied o)) w.found-is
          ∙ not_found_here name items i c.loop-other-item.result before c.loop-other-test.true c.loop-other-item.is (search rules)
          ∙ c.loop-other.invariant
    ]

pub returns : goal.returns
returns c =
    let items = c.as_slice-other-items.result.now in
    let name = c.args.name.now in
    let ended = ap (value_of name) (drop_all c.loop-other.other-index items c.loop-other-test.false) ∙ value_of-nil name in
    ap (λ o. option_or o (option_copied c.loop-other.found)) (sym ended) ∙ c.loop-other.invariant
