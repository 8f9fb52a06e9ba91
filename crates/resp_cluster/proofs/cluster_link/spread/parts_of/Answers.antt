use Rattle.std.proofs.Common.{rules, refl, length, drop, ◌-◌, length-drop, length-take, arith}
use Rattle.std.proofs.lemmas.Result.{err_from_is_err_and}
use Rattle.resp_cluster.specs.Spread.{no_merge, unknown}
use Rattle.resp_cluster.proofs.Parting.{no_words, uneven_then}
use Rattle.resp_cluster.proofs.cluster_link.spread.parts_of.Goals as goal

pub returns-in_default-merge_of-clause-none : goal.returns-in_default-merge_of-clause-none
returns-in_default-merge_of-clause-none c = λ differ. no_merge c.in-Some.info.now (search rules) (search rules) refl

pub returns-in_default-args-clause-none : goal.returns-in_default-args-clause-none
returns-in_default-args-clause-none c = λ differ. unknown (no_words _ c.in_default-args.len_below) refl

pub returns-in_err-entries-clause-none : goal.returns-in_err-entries-clause-none
returns-in_err-entries-clause-none c =
    let p = err_from_is_err_and c.from_residual.result c.from_residual.ensures.1 in
    rw (p.1, p.2) (λ differ.
    let h = c.in_err-entries.ensures.refused differ in
    let back = length-drop 1 c.args.args.now in
    let cut = length-take (length c.args.args.now - 1) (drop 1 c.args.args.now) in
    uneven_then _ _ c.in-Some.info.now _ _ (omega (arith, back, cut, c.in-len1-up.len_at_least)) (search rules) c.width_of.ensures.width h.1 h.0)
