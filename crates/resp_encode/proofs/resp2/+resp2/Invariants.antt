use Rattle.std.proofs.Common.{◌≡◌, ◌++◌, map, drop}
use Rattle.resp_encode.specs.Resp2.{flat, resp2_of}
use Rattle.resp_encode.proofs.resp2.+resp2.Given as goal

abbrev pub invariant-push_forms-loop-element : goal.invariant-push_forms-loop-element
invariant-push_forms-loop-element l = l.forms ++ map resp2_of (drop l.element-index l.elements)
    ≡ l.initial.forms ++ map resp2_of l.elements

abbrev pub invariant-push_flat_forms-loop-key : goal.invariant-push_flat_forms-loop-key
invariant-push_flat_forms-loop-key l = l.forms
    ++ flat (map (λ p. (resp2_of p.0, resp2_of p.1)) (drop l.key-index l.pairs))
    ≡ l.initial.forms ++ flat (map (λ p. (resp2_of p.0, resp2_of p.1)) l.pairs)
