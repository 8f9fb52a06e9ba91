use Rattle.std.proofs.Common.{◌≡◌, ℕ, ◌+◌, ◌-◌, ◌<◌, ◌≤◌, List, ◌++◌, true, nat_lt, nat_le, Ok, arith, ap, sym, ◌∙◌}
use Rattle.std.proofs.lemmas.Bool.{lt-ltb, le-leb}
use Rattle.std.specs.List.{range_with_len}
use Rattle.resp_routing.specs.Keys.{both, counted}
use Rattle.resp_routing.proofs.Appending.{push_range}
use Rattle.resp_routing.proofs.keys.push_counted.Goals as goal

all_counted : (old new : List ℕ) (first count left position : ℕ) → 0 < count → count ≤ left → position ≡ first + count
    → new ≡ old ++ range_with_len first (position - first) → both (Ok old) (counted first count left) ≡ Ok new
all_counted old new first count left position some fits end held =
    let one : nat_lt 0 count ≡ true = lt-ltb 0 count some in
    let two : nat_le count left ≡ true = le-leb count left fits in
    let steps : position - first ≡ count = omega arith in
    rw (one, two) (ap Ok (sym (held ∙ ap (λ n. old ++ range_with_len first n) steps)))

pub loop-position-preserved : goal.loop-position-preserved
loop-position-preserved c =
    push_range _ _ _ c.args.first c.loop-position.position (omega arith) c.loop-position.invariant c.in_ok-push.ensures.items

pub returns : goal.returns
returns c =
    all_counted _ _ c.args.first c.args.count c.args.left c.loop-position.position (omega arith) (omega arith) (omega arith)
    c.loop-position.invariant
