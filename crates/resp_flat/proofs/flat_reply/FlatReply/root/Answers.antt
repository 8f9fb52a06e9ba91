use Rattle.std.proofs.Common.{subst, Some}
use Rattle.resp_flat.specs.FlatValues.{View, IsShownIn, ShowsIf}
use Rattle.resp_flat.proofs.Shown.{first_shown, root_shown}
use Rattle.resp_flat.proofs.flat_reply.FlatReply.root.Goals as goal

pub returns-clause-shown : goal.returns-clause-shown
returns-clause-shown c = λ v flat. root_shown c.args.self.now v _ _ _ c.as_slice.ensures.value
    c.as_slice-2.ensures.value flat c.first.ensures

pub returns-clause-first : goal.returns-clause-first
returns-clause-first c = λ v shows.
    subst (λ (view : View). IsShownIn view v → ShowsIf c.first.result (Some v))
    (λ i. (c.as_slice.ensures.value i, c.as_slice-2.ensures.value i))
    (first_shown c.first.result _ _ v c.first.ensures) shows
