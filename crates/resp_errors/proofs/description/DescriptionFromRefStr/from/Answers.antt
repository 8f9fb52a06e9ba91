use Rattle.std.proofs.Common.{◌≡◌, ℕ, List, Bool, true, false, length, nat_le, cond, refl, ◌∙◌, arith}
use Rattle.std.specs.Fmt.Cut.{cut_to}
use Rattle.resp_errors.specs.Descriptions.{fitting}
use Rattle.resp_errors.proofs.description.DescriptionFromRefStr.from.Goals as goal

cond_same : {A : Type 0} (b : Bool) (x y : A) → cond b x y ≡ cond b x (cond b x y)
cond_same true x y = refl
cond_same false x y = refl

cut_is_fitting : (text : List ℕ) → cut_to 64 text ≡ fitting text
unfolding cut_to
cut_is_fitting text = cond_same (nat_le (length text) 64) text _

pub returns : goal.returns
returns c =
    let to_end = rw (c.new.ensures.text) at (c.and_str.ensures.to_end (omega arith)) in
    to_end ∙ cut_is_fitting c.args.text.now
