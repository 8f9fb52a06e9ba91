-- Lemma: a reply is one value of a type at most that is made of a value of another such type.
use Rattle.std.specs.Prelude.{◌≡◌}
use Rattle.std.proofs.Common.{sym, ap, ◌∙◌}
use Rattle.resp_value.specs.declared.value.Value.{Value}
use Rattle.resp_from.specs.Conversion.{OfVia}
use Rattle.resp_types.specs.OneValue.{IsSingleValued}

pub one_via : {T X S R : Type 0} {Of : Value → T → Type 0} {FromGives : T → X → Type 0}
    {seen : T → S} {own_seen : X → R} (look : S → R) → IsSingleValued Of seen
    → ((t : T) (x : X) → FromGives t x → own_seen x ≡ look (seen t))
    → IsSingleValued (OfVia Of FromGives) own_seen
one_via look single shows reply x y h k =
    let same = single reply h.via k.via h.fits k.fits in
    shows h.via x h.from_gives ∙ ap look same ∙ sym (shows k.via y k.from_gives)
