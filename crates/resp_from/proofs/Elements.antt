-- The elements of a value, converted one after another to a list.
use Rattle.std.proofs.Common.{List, [], ◌∷◌, ◌++◌, Some}
use Rattle.std.specs.List.{AllZip}
use Rattle.resp_errors.specs.declared.parsing_error.ParsingError.{ParsingError}
use Rattle.resp_value.specs.declared.value.Value.{Value}
use Rattle.resp_from.specs.Conversion.{RefusesIf}
use Rattle.resp_from.specs.Replies.{GivesNext}
use Rattle.resp_from.proofs.Conversions.{RefusesIf-along, AllZip-more, AllZip-none}
use Rattle.resp_from.proofs.OneByOne.{AtSome, next, at_next}

module _ {R X : Type 0} (Shows : R → Value → Type 0) (Of : Value → X → Type 0) where
  pub one_more : (Before Left : List Value → Type 0) (r : R) (xs : List X) (vs : List Value) (x : X)
      (h : AtSome Before (λ done. AllZip Of done xs) vs) → GivesNext Shows Left (Some r) h.others
      → ((w : Value) → Shows r w → Of w x) → AtSome Left (λ done. AllZip Of done (xs ++ x ∷ [])) vs
  one_more Before Left r xs vs x h given of =
      at_next Shows Left Before (λ done. AllZip Of done xs) (λ done. AllZip Of done (xs ++ x ∷ [])) r vs h given
      (λ done w made shown. AllZip-more Of done xs w x made (of w shown))

  pub none_more : (Before Left : List Value → Type 0) (r : R) (xs : List X) (vs : List Value) (e : ParsingError)
      (h : AtSome Before (λ done. AllZip Of done xs) vs) → GivesNext Shows Left (Some r) h.others
      → ((w : Value) → Shows r w → RefusesIf e ((x : X) → Of w x → ⊥))
      → RefusesIf e ((ys : List X) → AllZip Of vs ys → ⊥)
  none_more Before Left r xs vs e h given none =
      let n = next Shows Left r h.done h.others vs h.whole given in
      RefusesIf-along e (AllZip-none Of vs h.done n.value n.others n.whole) (none n.value n.shown)
