-- Lists of values of a type that is no tuple.
use Rattle.std.proofs.Common.{◌≡◌, ◌↔◌, ℕ, Bool, true, List, Vec, Global, Result, refl, sym, subst}
use Rattle.std.specs.List.{AllZip}
use Rattle.resp_errors.specs.declared.parsing_error.ParsingError.{ParsingError}
use Rattle.resp_value.specs.declared.value.Value.{Value, out-Value}
use Rattle.resp_value.specs.declared.value.Value.TheOpen.{Value-F}
use Rattle.resp_flat.specs.FlatValues.{elements_in, elements_of}
use Rattle.resp_from.specs.Conversion.{ConvertsList}
use Rattle.resp_from.specs.Lists.{IsVec, OfVec}
use Rattle.resp_from.specs.Rules.{OfList}
use Rattle.resp_from.specs.Lines.{is_list}
use Rattle.resp_from.proofs.Answering.{lists_alike}

module _ {X : Type 0} (each : Bool) (Of : Value → X → Type 0) where
  one-each : (items : List Value) (xs : List X) → OfList 0 Of items xs ↔ AllZip Of items xs
  one-each items xs = (
    λ h. subst (λ ps. AllZip Of ps xs) h.cut h.each,
    λ all. record { pieces = items; cut = refl; each = all },
  )

  layer : (y : Value-F Value) → is_list y ≡ true → (xs : List X) → IsVec 0 each Of y xs ↔ AllZip Of (elements_in y) xs
  layer (Value-F.Array items) is xs = one-each items xs
  layer (Value-F.Set items) is xs = one-each items xs
  layer _ is xs = absurd (cc)

  pub converts_elements : (n : ℕ) (v : Value) (r : Result (Vec X Global) ParsingError) → n ≡ 0
      → is_list (out-Value v) ≡ true → ConvertsList (AllZip Of (elements_of v)) r → ConvertsList (OfVec n each Of v) r
  converts_elements n v r none is h =
      subst (λ k. ConvertsList (OfVec k each Of v) r) (sym none)
      (lists_alike (OfVec 0 each Of v) (AllZip Of (elements_of v)) r (layer (out-Value v) is) h)
