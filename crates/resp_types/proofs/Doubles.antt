-- Doubles by their texts: a reply is one double at most.
use Rattle.std.proofs.Common.{◌≡◌, ℕ, List, [], true, Result, Ok, Err, sym, ap, subst, inl, inr, rules, ◌∙◌}
use Rattle.std.specs.Result.{IsErr, IsErrAnd}
use Rattle.resp_errors.specs.declared.parsing_error.ParsingError.{ParsingError}
use Rattle.resp_errors.specs.declared.parsing_error.ParsingError.TheVariants as parsing
use Rattle.resp_value.specs.declared.value.Value.{Value, Double, out-Value, the_lemmas}
use Rattle.resp_value.specs.declared.value.Value.TheOpen.{Value-F}
use Rattle.resp_from.specs.Attributes.{stripped}
use Rattle.resp_from.specs.Conversion.{Converts, Decides, RefusesIf}
use Rattle.resp_from.proofs.Conversions.{Converts-err, RefusesIf-along}
use Rattle.resp_from.specs.Texts.{IsText, OfText}
use Rattle.resp_parse.specs.Double.{is_double}
use Rattle.resp_types.specs.Doubles.{IsDoubleOf, OfDouble, SpellsDouble}
use Rattle.resp_types.specs.lemmas.Scalars.{one_text}

abbrev text_in : Value → List ℕ
text_in (Double text) = text
text_in _ = []

bare_double : (text : List ℕ) → out-Value (stripped (Double text)) ≡ Value-F.Double text
bare_double text = search (rules, the_lemmas)

-- a double is no text
no_text : (v : Value) (x y : List ℕ) → v ≡ Double x → OfText v y → ⊥
no_text v x y is of = subst (λ layer. IsText layer y) (bare_double x) (subst (λ w. OfText w y) is of)

one_text_of : (v : Value) (x y : List ℕ) → IsDoubleOf v x → IsDoubleOf v y → x ≡ y
one_text_of v x y (inl p) (inl q) = ap text_in (sym p ∙ q)
one_text_of v x y (inl p) (inr k) = absurd (no_text v x y p k)
one_text_of v x y (inr h) (inl q) = absurd (no_text v y x q h)
one_text_of v x y (inr h) (inr k) = one_text v x y h k

-- where the reply has no text, it is no double
pub refused : (v w : Value) (r : Result (List ℕ) ParsingError) (e : ParsingError) → w ≡ stripped v
    → IsErr r × IsErrAnd r (λ d. d ≡ e) → RefusesIf e ((x : List ℕ) → IsDoubleOf w x → ⊥)
    → Converts (OfDouble v) r
refused v w r e same h none = Converts-err (OfDouble v) r e h (RefusesIf-along e
    (λ (no : (x : List ℕ) → IsDoubleOf w x → ⊥) x is.
    no x (subst (λ u. IsDoubleOf u x) (sym same) is.text)) none)

-- of its one text it is decided whether that is a double's
pub decided : (v w : Value) (text : List ℕ) (r : Result (List ℕ) ParsingError) → w ≡ stripped v
    → IsDoubleOf w text → Decides (SpellsDouble text) r → Converts (OfDouble v) r
decided v w text (Ok x) same h spells = record {
  is_one = subst (λ t. is_double t ≡ true) (sym spells.same) spells.is_one;
  text = subst (λ u. IsDoubleOf u x) same (subst (IsDoubleOf w) (sym spells.same) h);
}
decided v w text (Err (parsing.Described why)) same h none = λ x is.
    let one : x ≡ text = one_text_of w x text (subst (λ u. IsDoubleOf u x) (sym same) is.text) h in
    none.1 x (record { is_one = subst (λ t. is_double t ≡ true) one is.is_one; same = one })
decided v w text (Err (parsing.Fault fault)) same h none = none.0
decided v w text (Err parsing.OutOfMemory) same h none = tt
