-- Lemmas: the fields of a reply are one list, so where no value is made of them none is made of the
-- reply. They lie in specs/ since an impl names nothing of its own crate that lies elsewhere.
use Rattle.std.specs.Prelude.{◌≡◌, Result, Ok, Err, string_bytes, string_cmp}
use Rattle.std.specs.Cmp.Lexicographic.{slice_cmp}
use Rattle.std.specs.Ordering.{nat_cmp}
use Rattle.std.proofs.Common.{sym, ap, subst, ◌∙◌}
use Rattle.std.specs.String.{string_cmp_total}
use Rattle.resp_errors.specs.declared.parsing_error.ParsingError.{ParsingError}
use Rattle.resp_value.specs.declared.value.Value.{Value}
use Rattle.resp_from.proofs.Conversions.{RefusesIf-along}
use Rattle.resp_from.specs.Conversion.{Converts, OfVia}
use Rattle.resp_from.specs.Texts.{OfText}
use Rattle.resp_types.specs.lemmas.Maps.{one_sorted_map}
use Rattle.resp_types.specs.lemmas.Scalars.{one_string}
use Rattle.resp_types.specs.Fields.{NamedValues, OfFields}

pub same_fields : (reply : Value) (f g : NamedValues) → OfFields reply f → OfFields reply g → f ≡ g
same_fields reply f g h k =
    h.from_gives
    ∙ (one_sorted_map string_cmp string_cmp_total (λ key text. OfText key (string_bytes text))
    string_bytes (λ x y z same. ap (slice_cmp nat_cmp (string_bytes z)) same) one_string
    (λ value v. v ≡ value) (λ v. v) (λ value v w i j. i ∙ sym j) reply h.via.entries
    k.via.entries h.fits k.fits
    ∙ sym k.from_gives)

pub made_of_fields : {X : Type 0} (Of : NamedValues → X → Type 0) (reply : Value)
    (fields : NamedValues) (r : Result X ParsingError) → OfFields reply fields
    → Converts (Of fields) r → Converts (OfVia OfFields Of reply) r
made_of_fields Of reply fields (Ok x) h made =
    record { via = fields; fits = h; from_gives = made }
made_of_fields {X} Of reply fields (Err e) h none =
    RefusesIf-along e (λ (f : (x : X) → Of fields x → ⊥) x made.
    f x (subst (λ fs. Of fs x) (same_fields reply made.via fields made.fits h) made.from_gives))
    none
