use Rattle.std.proofs.Common.{◌≡◌, List, ℕ, ℤ, Result, Ok, Err, Some, None, sym, ap, subst, ◌∙◌, inl, to_z-of_z}
use Rattle.std.specs.Int.{w64}
use Rattle.std.specs.Option.{option_copied}
use Rattle.std.specs.Result.{OkIff, result_ok}
use Rattle.std.specs.Str.Parse.{ParsesSigned, IsNumeral, without_leading_sign, signed_digits_value}
use mir.Val.{SFits, to_z, of_z}
use Rattle.resp_parse.specs.Number.{plain_number}
use Rattle.resp_parse.proofs.Numerals.{plain_number-from_parse}
use Rattle.resp_connect.specs.Addresses.{database}
use Rattle.resp_connect.specs.declared.address.refusal.Refusal.TheVariants.{Database}
use Rattle.resp_connect.proofs.address.parts.database.Goals as goal

parsed : {E : Type 0} (text : List ℕ) (r : Result ℤ E) → ParsesSigned w64 10 text r → (n : ℤ) → r ≡ Ok n
    → (database (Some text) ≡ Ok (to_z w64 (of_z w64 n))) × SFits w64 (to_z w64 (of_z w64 n))
unfolding database
parsed {E} text r h n is =
    let number : plain_number text ≡ Some n = sym (plain_number-from_parse text r h) ∙ ap result_ok is in
    let value = signed_digits_value 10 text in
    let P : Type 0 = IsNumeral 10 (without_leading_sign text) × SFits w64 value in
    let ok : Result ℤ E = Ok n in
    let read : OkIff ok P value = subst (λ q. OkIff q P value) is h in
    let fits : SFits w64 n = subst (λ k. SFits w64 k) (sym read.1) read.0.1 in
    let same = to_z-of_z fits in
    (rw (number, database) (ap Ok (sym same)), subst (λ k. SFits w64 k) (sym same) fits)

not_parsed : {E : Type 0} (text : List ℕ) (r : Result ℤ E) → ParsesSigned w64 10 text r → (e : E) → r ≡ Err e
    → database (Some text) ≡ Err Database
unfolding database
not_parsed text r h e is =
    let none : plain_number text ≡ None = sym (plain_number-from_parse text r h) ∙ ap result_ok is in
    rw (none, database)

pub returns-in-Ok-clause-read : goal.returns-in-Ok-clause-read
returns-in-Ok-clause-read c =
    ap (λ o. database (option_copied o)) c.in-Some.is
    ∙ (parsed c.in-Some.text.now c.parse.result c.parse.ensures.value.0 c.in-Ok.db c.in-Ok.is).0

pub returns-in-Ok-clause-fits : goal.returns-in-Ok-clause-fits
returns-in-Ok-clause-fits c =
    (parsed c.in-Some.text.now c.parse.result c.parse.ensures.value.0 c.in-Ok.db c.in-Ok.is).1

pub returns-in-Err-clause-read : goal.returns-in-Err-clause-read
returns-in-Err-clause-read c =
    inl (ap (λ o. database (option_copied o)) c.in-Some.is
    ∙ not_parsed c.in-Some.text.now c.parse.result c.parse.ensures.value.0 c.in-Err.field-0 c.in-Err.is)
