use Rattle.std.proofs.Common.{◌≡◌, ◌<◌, ◌^◌, ℕ, ℤ, List, false, Ok, FitsSigned, sym, ◌∙◌, ap, subst, rules, arith, to_z}
use Rattle.std.proofs.Common.{of_z, w64}
use Rattle.std.proofs.Math.Facts.{to_z-of_z}
use Rattle.std.proofs.lemmas.Fmt.{parse-signed_decimal, IsAscii-signed}
use Rattle.std.proofs.lemmas.Slice.Eq.{bytes_eq-Decides}
use Rattle.std.proofs.lemmas.Str.{IsUtf8-from_ascii}
use Rattle.std.specs.Fmt.{signed_decimal}
use Rattle.std.specs.Int.Signed.{mag}
use Rattle.std.specs.Str.{IsUtf8, bytes_eq}
use Rattle.example_server.specs.Integers.{Writes, integer, written_back}
use Rattle.std.proofs.Common.{true, cond, Some, None}
use Rattle.std.specs.Result.{result_ok}
use Rattle.resp_parse.proofs.Numerals.{plain_number-from_parse}
use Rattle.resp_parse.specs.Number.{plain_number}
use Rattle.example_server.proofs.StrictIntegers.{no_text, parsed, fits-from_number}
use Rattle.example_server.proofs.integers.integer_of.Goals as goal

magnitude : (n : ℤ) → FitsSigned w64 n → mag n < 2 ^ 63
magnitude n fits = fits.sfits

-- what a server writes is text
written-IsUtf8 : (bytes : List ℕ) (n : ℤ) → Writes bytes n → IsUtf8 bytes
written-IsUtf8 bytes n writes =
    subst IsUtf8 (sym writes.1) (IsUtf8-from_ascii _ (IsAscii-signed n (magnitude n writes.0)))

differing : (xs ys : List ℕ) → xs ≡ ys → bytes_eq xs ys ≡ false → ⊥
differing xs ys same differ = grind (arith, bytes_eq-Decides xs ys)

pub returns-in_default-clause-writes : goal.returns-in_default-clause-writes
returns-in_default-clause-writes c = λ n writes.
    c.in_default.ensures.cases.0 (written-IsUtf8 c.args.bytes.now n writes)

pub returns-in_default-parse-clause-writes : goal.returns-in_default-parse-clause-writes
returns-in_default-parse-clause-writes c = λ n writes. c.in_default-parse.not-Ok n
    (parse-signed_decimal w64 n c.in-Ok.text.now c.parse.result writes.0 (magnitude n writes.0)
    (c.in-Ok.ensures.cases.0 ∙ writes.1) c.parse.ensures.value.0)

pub returns-else-eq-clause-writes : goal.returns-else-eq-clause-writes
returns-else-eq-clause-writes c = λ n writes.
    let read : c.parse.result ≡ Ok n = parse-signed_decimal w64 n c.in-Ok.text.now c.parse.result
    writes.0 (magnitude n writes.0) (c.in-Ok.ensures.cases.0 ∙ writes.1) c.parse.ensures.value.0 in
    let same : c.in-Ok-parse.number ≡ n = search (rules, read, c.in-Ok-parse.is) in
    let back : to_z w64 (of_z w64 c.in-Ok-parse.number) ≡ n =
    ap (λ z. to_z w64 (of_z w64 z)) same ∙ to_z-of_z writes.0 in
    let text : c.as_bytes.result.now ≡ c.args.bytes.now = c.as_bytes.ensures.value
    ∙ (c.format.ensures.text ∙ (ap signed_decimal back ∙ sym writes.1)) in
    differing c.as_bytes.result.now c.args.bytes.now text (sym c.eq.ensures ∙ c.if-eq.false)

pub returns-in_default-clause-value : goal.returns-in_default-clause-value
returns-in_default-clause-value c = no_text c.args.bytes.now c.in_default.ensures.cases.0

pub returns-in_default-parse-clause-value : goal.returns-in_default-parse-clause-value
returns-in_default-parse-clause-value c =
    ap (λ r. written_back c.in-Ok.text.now (result_ok r)) (sym c.in_default-parse.is)
    ∙ parsed c.in-Ok.text.now c.parse.result c.parse.ensures.value.0 ∙ ap integer c.in-Ok.ensures.cases.0

pub returns-then-eq-clause-value : goal.returns-then-eq-clause-value
returns-then-eq-clause-value c =
    let n : ℤ = c.in-Ok-parse.number in
    let text : c.in-Ok.text.now ≡ c.args.bytes.now = c.in-Ok.ensures.cases.0 in
    let read : plain_number c.args.bytes.now ≡ Some n = ap plain_number (sym text)
    ∙ sym (plain_number-from_parse c.in-Ok.text.now c.parse.result c.parse.ensures.value.0)
    ∙ ap result_ok c.in-Ok-parse.is in
    let back : to_z w64 (of_z w64 n) ≡ n = to_z-of_z (fits-from_number c.args.bytes.now n read) in
    let same : bytes_eq (signed_decimal n) c.args.bytes.now ≡ true =
    ap (λ t. bytes_eq t c.args.bytes.now) (sym (c.as_bytes.ensures.value ∙ c.format.ensures.text
    ∙ ap signed_decimal back)) ∙ sym c.eq.ensures ∙ c.if-eq.true in
    ap Some back ∙ sym (ap (λ b. cond b (Some n) None) same)
    ∙ sym (ap (written_back c.args.bytes.now) read)
