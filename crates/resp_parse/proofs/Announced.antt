-- What a header announces, as a machine begins it.
use Rattle.std.proofs.Common.{◌≡◌, ◌<◌, ℕ, zero, suc, pos, ap, List, [], ◌∷◌, All, refl, ◌∙◌, arith, codes, true, false}
use Rattle.std.proofs.Common.{Some, None, Result, Ok, Err}
use Rattle.std.specs.Str.{IsUtf8, is_utf8}
use Rattle.std.proofs.lemmas.Str.{IsUtf8-from_is_utf8, is_utf8-from_IsUtf8, IsUtf8-from_ascii}
use Rattle.std.proofs.lemmas.Str.Ascii.{IsAscii-from_all}
use Rattle.resp_value.specs.declared.value.Value.{Value, Nil, Okay, Int, Boolean}
use Rattle.resp_errors.specs.declared.kinds.FrameFault.{FrameFault}
use Rattle.resp_errors.specs.declared.kinds.FrameFault.TheVariants.{LineNotUtf8}
use Rattle.resp_parse.specs.declared.read_error.ReadError.{ReadError}
use Rattle.resp_parse.specs.declared.read_error.ReadError.TheVariants.{Memory, Fault}
use Rattle.resp_parse.specs.declared.type_byte.TypeByte.{TypeByte}
use Rattle.resp_parse.specs.declared.type_byte.TypeByte.TheVariants as type_byte
use Rattle.resp_parse.specs.declared.shape.BodyKind.{BodyKind}
use Rattle.resp_parse.specs.declared.shape.BodyKind.TheVariants as body_kind
use Rattle.resp_parse.specs.declared.shape.ElementsKind.{ElementsKind}
use Rattle.resp_parse.specs.declared.shape.Shape.TheVariants as shape
use Rattle.resp_parse.specs.declared.open_aggregates.OpenAggregate.{OpenAggregate}
use Rattle.resp_parse.specs.declared.body.Body.{Body}
use Rattle.resp_parse.specs.Building.{BeginsBody, BeginsAggregate}
use Rattle.resp_parse.specs.declared.machine.Machine.{Machine}
use Rattle.resp_parse.specs.Grammar.{Announcement, complete, or_nil, body as a_body, elements, announced, invalid}
use Rattle.resp_parse.specs.Grammar.{with_valid}
use Rattle.resp_parse.specs.Shapes.{Announces, announced_in_line, body_value, elements_value}
use Rattle.resp_parse.specs.Number.{IsNumeral, integer_in}
use Rattle.resp_parse.specs.PlainReading.{ReadOutcome, then, read_announced, read}
use Rattle.resp_parse.specs.Computes.{Computes}
use Rattle.resp_parse.specs.Resume.{place, depth_below, Goes}
use Rattle.resp_parse.proofs.ByteTests.{not_true}
use Rattle.resp_parse.proofs.OpenAggregates.{opens}

-- a header of a value inside these aggregates, where values are read down to d levels
module _ (d : ℕ) (fs : List OpenAggregate) (a : Announcement) where
  abbrev begins : List ℕ → ReadOutcome Value
  begins more = then (read_announced (read (depth_below d fs)) a more) (place d fs)

  pub announced-stops : {B : Type 0} (m : Machine B) (e : ReadError) → Announces (Err e) a → Goes begins m (Err e)
  announced-stops m Memory h = tt
  announced-stops m (Fault f) h = λ more. rw h refl

  pub announced-whole : {B : Type 0} (m : Machine B) (v : Value) (w : Value) → a ≡ complete v → w ≡ v → m.depth ≡ d
      → m.open_aggregates ≡ fs → m.body ≡ None → Goes begins m (Ok (Some w))
  announced-whole m v w h s l e b = ((λ more. rw (h, s, l, e) refl), b)

  pub announced-line : {B : Type 0} (m : Machine B) (r : Result Value FrameFault) (w : Value) → a
      ≡ with_valid r complete → Computes (Ok w) r → m.depth ≡ d → m.open_aggregates ≡ fs → m.body ≡ None
      → Goes begins m (Ok (Some w))
  announced-line m r w h c l e b = announced-whole m w w (h ∙ rw c refl) refl l e b

  pub announced-no_line : {B : Type 0} (m : Machine B) (r : Result Value FrameFault) (e : ReadError) → a
      ≡ with_valid r complete → Computes (Err e) r → Goes begins m (Err e)
  announced-no_line m r Memory h c = tt
  announced-no_line m r (Fault f) h c = λ more. rw h (rw c refl)

  pub announced-body : {B : Type 0} (m : Machine B) (kind : BodyKind) (n : ℕ) (body : Body)
      → Announces (Ok (shape.Body kind n)) a → m.depth ≡ d → m.open_aggregates ≡ fs → m.body ≡ Some body
      → BeginsBody kind n body → Goes begins m (Ok None)
  announced-body m kind n body h l e b i =
      ((λ more. rw (h, l, e, b) (rw (i.kind_is, i.missing_is, i.none) refl)), rw b refl)

-- a header of elements
module _ (d : ℕ) (fs : List OpenAggregate) (kind : ElementsKind) where
  abbrev begins_elements : ℕ → List ℕ → ReadOutcome Value
  begins_elements n more = then (read_announced (read (depth_below d fs)) (elements n (elements_value kind)) more)
      (place d fs)

  pub elements-empty : {B : Type 0} (m : Machine B) (n : ℕ) (v : Value) (w : Value) → n ≡ 0 → w ≡ v → m.depth ≡ d
      → m.open_aggregates ≡ fs → m.body ≡ None → Computes (Ok v) (elements_value kind [])
      → Goes (begins_elements n) m (Ok (Some w))
  elements-empty m n v w z s l e b c = ((λ more. rw (z, s, l, e) (rw c refl)), b)

  pub elements-refused : {B : Type 0} (m : Machine B) (n : ℕ) (e : ReadError) → n ≡ 0
      → Computes (Err e) (elements_value kind []) → Goes (begins_elements n) m (Err e)
  elements-refused m n Memory z c = tt
  elements-refused m n (Fault f) z c = λ more. rw z (rw c refl)

  pub elements-opened : {B : Type 0} (m : Machine B) (n k : ℕ) (size : ℕ) (f : OpenAggregate) → n ≡ suc k
      → BeginsAggregate kind size k f → m.depth ≡ d → m.open_aggregates ≡ f ∷ fs → m.body ≡ None
      → Goes (begins_elements n) m (Ok None)
  elements-opened m n k size f z i l e b = (
    (λ more. rw (z, l, e, b) (opens d k kind f fs more i.kind_is i.after_is i.none)),
    rw (e, b) refl,
  )

-- a line that is text announces what its text does, and another is at fault
module _ (kind : TypeByte) (line : List ℕ) where
  pub in_line-text : IsUtf8 line → announced_in_line kind line ≡ announced kind line
  in_line-text u = rw (is_utf8-from_IsUtf8 line u) refl

  pub in_line-bytes : (IsUtf8 line → ⊥) → announced_in_line kind line ≡ invalid LineNotUtf8
  in_line-bytes none = rw (not_true (is_utf8 line) (λ t. none (IsUtf8-from_is_utf8 line t))) refl

-- a number is how long a bulk string is
pub announced-bulk : (line : List ℕ) (n : ℕ) → IsNumeral line n → announced_in_line type_byte.BulkString line
    ≡ a_body n (body_value body_kind.Bulk)
announced-bulk line n i =
    let e : integer_in line ≡ Ok (pos n) = rw (integer_in, i.value) refl in
    in_line-text type_byte.BulkString line i.text_is
    ∙ ap (λ r. with_valid r (or_nil (λ k. a_body k (body_value body_kind.Bulk)))) e

-- lines that need no reading

ascii-utf8 : (text : List ℕ) → All (λ b. b < 128) text → IsUtf8 text
ascii-utf8 text h = IsUtf8-from_ascii text (IsAscii-from_all text h)

one-utf8 : (a : ℕ) → a < 128 → IsUtf8 (a ∷ [])
one-utf8 a l = ascii-utf8 (a ∷ []) below
  where
    below : All (λ b. b < 128) (a ∷ [])
    below zero d k = l
    below (suc n) d k = absurd (omega arith)

ok-utf8 : IsUtf8 (codes "OK")
ok-utf8 = ascii-utf8 (codes "OK") below
  where
    below : All (λ b. b < 128) (codes "OK")
    below zero d k = omega arith
    below (suc zero) d k = omega arith
    below (suc (suc n)) d k = absurd (omega arith)

none-utf8 : IsUtf8 []
none-utf8 = ascii-utf8 [] (λ n d k. absurd (omega arith))

pub ok-announced : announced_in_line type_byte.SimpleString (codes "OK") ≡ complete Okay
ok-announced = in_line-text type_byte.SimpleString (codes "OK") ok-utf8

pub nil-announced : announced_in_line type_byte.Null [] ≡ complete Nil
nil-announced = in_line-text type_byte.Null [] none-utf8

pub true-announced : announced_in_line type_byte.Boolean (codes "t") ≡ complete (Boolean true)
true-announced = in_line-text type_byte.Boolean (codes "t") (one-utf8 116 (omega arith))

pub false-announced : announced_in_line type_byte.Boolean (codes "f") ≡ complete (Boolean false)
false-announced = in_line-text type_byte.Boolean (codes "f") (one-utf8 102 (omega arith))

-- a number is an integer
pub announced-int : (line : List ℕ) (n : ℕ) → IsNumeral line n → announced_in_line type_byte.Integer line
    ≡ complete (Int (pos n))
announced-int line n i =
    let e : integer_in line ≡ Ok (pos n) = rw (integer_in, i.value) refl in
    in_line-text type_byte.Integer line i.text_is ∙ ap (λ r. with_valid r (λ k. complete (Int k))) e
