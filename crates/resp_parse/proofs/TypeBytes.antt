-- A byte has a type exactly where it is that type's byte.
use Rattle.std.proofs.Common.{◌≡◌, ◌≢◌, ℕ, Bool, true, false, cond, ◌==◌, Option, Some, None, refl, sym, ap, ◌∙◌}
use Rattle.std.proofs.lemmas.Bool.Decides.{Decides-eqb}
use Rattle.resp_parse.specs.declared.type_byte.TypeByte.{TypeByte}
use Rattle.resp_parse.specs.declared.type_byte.TypeByte.TheVariants.{SimpleString, SimpleError, Integer, BulkString}
use Rattle.resp_parse.specs.declared.type_byte.TypeByte.TheVariants.{Array, Null, Boolean, Double, BigNumber, BulkError}
use Rattle.resp_parse.specs.declared.type_byte.TypeByte.TheVariants.{VerbatimString, Map, Attribute, Set, Push}
use Rattle.resp_parse.specs.TypeBytes.{byte_of, type_of}

pub type_of-byte_of : (kind : TypeByte) → type_of (byte_of kind) ≡ Some kind
unfolding type_of
type_of-byte_of SimpleString = refl
type_of-byte_of SimpleError = refl
type_of-byte_of Integer = refl
type_of-byte_of BulkString = refl
type_of-byte_of Array = refl
type_of-byte_of Null = refl
type_of-byte_of Boolean = refl
type_of-byte_of Double = refl
type_of-byte_of BigNumber = refl
type_of-byte_of BulkError = refl
type_of-byte_of VerbatimString = refl
type_of-byte_of Map = refl
type_of-byte_of Attribute = refl
type_of-byte_of Set = refl
type_of-byte_of Push = refl

-- the first row of a table of types, and the other rows
first_row : (c : ℕ) (row kind : TypeByte) (rows : Option TypeByte) → (rows ≡ Some kind → c ≡ byte_of kind)
    → cond (c == byte_of row) (Some row) rows ≡ Some kind → c ≡ byte_of kind
first_row c row kind rows later e = by_test (c == byte_of row) refl e
  where
    by_test : (t : Bool) → (c == byte_of row) ≡ t → cond t (Some row) rows ≡ Some kind → c ≡ byte_of kind
    by_test true t e = (Decides-eqb c (byte_of row)).0 t ∙ ap byte_of (let same : row ≡ kind = cc in same)
    by_test false t e = later e

pub byte_of-from_type_of : (c : ℕ) (kind : TypeByte) → type_of c ≡ Some kind → c ≡ byte_of kind
unfolding type_of
byte_of-from_type_of c kind =
    first_row c SimpleString kind _ (
    first_row c SimpleError kind _ (
    first_row c Integer kind _ (
    first_row c BulkString kind _ (
    first_row c Array kind _ (
    first_row c Null kind _ (
    first_row c Boolean kind _ (
    first_row c Double kind _ (
    first_row c BigNumber kind _ (
    first_row c BulkError kind _ (
    first_row c VerbatimString kind _ (
    first_row c Map kind _ (
    first_row c Attribute kind _ (
    first_row c Set kind _ (
    first_row c Push kind _ (λ e. absurd (cc))))))))))))))))

pub type_of-none : (c : ℕ) → ((kind : TypeByte) → c ≢ byte_of kind) → type_of c ≡ None
type_of-none c none = by_type (type_of c) refl
  where
    by_type : (t : Option TypeByte) → type_of c ≡ t → t ≡ None
    by_type None e = refl
    by_type (Some kind) e = absurd (none kind (byte_of-from_type_of c kind e))

pub no_byte_of : (c : ℕ) → type_of c ≡ None → (kind : TypeByte) → c ≢ byte_of kind
no_byte_of c e kind k = absurd (let z : Some kind ≡ None = sym (type_of-byte_of kind) ∙ ap type_of (sym k) ∙ e in cc)
