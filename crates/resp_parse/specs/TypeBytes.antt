-- The first byte of a value says its type (RESP, "RESP protocol description").
use Rattle.std.specs.Prelude.{ℕ, if◌then◌else◌, ◌==◌, Option, None, Some}
use Rattle.resp_parse.specs.declared.type_byte.TypeByte.{TypeByte}
use Rattle.resp_parse.specs.declared.type_byte.TypeByte.TheVariants.{SimpleString, SimpleError, Integer, BulkString}
use Rattle.resp_parse.specs.declared.type_byte.TypeByte.TheVariants.{Array, Null, Boolean, Double, BigNumber, BulkError}
use Rattle.resp_parse.specs.declared.type_byte.TypeByte.TheVariants.{VerbatimString, Map, Attribute, Set, Push}

-- the byte of a type
abbrev pub byte_of : TypeByte → ℕ
byte_of SimpleString = 43  -- +
byte_of SimpleError = 45  -- -
byte_of Integer = 58  -- :
byte_of BulkString = 36  -- $
byte_of Array = 42  -- *
byte_of Null = 95  -- _
byte_of Boolean = 35  -- #
byte_of Double = 44  -- ,
byte_of BigNumber = 40  -- (
byte_of BulkError = 33  -- !
byte_of VerbatimString = 61  -- =
byte_of Map = 37  -- %
byte_of Attribute = 124  -- |
byte_of Set = 126  -- ~
byte_of Push = 62  -- >

-- the type of a byte, if it is one's
unfoldable pub type_of : ℕ → Option TypeByte
type_of c =
    if c == byte_of SimpleString then Some SimpleString else
    if c == byte_of SimpleError then Some SimpleError else
    if c == byte_of Integer then Some Integer else
    if c == byte_of BulkString then Some BulkString else
    if c == byte_of Array then Some Array else
    if c == byte_of Null then Some Null else
    if c == byte_of Boolean then Some Boolean else
    if c == byte_of Double then Some Double else
    if c == byte_of BigNumber then Some BigNumber else
    if c == byte_of BulkError then Some BulkError else
    if c == byte_of VerbatimString then Some VerbatimString else
    if c == byte_of Map then Some Map else
    if c == byte_of Attribute then Some Attribute else
    if c == byte_of Set then Some Set else
    if c == byte_of Push then Some Push else
    None
