-- The grammar of replies (RESP, "RESP protocol description"): a type byte, a line, and what the
-- line announces.
use Rattle.std.specs.Prelude.{◌≡◌, ◌≢◌, ℕ, zero, suc, ◌+◌, ◌-◌, ◌*◌, ◌<◌, Bool, true, false, cond, ◌==◌, List, [], ◌∷◌}
use Rattle.std.specs.Prelude.{◌++◌, length, take, codes, ℤ, pos, negsuc, Option, None, Some, Result, Ok, Err}
use Rattle.std.specs.List.{position_or_len, before_first, after_first}
use Rattle.std.specs.Str.{IsUtf8, is_utf8, bytes_eq}
use Rattle.resp_containers.specs.Lossy.{lossy}
use Rattle.resp_value.specs.declared.value.Value.{Value, Nil, Okay, Int, SimpleString, BulkString, Array, Map}
use Rattle.resp_value.specs.declared.value.Value.{Attribute, ServerError, Boolean, BigNumber, Set, VerbatimString, Push}
use Rattle.resp_value.specs.declared.names.PushKind.{PushKind}
use Rattle.resp_errors.specs.declared.kinds.FrameFault.{FrameFault}
use Rattle.resp_errors.specs.declared.kinds.FrameFault.TheVariants.{TooDeep, UnknownType, LineNotUtf8, BodyEnd}
use Rattle.resp_errors.specs.declared.kinds.FrameFault.TheVariants.{NotBoolean, NoVerbatimFormat, BadPushKind}
use Rattle.resp_value.specs.Names.{kind_named, format_named}
use Rattle.resp_errors.specs.ServerErrors.{server_error}
use Rattle.resp_value.specs.Views.{pairs}
use Rattle.resp_parse.specs.declared.type_byte.TypeByte.{TypeByte}
use Rattle.resp_parse.specs.declared.type_byte.TypeByte.TheVariants as type_byte
use Rattle.resp_parse.specs.TypeBytes.{byte_of}
use Rattle.resp_parse.specs.Lines.{crlf, NoBreak}
use Rattle.resp_parse.specs.Number.{integer_in, length_in}
use Rattle.resp_parse.specs.Double.{double_in}

-- what the line of a header announces: a value that is complete with it; a body of n bytes; n
-- elements; or nothing, since the line is invalid
pub data Announcement : Type 0 where
  complete : Value → Announcement
  body : ℕ → (List ℕ → Result Value FrameFault) → Announcement
  elements : ℕ → (List Value → Result Value FrameFault) → Announcement
  invalid : FrameFault → Announcement

-- what a line announces by what it holds, or that it is invalid
abbrev pub with_valid : {A : Type 0} → Result A FrameFault → (A → Announcement) → Announcement
with_valid (Ok x) follows = follows x
with_valid (Err f) follows = invalid f

-- a length, where a negative one stands for a null
abbrev pub or_nil : (ℕ → Announcement) → ℤ → Announcement
or_nil follows (pos n) = follows n
or_nil follows (negsuc n) = complete Nil

-- a push without a kind and without data
abbrev pub empty_push : Value
empty_push = Push (kind_named []) []

-- a length, where a negative one and 0 stand for an empty push
abbrev pub or_empty_push : (ℕ → Announcement) → ℤ → Announcement
or_empty_push follows (pos zero) = complete empty_push
or_empty_push follows (pos (suc n)) = follows (suc n)
or_empty_push follows (negsuc n) = complete empty_push

-- + a simple string
abbrev pub simple : List ℕ → Value
simple text = cond (bytes_eq text (codes "OK")) Okay (SimpleString text)

-- # a boolean: exactly t or f
abbrev pub boolean_in : List ℕ → Result Value FrameFault
boolean_in text =
    cond (bytes_eq text (codes "t")) (Ok (Boolean true))
    (cond (bytes_eq text (codes "f")) (Ok (Boolean false)) (Err NotBoolean))

-- ! a bulk error
abbrev pub bulk_error : List ℕ → Value
bulk_error bytes = ServerError (server_error (lossy bytes))

abbrev pub is_colon : ℕ → Bool
is_colon byte = byte == 58

-- a verbatim text is cut at its first colon
abbrev pub verbatim_text : List ℕ → Result Value FrameFault
verbatim_text text = cond (position_or_len is_colon text == length text)
    (Err NoVerbatimFormat)
    (Ok (VerbatimString (format_named (before_first is_colon text)) (after_first is_colon text)))

-- = a verbatim string
abbrev pub verbatim : List ℕ → Result Value FrameFault
verbatim bytes = verbatim_text (lossy bytes)

-- the last of a list that isn't empty
abbrev pub last_element : List Value → Value
last_element [] = Nil
last_element (value ∷ []) = value
last_element (value ∷ next ∷ rest) = last_element (next ∷ rest)

-- | an attribute: pairs, and then the data
abbrev pub attribute : List Value → Value
attribute values = Attribute (last_element values) (pairs (take (length values - 1) values))

-- the kind that the first value of a push names, if it names one
abbrev pub push_kind : Value → Option PushKind
push_kind (SimpleString name) = Some (kind_named name)
push_kind (BulkString name) = cond (is_utf8 name) (Some (kind_named name)) None
push_kind _ = None

-- > a push: its kind, and then its data
abbrev pub push : List Value → Result Value FrameFault
push [] = Err BadPushKind
push (first ∷ payload) = elim (push_kind first) [
  | Some kind ↦ Ok (Push kind payload)
  | None ↦ Err BadPushKind
]

-- what the line of a value of this type announces
abbrev pub announced : TypeByte → List ℕ → Announcement
announced type_byte.SimpleString text = complete (simple text)
announced type_byte.SimpleError text = complete (ServerError (server_error text))
announced type_byte.Integer text = with_valid (integer_in text) (λ n. complete (Int n))
announced type_byte.BulkString text =
    with_valid (integer_in text) (or_nil (λ n. body n (λ bytes. Ok (BulkString bytes))))
announced type_byte.Array text =
    with_valid (integer_in text) (or_nil (λ n. elements n (λ values. Ok (Array values))))
announced type_byte.Null text = complete Nil
announced type_byte.Boolean text = with_valid (boolean_in text) complete
announced type_byte.Double text = with_valid (double_in text) complete
announced type_byte.BigNumber text = complete (BigNumber text)
announced type_byte.BulkError text =
    with_valid (length_in text) (λ n. body n (λ bytes. Ok (bulk_error bytes)))
announced type_byte.VerbatimString text = with_valid (length_in text) (λ n. body n verbatim)
announced type_byte.Map text =
    with_valid (length_in text) (λ n. elements (2 * n) (λ values. Ok (Map (pairs values))))
announced type_byte.Attribute text =
    with_valid (length_in text) (λ n. elements (2 * n + 1) (λ values. Ok (attribute values)))
announced type_byte.Set text =
    with_valid (integer_in text) (or_nil (λ n. elements n (λ values. Ok (Set values))))
announced type_byte.Push text = with_valid (integer_in text) (or_empty_push (λ n. elements n push))

-- the bytes begin with the byte of this type and a line of this text, and the rest follows
pub record Header (b : List ℕ) (kind : TypeByte) (text rest : List ℕ) : Type 0 where
  pub bytes : b ≡ byte_of kind ∷ (text ++ (crlf ++ rest))
  pub unbroken : NoBreak text

-- a value as P says, and then bytes as Others says
pub record JoinedWith (P : List ℕ → Value → Type 0) (Others : List ℕ → Type 0) (b : List ℕ)
    (v : Value) : Type 0 where
  pub first : List ℕ
  pub others : List ℕ
  pub whole : b ≡ first ++ others
  pub first_is : P first v
  pub others_are : Others others

-- the bytes are values as P says, one after another
abbrev pub Joined : (List ℕ → Value → Type 0) → List ℕ → List Value → Type 0
Joined P b [] = b ≡ []
Joined P b (v ∷ vs) = JoinedWith P (λ others. Joined P others vs) b v

-- the bytes are a body of n bytes and its CR LF, and this is made of it
pub record BodyMakes (n : ℕ) (make : List ℕ → Result Value FrameFault) (b : List ℕ)
    (made : Result Value FrameFault) : Type 0 where
  pub content : List ℕ
  pub size : length content ≡ n
  pub whole : b ≡ content ++ crlf
  pub makes : make content ≡ made

-- the bytes are n elements as P says, and this is made of them
pub record ElementsMake (P : List ℕ → Value → Type 0) (n : ℕ)
    (make : List Value → Result Value FrameFault) (b : List ℕ)
    (made : Result Value FrameFault) : Type 0 where
  pub values : List Value
  pub size : length values ≡ n
  pub joined : Joined P b values
  pub makes : make values ≡ made

-- the bytes after a header are all that it announces, of elements as P says, and make the value
abbrev pub Follows : (List ℕ → Value → Type 0) → Announcement → List ℕ → Value → Type 0
Follows P (complete w) rest v = (rest ≡ []) × (v ≡ w)
Follows P (body n make) rest v = BodyMakes n make rest (Ok v)
Follows P (elements n make) rest v = ElementsMake P n make rest (Ok v)
Follows P (invalid f) rest v = ⊥

-- the bytes are a header, its line in UTF-8, and what it announces, of elements as P says
pub record Spelled (P : List ℕ → Value → Type 0) (b : List ℕ) (v : Value) : Type 0 where
  pub kind : TypeByte
  pub text : List ℕ
  pub rest : List ℕ
  pub header : Header b kind text rest
  pub text_is_utf8 : IsUtf8 text
  pub follows : Follows P (announced kind text) rest v

-- the bytes spell the value, where d levels are left
abbrev pub WellFormed : ℕ → List ℕ → Value → Type 0
WellFormed zero b v = ⊥
WellFormed (suc d) b v = Spelled (WellFormed d) b v

-- a body of n bytes, and then a byte that isn't CR, or CR and a byte that isn't LF
pub data EndIsMalformed (n : ℕ) (rest : List ℕ) : Type 0 where
  no_cr : (x : List ℕ) (c : ℕ) → length x ≡ n → c ≢ 13 → rest ≡ x ++ (c ∷ []) → EndIsMalformed n rest
  no_lf : (x : List ℕ) (c : ℕ) → length x ≡ n → c ≢ 10 → rest ≡ x ++ (13 ∷ c ∷ []) →
      EndIsMalformed n rest

-- a body of n bytes with a malformed end, or one of which the fault is made
pub data BodyIsMalformed (n : ℕ) (make : List ℕ → Result Value FrameFault) (rest : List ℕ)
    (f : FrameFault) : Type 0 where
  bad_end : f ≡ BodyEnd → EndIsMalformed n rest → BodyIsMalformed n make rest f
  refused : BodyMakes n make rest (Err f) → BodyIsMalformed n make rest f

-- fewer than n elements as P says, and then an element at fault as Q says
pub record ElementIsMalformed (P : List ℕ → Value → Type 0) (Q : List ℕ → FrameFault → Type 0) (n : ℕ)
    (rest : List ℕ) (f : FrameFault) : Type 0 where
  pub values : List Value
  pub before : List ℕ
  pub element : List ℕ
  pub fewer : length values < n
  pub whole : rest ≡ before ++ element
  pub joined : Joined P before values
  pub malformed : Q element f

-- a malformed element among the first n, or n elements of which the fault is made
pub data ElementsAreMalformed (P : List ℕ → Value → Type 0) (Q : List ℕ → FrameFault → Type 0) (n : ℕ)
    (make : List Value → Result Value FrameFault) (rest : List ℕ) (f : FrameFault) : Type 0 where
  bad_element : ElementIsMalformed P Q n rest f → ElementsAreMalformed P Q n make rest f
  refused : ElementsMake P n make rest (Err f) → ElementsAreMalformed P Q n make rest f

-- the bytes after a header end exactly where the fault shows
abbrev pub FaultFollows : (List ℕ → Value → Type 0) → (List ℕ → FrameFault → Type 0) →
    Announcement → List ℕ → FrameFault → Type 0
FaultFollows P Q (complete w) rest f = ⊥
FaultFollows P Q (body n make) rest f = BodyIsMalformed n make rest f
FaultFollows P Q (elements n make) rest f = ElementsAreMalformed P Q n make rest f
FaultFollows P Q (invalid g) rest f = (rest ≡ []) × (f ≡ g)

-- the first byte of a value, where no level is left
pub record NoLevelLeft (b : List ℕ) (f : FrameFault) : Type 0 where
  pub first : ℕ
  pub whole : b ≡ first ∷ []
  pub fault_is : f ≡ TooDeep

-- a byte of no type; a header whose line isn't UTF-8; or a header and the fault that follows it
pub data FaultShows (P : List ℕ → Value → Type 0) (Q : List ℕ → FrameFault → Type 0) (b : List ℕ)
    (f : FrameFault) : Type 0 where
  unknown_type : (c : ℕ) → b ≡ c ∷ [] → ((kind : TypeByte) → c ≢ byte_of kind) → f ≡ UnknownType →
      FaultShows P Q b f
  line_not_utf8 : (kind : TypeByte) (text : List ℕ) → Header b kind text [] → (IsUtf8 text → ⊥) →
      f ≡ LineNotUtf8 → FaultShows P Q b f
  after_header : (kind : TypeByte) (text rest : List ℕ) → Header b kind text rest → IsUtf8 text →
      FaultFollows P Q (announced kind text) rest f → FaultShows P Q b f

-- the bytes are a malformed value's beginning, exactly up to where the fault shows; d levels are
-- left
abbrev pub Malformed : ℕ → List ℕ → FrameFault → Type 0
Malformed zero b f = NoLevelLeft b f
Malformed (suc d) b f = FaultShows (WellFormed d) (Malformed d) b f
