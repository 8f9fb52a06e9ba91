-- What the calls of a session do: what is returned, and what the session is then.
use Rattle.std.specs.Prelude.{◌≡◌, ◌≢◌, ◌+◌, ℕ, true, false, List, [], ◌++◌, length}
use Rattle.resp_value.specs.declared.value.Value.{Value}
use Rattle.resp_errors.specs.declared.kinds.FrameFault.{FrameFault}
use Rattle.resp_errors.specs.declared.kinds.FrameFault.TheVariants as frame
use Rattle.resp_errors.specs.declared.parsing_error.ParsingError.TheVariants as parsing
use Rattle.resp_errors.specs.declared.redis_error.RedisError.{RedisError}
use Rattle.resp_errors.specs.declared.redis_error.RedisError.TheVariants as form
use Rattle.resp_parse.specs.declared.limits.Limits.{Limits}
use Rattle.resp_parse.specs.Limited.{HasValue, HasFault, FaultShownAt, Awaits}
use Rattle.resp_parse.specs.State.{StandsAfter, FailedAfter, IsBetweenValues}
use Rattle.resp_flat.specs.declared.token.Token.{Token}
use Rattle.resp_flat.specs.declared.flat_reply.FlatReply.{FlatReply}
use Rattle.resp_flat.specs.FlatReplies.{IsFlatOf}
use Rattle.resp_c.specs.declared.session.Session.{Session}

-- the number of a fault
abbrev pub number_of : FrameFault → ℕ
number_of frame.TooDeep = 1
number_of frame.UnknownType = 2
number_of frame.LineNotUtf8 = 3
number_of frame.NotInteger = 4
number_of frame.NegativeLength = 5
number_of frame.BodyEnd = 6
number_of frame.NotBoolean = 7
number_of frame.NotDouble = 8
number_of frame.NoVerbatimFormat = 9
number_of frame.BadPushKind = 10
number_of frame.TooLong = 11
number_of frame.TooManyPushes = 12

-- the reply holds these
pub record Holds (reply : FlatReply) (tokens : List Token) (text : List ℕ) : Type 0 where
  pub tokens_are : reply.tokens.items ≡ tokens
  pub text_is : reply.text.items ≡ text

-- the session is between values, holds no bytes and no reply, and has met no fault
pub record IsNew (limits : Limits) (s : Session) : Type 0 where
  pub limits_are : s.parser.limits ≡ limits
  pub rest : IsBetweenValues s.parser
  pub empty : s.parser.unparsed ≡ []
  pub reply : Holds s.reply [] []
  pub fault : s.fault ≡ 0
  pub place : s.place ≡ 0

-- the parser has failed
abbrev pub HasFailed : Session → Type 0
HasFailed s = s.parser.failed ≡ true

-- it hasn't failed
abbrev pub Works : Session → Type 0
Works s = s.parser.failed ≡ false

-- The status of a call: 0 for more bytes that are needed, 1 for done, 2 for a fault, 3 for memory
-- that ran out, 4 for a parser that has failed before.

-- that of an error of a parser that hadn't failed
abbrev pub status_of : RedisError → ℕ
status_of (form.Parse (parsing.Fault f)) = 2
status_of _ = 3

-- after a fault its number and its place are kept
abbrev pub with_fault : RedisError → ℕ → Session → Session
with_fault (form.Parse (parsing.Fault f)) place s = record s { fault = number_of f; place = place }
with_fault _ place s = s

-- bytes were added; or nothing changed
pub data Fed (bytes : List ℕ) (s t : Session) (status : ℕ) : Type 0 where
  done : status ≡ 1 → Works s → ((b : List ℕ) → StandsAfter s.parser b → StandsAfter t.parser (b ++ bytes)) →
      t.parser.limits ≡ s.parser.limits → t ≡ record s { parser = t.parser } → Fed bytes s t status
  memory : status ≡ 3 → Works s → t ≡ s → Fed bytes s t status
  failed : status ≡ 4 → HasFailed s → t ≡ s → Fed bytes s t status

-- a prefix of b spells a value, which the reply holds, and what follows it stays
pub record GivesValue (b : List ℕ) (t : Session) : Type 0 where
  pub value : Value
  pub spelled : HasValue t.parser.limits b value t.parser.unparsed
  pub reply : IsFlatOf t.reply value
  pub rest : IsBetweenValues t.parser

-- a fault shows in b, whose number and place are kept, and the parser has failed
pub record MeetsFault (b : List ℕ) (t : Session) : Type 0 where
  pub fault : FrameFault
  pub shown : HasFault t.parser.limits b fault
  pub number : t.fault ≡ number_of fault
  pub place : FaultShownAt t.parser.limits b t.place
  pub failed : FailedAfter t.parser b

-- more bytes are needed; a value; a fault; memory ran out, and the parser has failed; or it had failed
-- before
pub data Taken (s t : Session) (status : ℕ) : Type 0 where
  more : status ≡ 0 → Works s →
      ((b : List ℕ) → StandsAfter s.parser b → Awaits t.parser.limits b × StandsAfter t.parser b) → Taken s t status
  value : status ≡ 1 → Works s → ((b : List ℕ) → StandsAfter s.parser b → GivesValue b t) → Taken s t status
  malformed : status ≡ 2 → Works s → ((b : List ℕ) → StandsAfter s.parser b → MeetsFault b t) → Taken s t status
  memory : status ≡ 3 → Works s → HasFailed t →
      ((b : List ℕ) → StandsAfter s.parser b → FailedAfter t.parser b) → Taken s t status
  failed : status ≡ 4 → HasFailed s → t.parser ≡ s.parser → Taken s t status

-- beside that, the limits stay; what gives no value leaves the reply empty; and what meets no fault
-- leaves the last one as it was
pub record Next (s t : Session) (status : ℕ) : Type 0 where
  pub taken : Taken s t status
  pub limits : t.parser.limits ≡ s.parser.limits
  pub empty : (status ≡ 1 → ⊥) → Holds t.reply [] []
  pub fault : (status ≡ 2 → ⊥) → (t.fault ≡ s.fault) × (t.place ≡ s.place)

-- the value at the start of the bytes, which the reply holds, and how many of them spell it
pub record GivesFirst (bytes : List ℕ) (taken : ℕ) (t : Session) : Type 0 where
  pub value : Value
  pub rest : List ℕ
  pub spelled : HasValue t.parser.limits bytes value rest
  pub reply : IsFlatOf t.reply value
  pub taken_is : taken + length rest ≡ length bytes

-- what stands at the start of bytes that are all there, and how many spell the value or show the fault
pub data FirstOf (bytes : List ℕ) (taken : ℕ) (t : Session) (status : ℕ) : Type 0 where
  more : status ≡ 0 → Awaits t.parser.limits bytes → taken ≡ 0 → FirstOf bytes taken t status
  value : status ≡ 1 → GivesFirst bytes taken t → FirstOf bytes taken t status
  malformed : status ≡ 2 → (f : FrameFault) → HasFault t.parser.limits bytes f → t.fault ≡ number_of f →
      FaultShownAt t.parser.limits bytes taken → t.place ≡ taken → FirstOf bytes taken t status
  memory : status ≡ 3 → taken ≡ 0 → FirstOf bytes taken t status

-- 1 where no bytes are held, 2 where some are that aren't part of a value that was taken, and 3 after
-- a failure
pub data StateIs (s : Session) (state : ℕ) : Type 0 where
  between : state ≡ 1 → Works s → ((b : List ℕ) → StandsAfter s.parser b → b ≡ []) → StateIs s state
  within : state ≡ 2 → Works s → ((b : List ℕ) → StandsAfter s.parser b → b ≢ []) → StateIs s state
  failed : state ≡ 3 → HasFailed s → StateIs s state
