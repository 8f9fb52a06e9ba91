-- Replies that C gives as tokens and text, and the bytes that send them.
use Rattle.std.specs.Prelude.{◌≡◌, ℕ, List, map, Option, Some, None, if◌then◌else◌, ◌==◌}
use Rattle.resp_value.specs.declared.value.Value.{Value}
use Rattle.resp_errors.specs.declared.redis_error.RedisError.{RedisError}
use Rattle.resp_errors.specs.declared.redis_error.RedisError.TheVariants.{OutOfMemory}
use Rattle.resp_args.specs.declared.options.ProtocolVersion.{ProtocolVersion}
use Rattle.resp_args.specs.declared.options.ProtocolVersion.TheVariants.{RESP2, RESP3}
use Rattle.resp_encode.specs.Encodings.{encoding_in}
use Rattle.resp_flat.specs.declared.token.Token.{Token}
use Rattle.resp_flat.specs.declared.token.TokenKind.{TokenKind}
use Rattle.resp_flat.specs.declared.token.TokenKind.TheVariants as kind
use Rattle.resp_flat.specs.FlatReplies.{placed, tokens_of, text_of}
use Rattle.resp_flat.specs.Readable.{IsReadable}
use Rattle.resp_c.specs.declared.token.RespToken.{RespToken}
use Rattle.resp_c.specs.Packing.{Given, Refuses}

-- the number of a kind of tokens in C
abbrev pub number_of_kind : TokenKind → ℕ
number_of_kind kind.Nil = 0
number_of_kind kind.Okay = 1
number_of_kind kind.Int = 2
number_of_kind kind.SimpleString = 3
number_of_kind kind.BulkString = 4
number_of_kind kind.Array = 5
number_of_kind kind.Map = 6
number_of_kind kind.Attribute = 7
number_of_kind kind.ServerError = 8
number_of_kind kind.Boolean = 9
number_of_kind kind.Double = 10
number_of_kind kind.BigNumber = 11
number_of_kind kind.Set = 12
number_of_kind kind.VerbatimString = 13
number_of_kind kind.Push = 14

-- a token as C has it
abbrev pub in_c : Token → RespToken
in_c t = record { kind = number_of_kind t.kind; size = t.size; number = t.number; start = t.start }

-- each is the token of a kind
abbrev pub AreTokens : List RespToken → Type 0
AreTokens tokens = (ts : List Token) × (map in_c ts ≡ tokens)

-- they are those of a value, which has at most 1,000 levels
pub record IsGiven (tokens : List RespToken) (text : List ℕ) (value : Value) : Type 0 where
  pub tokens_are : tokens ≡ map in_c (placed 0 (tokens_of value))
  pub text_is : text ≡ text_of value
  pub readable : IsReadable 1000 value

-- the status of a refusal: 3 where memory ran out, else 7
abbrev pub refusal_status : RedisError → ℕ
refusal_status OutOfMemory = 3
refusal_status _ = 7

-- the version of the protocol that a number means
abbrev pub version_of : ℕ → Option ProtocolVersion
version_of n = if n == 2 then Some RESP2 else if n == 3 then Some RESP3 else None

-- these bytes send that value in this version of the protocol
pub record Sends (protocol : ℕ) (tokens : List RespToken) (text bytes : List ℕ) : Type 0 where
  pub value : Value
  pub given : IsGiven tokens text value
  pub version : ProtocolVersion
  pub version_is : version_of protocol ≡ Some version
  pub encoded : encoding_in version 1000 value ≡ Some bytes

-- some bytes do
abbrev pub CanSend : ℕ → List RespToken → List ℕ → Type 0
CanSend protocol tokens text = (bytes : List ℕ) × Sends protocol tokens text bytes

-- they were given; or the buffer is as it was, since memory ran out or there are none
pub data EncodedInto (protocol : ℕ) (tokens : List RespToken) (text old new : List ℕ) (size status : ℕ) : Type 0 where
  given : (bytes : List ℕ) → Sends protocol tokens text bytes → Given bytes old new size status →
      EncodedInto protocol tokens text old new size status
  refused : Refuses (CanSend protocol tokens text) status → size ≡ 0 → new ≡ old →
      EncodedInto protocol tokens text old new size status
