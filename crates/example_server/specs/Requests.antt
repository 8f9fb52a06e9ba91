-- What bytes of a client are read as: requests one after another, as a server reads them (RESP,
-- "Sending commands to a Redis server", "Inline commands").
use Rattle.std.specs.Prelude.{◌≡◌, ℕ, ◌+◌, ◌==◌, zero, suc, List, [], ◌∷◌, ◌++◌, take, drop, Option, Some, None}
use Rattle.std.specs.Prelude.{if◌then◌else◌}
use Rattle.example_server.specs.Inline.{words_in}
use Rattle.example_server.specs.Lines.{line_of, array_of, bulk_string_of}
use Rattle.example_server.specs.declared.lines.Line.{Line}
use Rattle.example_server.specs.declared.lines.Line.TheVariants as line
use Rattle.example_server.specs.declared.lines.Array.{Array}
use Rattle.example_server.specs.declared.lines.Array.TheVariants as array
use Rattle.example_server.specs.declared.lines.BulkString.{BulkString}
use Rattle.example_server.specs.declared.lines.BulkString.TheVariants as bulk
use Rattle.example_server.specs.declared.protocol_error.ProtocolError.{ProtocolError}
use Rattle.example_server.specs.declared.protocol_error.ProtocolError.TheVariants as why
use Rattle.example_server.specs.declared.requests.Requests.{Requests}
use Rattle.example_server.specs.declared.requests.Taken.{Taken}
use Rattle.example_server.specs.declared.requests.Taken.TheVariants as taken

-- what bytes begin with: a request of these words, which is passed over where there are none, and
-- the bytes after it; no whole request; or what can't be read
pub data Reading : Type 0 where
  request : List (List ℕ) → List ℕ → Reading
  unfinished : Reading
  wrong : ProtocolError → Reading

-- words, and then what is read
abbrev pub with_words : List (List ℕ) → Reading → Reading
with_words words (request others rest) = request (words ++ others) rest
with_words words unfinished = unfinished
with_words words (wrong e) = wrong e

-- a bulk string, and then what the others are read as
abbrev pub and_then : (List ℕ → Reading) → List ℕ → BulkString → Reading
and_then others b (bulk.Whole from size) =
    with_words (take size (drop from b) ∷ []) (others (drop (from + size + 2) b))
and_then others b bulk.Unfinished = unfinished
and_then others b (bulk.Wrong e) = wrong e

-- so many bulk strings
abbrev pub bulk_strings : ℕ → List ℕ → Reading
bulk_strings zero b = request [] b
bulk_strings (suc n) b = and_then (bulk_strings n) b (bulk_string_of b)

abbrev pub announced : List ℕ → Array → Reading
announced b (array.Announced count from) = bulk_strings count (drop from b)
announced b array.Unfinished = unfinished
announced b (array.Wrong e) = wrong e

-- the words of an inline command, and the bytes after its line
abbrev pub balanced : List ℕ → Option (List (List ℕ)) → Reading
balanced rest (Some words) = request words rest
balanced rest None = wrong why.Quotes

abbrev pub inline_after : List ℕ → Line → Reading
inline_after b (line.EndsAt at) = balanced (drop (at + 1) b) (words_in (take at b))
inline_after b line.Unended = unfinished
inline_after b line.TooLong = wrong why.LongInline

-- an array begins with *; anything else is an inline command
abbrev pub reading : List ℕ → Reading
reading [] = unfinished
reading (c ∷ cs) = if c == 42 then announced (c ∷ cs) (array_of (c ∷ cs))
    else inline_after (c ∷ cs) (line_of 10 0 (c ∷ cs))

-- what is left to read: the words of a request that were read, how many of its bulk strings are to
-- come, and the bytes that weren't looked at
pub record Pending : Type 0 where
  pub words : List (List ℕ)
  pub missing : ℕ
  pub unread : List ℕ

-- what is pending is read as, if these bytes come next
abbrev pub goes_on : List (List ℕ) → ℕ → List ℕ → Reading
goes_on words zero b = reading b
goes_on words (suc n) b = with_words words (bulk_strings (suc n) b)

abbrev pub ahead : Pending → List ℕ → Reading
ahead p more = goes_on p.words p.missing (p.unread ++ more)

abbrev pub pending : Requests → Pending
pending r = record { words = r.words.items; missing = r.missing; unread = drop r.at r.bytes.items }

-- nothing but these bytes is pending
abbrev pub between : List ℕ → Pending
between b = record { words = []; missing = 0; unread = b }

-- the same, where bulk strings of an array are to come, or none
abbrev pub in_array : Pending → List ℕ → Reading
in_array p more = with_words p.words (bulk_strings p.missing (p.unread ++ more))

-- what is pending is an array from its header on, or an inline command
abbrev pub IsArray : Pending → Type 0
IsArray p = (more : List ℕ) →
    ahead p more ≡ announced (p.unread ++ more) (array_of (p.unread ++ more))

abbrev pub IsInline : Pending → Type 0
IsInline p = (more : List ℕ) →
    ahead p more ≡ inline_after (p.unread ++ more) (line_of 10 0 (p.unread ++ more))

-- what is taken of what bytes are read as, whichever come next: a request; nothing, since it isn't
-- whole; or what can't be read
abbrev pub Takes : (List ℕ → Reading) → Pending → Taken → Type 0
Takes read new (taken.Request words) = (new ≡ between new.unread)
    × ((more : List ℕ) → read more ≡ request words.items (new.unread ++ more))
Takes read new taken.Unfinished = (read [] ≡ unfinished)
    × ((more : List ℕ) → ahead new more ≡ read more)
Takes read new (taken.Wrong e) = (more : List ℕ) → read more ≡ wrong e
