-- What a call does that hands on the body of its reply as it comes, in place of holding it.
use Rattle.std.specs.Prelude.{◌≡◌, ◌≢◌, ℕ, ◌+◌, ◌<◌, ◌≤◌, true, false, List, [], ◌∷◌, ◌++◌, length, take, drop, Option}
use Rattle.std.specs.Prelude.{None, codes, Result, Ok, Err, OnErr, MatchResult}
use Rattle.std.specs.Io.KnownBytes.{Appends, Consumes, IsAtEnd}
use Rattle.resp_value.specs.declared.value.Value.{Value, BulkString}
use Rattle.resp_errors.specs.declared.kinds.ErrorKind.TheVariants as kind
use Rattle.resp_errors.specs.declared.kinds.FrameFault.TheVariants.{BodyEnd, TooLong}
use Rattle.resp_errors.specs.Errors.{error_of_io}
use Rattle.resp_errors.specs.declared.kinds.IoKind.{IoKind}
use Rattle.resp_errors.specs.declared.kinds.IoKind.TheVariants.{UnexpectedEof}
use Rattle.resp_errors.specs.declared.parsing_error.ParsingError.TheVariants.{Fault}
use Rattle.resp_errors.specs.declared.redis_error.RedisError.{RedisError}
use Rattle.resp_errors.specs.declared.redis_error.RedisError.TheVariants.{General, Io, Parse, OutOfMemory}
use Rattle.resp_parse.specs.declared.decoder.bulk_header.BulkHeader.{BulkHeader}
use Rattle.resp_parse.specs.declared.limits.Limits.{Limits}
use Rattle.resp_parse.specs.BulkBodies.{OpensBulk}
use Rattle.resp_parse.specs.Limited.{HasFault, Awaits}
use Rattle.resp_parse.specs.PlainReading.{incomplete, read_body}
use Rattle.resp_parse.specs.Source.{FailureCounted}
use Rattle.resp_command.specs.Call.{broken_link, no_command, no_reply, needed, AnswersReply, Refuses}
use Rattle.resp_command.specs.Command.{Command}
use Rattle.resp_command.specs.Connection.{Connection, SameKind, Moves, Exchange, IsPrefix, SetsAside, push_room}
use Rattle.resp_command.specs.Packed.{packed}
use Rattle.resp_command.specs.Subscriptions.{IsUnanswered}
use Rattle.resp_command.specs.Taken.{ArrivedAsNeeded, Frame, PrefixReads, aside_of, replies_in, push_bytes}
use Rattle.resp_link.specs.declared.streamed.Streamed.{Streamed}
use Rattle.resp_link.specs.declared.streamed.Streamed.TheVariants.{Body, Reply}
use Rattle.resp_link.specs.declared.streamed.Incoming.{Incoming}
use Rattle.resp_link.specs.declared.streamed.Incoming.TheVariants as incoming
use Rattle.resp_link.specs.Receiving.{Inflow, read_size, room, Reads, Receives, CannotReceive}
use Rattle.resp_link.specs.Sink.{Sink, CountsIfErr}

-- What a taker of a body took.

-- a sink took these bytes, too
pub record TakesIn (old new : Sink) (bytes : List ℕ) : Type 0 where
  pub sent : new.sent ≡ old.sent ++ bytes
  pub holds : Appends old.holds new.holds bytes

-- it took all of the bytes; or a prefix of them, and a failure was counted
pub record TakesPiece (old new : Sink) (piece : List ℕ) (r : Result (Unit {0}) IoKind) : Type 0 where
  pub gone : List ℕ
  pub takes : TakesIn old new gone
  pub part : MatchResult r (λ _. gone ≡ piece) (λ _. IsPrefix gone piece)
  pub failures : CountsIfErr old new r

-- what a call is refused with where the taker of the body failed
abbrev pub body_not_taken : RedisError
body_not_taken = General kind.Io (codes "body wasn't taken") None

-- What comes next.

-- pushes were read and set aside, and all that came after them is received
pub record AfterPushes (old new : Inflow) : Type 0 where
  pub frames : List Frame
  pub reads : Reads 1 old new frames new.received
  pub none : replies_in frames ≡ []
  pub failures : new.failures ≡ old.failures

abbrev pub IsNoBulk : Value → Type 0
IsNoBulk v = (x : List ℕ) → v ≢ BulkString x

-- after pushes, the header of a bulk string with a body, which isn't taken; or another reply
abbrev pub ComesNext : Inflow → Inflow → Incoming → Type 0
ComesNext old new (incoming.Bulk header) = AfterPushes old new × OpensBulk new.received header
ComesNext old new (incoming.Reply v) = Receives 1 old new (v ∷ []) × IsNoBulk v

-- Taking a body.

-- bytes came after b only while a body of n bytes and its CR LF weren't there, and nothing showed
-- that they won't be
pub record BodyArrived (n : ℕ) (b arrived : List ℕ) : Type 0 where
  pub before : List ℕ
  pub last : List ℕ
  pub whole : arrived ≡ before ++ last
  pub some : last ≡ [] → before ≡ []
  pub size : length last ≤ read_size
  pub short : last ≢ [] → read_body n (b ++ before) ≡ incomplete

-- of a body of n bytes and its CR LF these bytes were taken; no push was set aside
pub record TookPart (n : ℕ) (old new : Inflow) (part : List ℕ) : Type 0 where
  pub arrived : List ℕ
  pub came : new.came ≡ old.came ++ arrived
  pub to_come : Consumes old.to_come new.to_come arrived
  pub whole : old.received ++ arrived ≡ part ++ new.received
  pub needed : BodyArrived n old.received arrived
  pub limits : new.limits ≡ old.limits
  pub pushes : new.pushes ≡ old.pushes
  pub push_bytes : new.push_bytes ≡ old.push_bytes

-- and the source didn't fail
pub record TookWell (n : ℕ) (old new : Inflow) (part : List ℕ) : Type 0 where
  pub took : TookPart n old new part
  pub failures : new.failures ≡ old.failures

-- why no byte came where one was needed
pub data NoByte (to_come : Option (List ℕ)) (before after : ℕ) (e : RedisError) : Type 0 where
  early_end : e ≡ Io UnexpectedEof → IsAtEnd to_come → after ≡ before → NoByte to_come before after e
  source_failed : (kind : IoKind) → e ≡ error_of_io kind → FailureCounted before after →
      NoByte to_come before after e
  out_of_memory : e ≡ OutOfMemory → after ≡ before → NoByte to_come before after e

-- a byte is there; or none comes after this part
abbrev pub HasByte : ℕ → Inflow → Inflow → List ℕ → Result (Unit {0}) RedisError → Type 0
HasByte n old new part (Ok u) = TookWell n old new part × (0 < length new.received)
HasByte n old new part (Err e) = TookPart n old new part
    × ((new.received ≡ []) × NoByte new.to_come old.failures new.failures e)

-- another byte stands there
pub record OtherByte (byte : ℕ) (received : List ℕ) (e : RedisError) : Type 0 where
  pub other : ℕ
  pub rest : List ℕ
  pub first : received ≡ other ∷ rest
  pub differs : other ≢ byte
  pub error : e ≡ Parse (Fault BodyEnd)

-- why this byte wasn't taken
pub data CannotTakeByte (n byte : ℕ) (old new : Inflow) (part : List ℕ) (e : RedisError) : Type 0 where
  other : TookWell n old new part → OtherByte byte new.received e → CannotTakeByte n byte old new part e
  no_byte : TookPart n old new part → new.received ≡ [] → NoByte new.to_come old.failures new.failures e →
      CannotTakeByte n byte old new part e

abbrev pub TakesByte : ℕ → ℕ → Inflow → Inflow → List ℕ → Result (Unit {0}) RedisError → Type 0
TakesByte n byte old new part (Ok u) = TookWell n old new (part ++ byte ∷ [])
TakesByte n byte old new part (Err e) = CannotTakeByte n byte old new part e

-- at most so many bytes of what was received were taken, one at least
pub record TakesFront (most : ℕ) (old new : Inflow) (count : ℕ) (piece : List ℕ) : Type 0 where
  pub piece_is : piece ≡ take count old.received
  pub some : 0 < length old.received → 0 < most → 0 < count
  pub within : count ≤ most
  pub size : length piece ≡ count
  pub left : new ≡ record old { received = drop count old.received }

-- they were handed to the sink; or the sink failed, and nothing was taken
abbrev pub HandsFront : ℕ → Inflow → Inflow → Sink → Sink → Result ℕ IoKind → Type 0
HandsFront most old new b b' (Ok count) = (piece : List ℕ)
    × (TakesFront most old new count piece × TakesPiece b b' piece (Ok tt))
HandsFront most old new b b' (Err kind) = (new ≡ old) × ((piece : List ℕ) × ((IsPrefix piece old.received
    × (length piece ≤ most)) × TakesPiece b b' piece (Err kind)))

-- The body was handed on; its CR LF is left.
pub record HandedBody (n : ℕ) (old new : Inflow) (b b' : Sink) : Type 0 where
  pub body : List ℕ
  pub size : length body ≡ n
  pub took : TookWell n old new body
  pub takes : TakesIn b b' body
  pub failures : b'.failures ≡ b.failures

-- a part of it was handed on, and no byte came; or its taker failed
pub data CannotHandBody (n : ℕ) (old new : Inflow) (b b' : Sink) (e : RedisError) : Type 0 where
  no_byte : (part : List ℕ) → TookPart n old new part → new.received ≡ [] →
      NoByte new.to_come old.failures new.failures e → length part < n → TakesIn b b' part →
      b'.failures ≡ b.failures → CannotHandBody n old new b b' e
  not_taken : (part piece : List ℕ) → TookWell n old new part → IsPrefix piece new.received →
      length part + length piece ≤ n → TakesIn b b' (part ++ piece) →
      FailureCounted b.failures b'.failures → e ≡ body_not_taken → CannotHandBody n old new b b' e

abbrev pub HandsBody : ℕ → Inflow → Inflow → Sink → Sink → Result (Unit {0}) RedisError → Type 0
HandsBody n old new b b' (Ok u) = HandedBody n old new b b'
HandsBody n old new b b' (Err e) = CannotHandBody n old new b b' e

-- Why a body isn't handed on.

-- what stands there at first spells no value for this header: a fault in the place of CR LF, the end
-- of the source or its failure before it, memory that ran out; a bulk string that is announced with
-- more bytes than a value may have, of which nothing is taken; or the taker failed
pub data StopsBody (l : Limits) (rest : List ℕ) (header : BulkHeader) (handed : List ℕ)
    (to_come : Option (List ℕ)) (before after : ℕ) (b b' : Sink) (e : RedisError) : Type 0 where
  malformed : e ≡ Parse (Fault BodyEnd) → HasFault l rest BodyEnd → length handed ≡ header.body_len →
      after ≡ before → b'.failures ≡ b.failures →
      StopsBody l rest header handed to_come before after b b' e
  no_byte : NoByte to_come before after e → Awaits l rest → b'.failures ≡ b.failures →
      StopsBody l rest header handed to_come before after b b' e
  too_long : e ≡ Parse (Fault TooLong) → l.bytes < header.header_len + header.body_len + 2 →
      after ≡ before → b' ≡ b → StopsBody l rest header handed to_come before after b b' e
  not_taken : e ≡ body_not_taken → FailureCounted b.failures b'.failures → after ≡ before →
      StopsBody l rest header handed to_come before after b b' e

-- a beginning of the body that the header announces was handed on, and then no more
pub record HandsPart (l : Limits) (rest : List ℕ) (to_come : Option (List ℕ)) (before after : ℕ)
    (b b' : Sink) (e : RedisError) : Type 0 where
  pub header : BulkHeader
  pub opens : OpensBulk rest header
  pub handed : List ℕ
  pub takes : TakesIn b b' handed
  pub part : IsPrefix handed (take header.body_len (drop header.header_len rest))
  pub stops : StopsBody l rest header handed to_come before after b b' e

-- bytes came, and pushes among them were set aside; of the body that came next a beginning was handed
-- on
pub record StopsInBody (old new : Inflow) (b b' : Sink) (e : RedisError) : Type 0 where
  pub arrived : List ℕ
  pub came : new.came ≡ old.came ++ arrived
  pub to_come : Consumes old.to_come new.to_come arrived
  pub needed : ArrivedAsNeeded old.limits (room old) read_size 1 old.received arrived
  pub frames : List Frame
  pub rest : List ℕ
  pub prefix : PrefixReads old.limits (old.received ++ arrived) frames rest
  pub only_pushes : replies_in frames ≡ []
  pub fits : push_bytes frames ≤ room old
  pub limits : new.limits ≡ old.limits
  pub pushes : new.pushes ≡ old.pushes ++ (aside_of frames).pushes
  pub size : new.push_bytes ≡ old.push_bytes + push_bytes frames
  pub hands : HandsPart old.limits rest new.to_come old.failures new.failures b b' e

-- the bulk string of this header was taken, and its body handed on
pub record HandedBulk (header : BulkHeader) (old new : Inflow) (b b' : Sink) : Type 0 where
  pub body : List ℕ
  pub size : length body ≡ header.body_len
  pub frame : Frame
  pub value : frame.value ≡ BulkString body
  pub reads : Reads 1 old new (frame ∷ []) new.received
  pub takes : TakesIn b b' body
  pub failures : b'.failures ≡ b.failures
  pub source : new.failures ≡ old.failures

abbrev pub HandsBulk : BulkHeader → Inflow → Inflow → Sink → Sink → Result (Unit {0}) RedisError → Type 0
HandsBulk header old new b b' (Ok u) = HandedBulk header old new b b'
HandsBulk header old new b b' (Err e) = StopsInBody old new b b' e

-- Over a connection.

-- the reply is a bulk string, and its body was handed on; or it is another and is answered
pub data AnswersBody (b b' : Sink) (r : Result Streamed RedisError) (reply : Value) : Type 0 where
  body : (x : List ℕ) → reply ≡ BulkString x → r ≡ Ok (Body (length x)) → TakesIn b b' x →
      b'.failures ≡ b.failures → AnswersBody b b' r reply
  other : IsNoBulk reply → r ≡ Ok (Reply reply) → b' ≡ b → AnswersBody b b' r reply

-- a reply came, whose body was handed on if it has one
pub record HandsReply (old new : Inflow) (b b' : Sink) (r : Result Streamed RedisError) : Type 0 where
  pub reply : Value
  pub received : Receives 1 old new (reply ∷ [])
  pub answers : AnswersBody b b' r reply

-- none came; or handing on its body stopped
pub data CannotHandReply (old new : Inflow) (b b' : Sink) (e : RedisError) : Type 0 where
  nothing : CannotReceive 1 old new e → b' ≡ b → CannotHandReply old new b b' e
  in_body : StopsInBody old new b b' e → CannotHandReply old new b b' e

abbrev pub HandsNext : Inflow → Inflow → Sink → Sink → Result Streamed RedisError → Type 0
HandsNext old new b b' (Ok s) = HandsReply old new b b' (Ok s)
HandsNext old new b b' (Err e) = CannotHandReply old new b b' e

-- the request was sent, pushes were set aside, and a beginning of the body that came next was
-- handed on: the connection is broken
pub record StoppedInBody (old new : Connection) (b b' : Sink) (q : List ℕ)
    (r : Result Streamed RedisError) : Type 0 where
  pub error : RedisError
  pub answer : r ≡ Err error
  pub same : SameKind old new
  pub arrived : List ℕ
  pub moves : Moves old new arrived q
  pub flushed : new.unflushed ≡ false
  pub needed : ArrivedAsNeeded old.limits (push_room old) old.read_size 1 old.received arrived
  pub frames : List Frame
  pub rest : List ℕ
  pub prefix : PrefixReads old.limits (old.received ++ arrived) frames rest
  pub only_pushes : replies_in frames ≡ []
  pub fits : push_bytes frames ≤ push_room old
  pub listed : SetsAside old new (aside_of frames)
  pub hands : HandsPart old.limits rest new.to_come old.source_failures new.source_failures b b' error
  pub sink : new.sink_failures ≡ old.sink_failures
  pub broken : new.broken ≡ true

-- an exchange as ever, but for the body; where it is refused, nothing was handed on. Or the refusal
-- came after the header of a body
pub data HandsOn (old new : Connection) (b b' : Sink) (q : List ℕ) (n : ℕ)
    (r : Result Streamed RedisError) : Type 0 where
  as_ever : Exchange old new q n r (AnswersReply (AnswersBody b b' r)) → OnErr r (b' ≡ b) →
      HandsOn old new b b' q n r
  in_body : n ≡ 1 → StoppedInBody old new b b' q r → HandsOn old new b b' q n r

-- the call is refused, and neither the connection nor the taker of the body changes
pub record RefusesBoth (old new : Connection) (b b' : Sink) (e : RedisError)
    (r : Result Streamed RedisError) : Type 0 where
  pub refuses : Refuses old new e r
  pub untouched : b' ≡ b

-- what a call does that sends a command and hands on the body of its reply
pub record HandsOnReply (old new : Connection) (c : Command) (b b' : Sink)
    (r : Result Streamed RedisError) : Type 0 where
  pub when_broken : old.broken ≡ true → RefusesBoth old new b b' broken_link r
  pub when_empty : old.broken ≡ false → c.args ≡ [] → RefusesBoth old new b b' no_command r
  pub when_unanswered : old.broken ≡ false → IsUnanswered c → RefusesBoth old new b b' no_reply r
  pub otherwise : old.broken ≡ false → (c.args ≡ [] → ⊥) → (IsUnanswered c → ⊥) →
      HandsOn old new b b' (packed c.args) (needed c) r
