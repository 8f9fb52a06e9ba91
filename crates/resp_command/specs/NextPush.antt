-- What waiting for a push does: it hands out the oldest one that was set aside, or else reads the
-- next value, which is to be a message or a server's error.
use Rattle.std.specs.Prelude.{◌≡◌, ℕ, ◌≤◌, Bool, true, false, List, [], ◌∷◌, ◌++◌, length, None, codes, Result, Ok, Err}
use Rattle.std.specs.Io.KnownBytes.{IsAtEnd}
use Rattle.resp_value.specs.declared.value.Value as value
use Rattle.resp_value.specs.declared.value.Value.{Value, Array, BulkString, Push}
use Rattle.resp_value.specs.declared.value.PushInfo.{PushInfo}
use Rattle.resp_value.specs.declared.names.PushKind.{PushKind}
use Rattle.resp_value.specs.declared.names.PushKind.TheVariants as kinds
use Rattle.resp_value.specs.Names.{name_of_push_kind}
use Rattle.resp_errors.specs.declared.kinds.ErrorKind.TheVariants as kind
use Rattle.resp_errors.specs.declared.kinds.FrameFault.{FrameFault}
use Rattle.resp_errors.specs.Errors.{error_of_io}
use Rattle.resp_errors.specs.declared.kinds.IoKind.{IoKind}
use Rattle.resp_errors.specs.declared.kinds.IoKind.TheVariants.{UnexpectedEof}
use Rattle.resp_errors.specs.declared.parsing_error.ParsingError.TheVariants.{Fault}
use Rattle.resp_errors.specs.declared.redis_error.RedisError.{RedisError}
use Rattle.resp_errors.specs.declared.redis_error.RedisError.TheVariants.{General, Io, Parse, OutOfMemory, Server}
use Rattle.resp_errors.specs.declared.server_error.ServerError.{ServerError}
use Rattle.resp_parse.specs.Calls.{AsNeeded}
use Rattle.resp_parse.specs.Limited.{HasValue, HasFault, Awaits}
use Rattle.resp_parse.specs.Source.{FailureCounted}
use Rattle.resp_command.specs.Taken.{Frame, PrefixReads}
use Rattle.resp_command.specs.Connection.{Connection, SameKind, Moves, NoFailure}
use Rattle.resp_command.specs.Call.{broken_link, Refuses}

-- Messages.

-- the kinds of messages to a subscriber
abbrev pub is_message_kind : PushKind → Bool
is_message_kind kinds.Disconnection = false
is_message_kind (kinds.Other name) = false
is_message_kind kinds.Invalidate = false
is_message_kind _ = true

-- a bulk string names this kind of message
pub record NamesMessage (first : Value) (kind : PushKind) : Type 0 where
  pub is_kind : is_message_kind kind ≡ true
  pub name : first ≡ BulkString (name_of_push_kind kind)

abbrev pub NamesNone : Value → Type 0
NamesNone first = (kind : PushKind) → NamesMessage first kind → ⊥

-- an array that names the kind of a message, and then has what its push would have
pub record IsArrayOf (v : Value) (message : PushInfo) : Type 0 where
  pub first : Value
  pub names : NamesMessage first message.kind
  pub whole : v ≡ Array (first ∷ message.payload)

-- where nothing was asked, a value is this message: a push; or, as a subscriber is sent it under
-- RESP2, an array
pub data IsMessage (v : Value) (message : PushInfo) : Type 0 where
  push : v ≡ Push message.kind message.payload → IsMessage v message
  array : IsArrayOf v message → IsMessage v message

abbrev pub IsNoMessage : Value → Type 0
IsNoMessage v = (message : PushInfo) → IsMessage v message → ⊥

-- a server's error, as it answers a request whose reply isn't waited for
abbrev pub IsServerError : Value → ServerError → Type 0
IsServerError v error = v ≡ value.ServerError error

-- a value that answers a request
abbrev pub IsReply : Value → Type 0
IsReply v = IsNoMessage v × ((error : ServerError) → IsServerError v error → ⊥)

-- what a reply is refused with that nobody asked for
abbrev pub unasked_reply : RedisError
unasked_reply = General kind.Io (codes "reply without a request") None

-- why a value is neither a message nor a server's error: it is a reply, or memory ran out
pub data CannotBeMessage (v : Value) (e : RedisError) : Type 0 where
  other_value : e ≡ unasked_reply → IsReply v → CannotBeMessage v e
  no_memory : e ≡ OutOfMemory → CannotBeMessage v e

-- Pushes that were set aside.

-- how many bytes of pushes stay counted where these are left: all, and none with the last
abbrev pub still_counted : List PushInfo → ℕ → ℕ
still_counted [] bytes = 0
still_counted (next ∷ later) bytes = bytes

-- the oldest is answered and the later ones are left; nothing else changes
pub record HandsOut (old new : Connection) (oldest : PushInfo) (later : List PushInfo)
    (r : Result PushInfo RedisError) : Type 0 where
  pub answer : r ≡ Ok oldest
  pub left : new ≡ record old { pushes = later; push_bytes = still_counted later old.push_bytes }

-- Reading a message.

-- these bytes came, no more than one value needs; nothing was sent, and no push was set aside
pub record Arrives (old new : Connection) (arrived : List ℕ) : Type 0 where
  pub same : SameKind old new
  pub moves : Moves old new arrived []
  pub needed : AsNeeded old.limits old.received arrived
  pub most : length needed.last ≤ old.read_size
  pub unflushed : new.unflushed ≡ old.unflushed
  pub pushes : new.pushes ≡ old.pushes
  pub push_bytes : new.push_bytes ≡ old.push_bytes

-- the call is refused, and the connection is broken
pub record Breaks (new : Connection) (e : RedisError)
    (r : Result PushInfo RedisError) : Type 0 where
  pub answer : r ≡ Err e
  pub broken : new.broken ≡ true

-- a message stands first: it is answered, and the connection works
pub record Answered (incoming : List ℕ) (old new : Connection)
    (r : Result PushInfo RedisError) : Type 0 where
  pub value : Value
  pub message : PushInfo
  pub first : HasValue old.limits incoming value new.received
  pub is_message : IsMessage value message
  pub answer : r ≡ Ok message
  pub works : new.broken ≡ false
  pub no_failure : NoFailure old new

-- a server's error stands first: it is answered, and the connection works
pub record Refused (incoming : List ℕ) (old new : Connection)
    (r : Result PushInfo RedisError) : Type 0 where
  pub value : Value
  pub error : ServerError
  pub first : HasValue old.limits incoming value new.received
  pub is_error : IsServerError value error
  pub answer : r ≡ Err (Server error)
  pub works : new.broken ≡ false
  pub no_failure : NoFailure old new

-- any other value stands first: a reply that nobody asked for
pub record Unasked (incoming : List ℕ) (old new : Connection)
    (r : Result PushInfo RedisError) : Type 0 where
  pub value : Value
  pub first : HasValue old.limits incoming value new.received
  pub is_reply : IsReply value
  pub breaks : Breaks new unasked_reply r
  pub no_failure : NoFailure old new

-- no value stands there and none can: a fault, or the end of the source
pub record FaultMet (incoming : List ℕ) (old new : Connection)
    (r : Result PushInfo RedisError) : Type 0 where
  pub frame_fault : FrameFault
  pub fault : HasFault old.limits incoming frame_fault
  pub left : new.received ≡ incoming
  pub breaks : Breaks new (Parse (Fault frame_fault)) r
  pub no_failure : NoFailure old new

pub record EndedEarly (incoming : List ℕ) (old new : Connection)
    (r : Result PushInfo RedisError) : Type 0 where
  pub incomplete : Awaits old.limits incoming
  pub end : IsAtEnd new.to_come
  pub left : new.received ≡ incoming
  pub breaks : Breaks new (Io UnexpectedEof) r
  pub no_failure : NoFailure old new

-- the source failed while more was needed
pub record SourceFailed (incoming : List ℕ) (old new : Connection)
    (r : Result PushInfo RedisError) : Type 0 where
  pub kind : IoKind
  pub incomplete : Awaits old.limits incoming
  pub left : new.received ≡ incoming
  pub breaks : Breaks new (error_of_io kind) r
  pub counted : FailureCounted old.source_failures new.source_failures
  pub sink : new.sink_failures ≡ old.sink_failures

-- memory ran out: no value was taken, or one
pub record RanOutOfMemory (incoming : List ℕ) (old new : Connection)
    (r : Result PushInfo RedisError) : Type 0 where
  pub frames : List Frame
  pub few : length frames ≤ 1
  pub taken : PrefixReads old.limits incoming frames new.received
  pub breaks : Breaks new OutOfMemory r
  pub no_failure : NoFailure old new

pub data ReadsOf (incoming : List ℕ) (old new : Connection)
    (r : Result PushInfo RedisError) : Type 0 where
  answered : Answered incoming old new r → ReadsOf incoming old new r
  server_error : Refused incoming old new r → ReadsOf incoming old new r
  unasked : Unasked incoming old new r → ReadsOf incoming old new r
  malformed : FaultMet incoming old new r → ReadsOf incoming old new r
  early_end : EndedEarly incoming old new r → ReadsOf incoming old new r
  source_failed : SourceFailed incoming old new r → ReadsOf incoming old new r
  out_of_memory : RanOutOfMemory incoming old new r → ReadsOf incoming old new r

-- one value is taken from what was received before and what came
pub record ReadsMessage (old new : Connection) (r : Result PushInfo RedisError) : Type 0 where
  pub arrived : List ℕ
  pub arrives : Arrives old new arrived
  pub of : ReadsOf (old.received ++ arrived) old new r

-- what `next_push` does: a push that was set aside comes first, over a broken connection too
pub record NextPush (old new : Connection) (r : Result PushInfo RedisError) : Type 0 where
  pub when_aside : (oldest : PushInfo) (later : List PushInfo) → old.pushes ≡ oldest ∷ later →
      HandsOut old new oldest later r
  pub when_broken : old.pushes ≡ [] → old.broken ≡ true → Refuses old new broken_link r
  pub otherwise : old.pushes ≡ [] → old.broken ≡ false → ReadsMessage old new r
