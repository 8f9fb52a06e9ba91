-- What is known of a connection, and what one exchange over it leaves.
use Rattle.std.specs.Prelude.{◌≡◌, ℕ, ◌+◌, ◌-◌, ◌<◌, ◌≤◌, ◌⊎◌, Bool, true, false, List, [], ◌++◌, length, Option, None}
use Rattle.std.specs.Prelude.{Some, Result}
use Rattle.std.specs.Prelude.{Err, IsErrAnd}
use Rattle.std.specs.Io.KnownBytes.{Appends, Consumes, IsAtEnd}
use Rattle.resp_value.specs.declared.value.Value.{Value}
use Rattle.resp_value.specs.declared.value.PushInfo.{PushInfo}
use Rattle.resp_errors.specs.declared.kinds.FrameFault.{FrameFault}
use Rattle.resp_errors.specs.Errors.{error_of_io}
use Rattle.resp_errors.specs.declared.kinds.IoKind.{IoKind}
use Rattle.resp_errors.specs.declared.kinds.IoKind.TheVariants.{UnexpectedEof}
use Rattle.resp_errors.specs.declared.parsing_error.ParsingError.TheVariants.{Fault}
use Rattle.resp_errors.specs.declared.redis_error.RedisError.{RedisError}
use Rattle.resp_errors.specs.declared.redis_error.RedisError.TheVariants.{Io, Parse, OutOfMemory}
use Rattle.resp_parse.specs.Source.{FailureCounted}
use Rattle.resp_parse.specs.declared.limits.Limits.{Limits}
use Rattle.resp_parse.specs.Limits.{usual}
use Rattle.resp_parse.specs.Limited.{Awaits}
use Rattle.resp_command.specs.Taken.{ArrivedAsNeeded, Taken, took, met_fault, ended_early, PrefixReads, ListsPushes}
use Rattle.resp_command.specs.Taken.{Frame, Aside, aside_of, no_pushes, replies_in}

-- which link takes the next request: the same one; another in its place, once that broke; or the one
-- that the request belongs to
pub data LinkPolicy : Type 0 where
  stays : LinkPolicy
  reconnects : LinkPolicy
  routes : LinkPolicy

pub record Connection : Type 0 where
  -- whether several commands may be sent at once
  pub pipelines : Bool
  -- all bytes that were sent, and all that came
  pub sent : List ℕ
  pub came : List ℕ
  -- whether some of what was sent may wait to be flushed
  pub unflushed : Bool
  -- the bytes that came and aren't taken, those of a value in progress included
  pub received : List ℕ
  -- the pushes that were set aside and aren't taken, and how many bytes spelled those that were set
  -- aside since there was none
  pub pushes : List PushInfo
  pub push_bytes : ℕ
  pub broken : Bool
  pub policy : LinkPolicy
  -- how deep and how long the values may be that are read, and how many bytes of pushes are set
  -- aside
  pub limits : Limits
  -- how many bytes one read asks for at most
  pub read_size : ℕ
  pub source_failures : ℕ
  pub sink_failures : ℕ
  -- the bytes that the source has yet to give, and those that the sink holds, where they tell them,
  -- as memory does and a socket doesn't
  pub to_come : Option (List ℕ)
  pub holds : Option (List ℕ)

-- a connection that takes one command at a time and stays with its link, over which nothing came and nothing was sent
abbrev pub idle : (broken : Bool) → Connection
idle broken = record {
  pipelines = false;
  sent = [];
  came = [];
  unflushed = false;
  received = [];
  pushes = [];
  push_bytes = 0;
  broken = broken;
  policy = stays;
  limits = usual;
  read_size = 0;
  source_failures = 0;
  sink_failures = 0;
  to_come = None;
  holds = None;
}

-- how many bytes of pushes may still be set aside
abbrev pub push_room : Connection → ℕ
push_room c = c.limits.pushes - c.push_bytes

-- these pushes were set aside, too
pub record SetsAside (old new : Connection) (aside : Aside) : Type 0 where
  pub pushes : new.pushes ≡ old.pushes ++ aside.pushes
  pub bytes : new.push_bytes ≡ old.push_bytes + aside.bytes

-- what no call changes
pub record SameKind (old new : Connection) : Type 0 where
  pub pipelines : new.pipelines ≡ old.pipelines
  pub policy : new.policy ≡ old.policy
  pub limits : new.limits ≡ old.limits
  pub read_size : new.read_size ≡ old.read_size

-- these bytes came, and these were sent; ends that tell their bytes lost the ones and gained the
-- others
pub record Moves (old new : Connection) (arrived gone : List ℕ) : Type 0 where
  pub came : new.came ≡ old.came ++ arrived
  pub sent : new.sent ≡ old.sent ++ gone
  pub to_come : Consumes old.to_come new.to_come arrived
  pub holds : Appends old.holds new.holds gone

-- the bytes of an exchange: those that replies are taken from, those that are left of them, and
-- those that were sent
pub record Bytes : Type 0 where
  pub incoming : List ℕ
  pub left : List ℕ
  pub sent : List ℕ

-- a prefix of the request
pub record IsPrefix (sent q : List ℕ) : Type 0 where
  pub rest : List ℕ
  pub whole : q ≡ sent ++ rest

-- the request was sent, and nothing of it waits
pub record Sent (bytes : Bytes) (new : Connection) (q : List ℕ) : Type 0 where
  pub all : bytes.sent ≡ q
  pub flushed : new.unflushed ≡ false

pub record NoFailure (old new : Connection) : Type 0 where
  pub source : new.source_failures ≡ old.source_failures
  pub sink : new.sink_failures ≡ old.sink_failures

-- the replies came: they are answered, the pushes before the last of them are set aside, every
-- later byte is kept, and the connection is usable
pub record Replied (bytes : Bytes) (old new : Connection) (q : List ℕ) (n : ℕ)
    (answers : List Value → Type 0) : Type 0 where
  pub replies : List Value
  pub aside : Aside
  pub enough : length replies ≡ n
  pub sent : Sent bytes new q
  pub takes : Taken old.limits (push_room old) n bytes.incoming (took replies aside bytes.left)
  pub listed : SetsAside old new aside
  pub usable : new.broken ≡ false
  pub no_failure : NoFailure old new
  pub answer : answers replies

-- a fault stands in the place of a reply
pub record FaultMet {A : Type 0} (bytes : Bytes) (old new : Connection) (q : List ℕ) (n : ℕ)
    (result : Result A RedisError) : Type 0 where
  pub frame_fault : FrameFault
  pub aside : Aside
  pub sent : Sent bytes new q
  pub takes : Taken old.limits (push_room old) n bytes.incoming (met_fault frame_fault aside)
  pub listed : SetsAside old new aside
  pub broken : new.broken ≡ true
  pub no_failure : NoFailure old new
  pub answer : result ≡ Err (Parse (Fault frame_fault))

-- the source ends too early
pub record EndedEarly {A : Type 0} (bytes : Bytes) (old new : Connection) (q : List ℕ) (n : ℕ)
    (result : Result A RedisError) : Type 0 where
  pub aside : Aside
  pub sent : Sent bytes new q
  pub takes : Taken old.limits (push_room old) n bytes.incoming (ended_early aside)
  pub end : IsAtEnd new.to_come
  pub listed : SetsAside old new aside
  pub broken : new.broken ≡ true
  pub no_failure : NoFailure old new
  pub answer : result ≡ Err (Io UnexpectedEof)

-- the error of a fault of the source or the sink
pub record IsFault (e : RedisError) : Type 0 where
  pub kind : IoKind
  pub is : e ≡ error_of_io kind

-- nothing came and nothing was taken
pub record ReceivedNothing (old new : Connection) : Type 0 where
  pub received : new.received ≡ old.received
  pub came : new.came ≡ old.came

-- the sink failed: a prefix of the request was sent, and nothing came
pub record SinkFailed {A : Type 0} (bytes : Bytes) (old new : Connection) (q : List ℕ)
    (result : Result A RedisError) : Type 0 where
  pub sent : IsPrefix bytes.sent q
  pub unread : ReceivedNothing old new
  pub listed : SetsAside old new no_pushes
  pub broken : new.broken ≡ true
  pub source : new.source_failures ≡ old.source_failures
  pub counted : FailureCounted old.sink_failures new.sink_failures
  pub answer : IsErrAnd result IsFault

-- frames that hold fewer than n replies were taken, and these pushes among them set aside; all that
-- came after them is incomplete
pub record TookTooFew (n : ℕ) (bytes : Bytes) (old new : Connection) (aside : Aside) : Type 0 where
  pub frames : List Frame
  pub taken : PrefixReads old.limits bytes.incoming frames bytes.left
  pub few : length (replies_in frames) < n
  pub aside_is : aside ≡ aside_of frames
  pub fits : aside.bytes ≤ push_room old
  pub incomplete : Awaits old.limits new.received

-- the source failed: the request was sent, and too little came for n replies
pub record SourceFailed {A : Type 0} (bytes : Bytes) (old new : Connection) (q : List ℕ) (n : ℕ)
    (result : Result A RedisError) : Type 0 where
  pub aside : Aside
  pub sent : Sent bytes new q
  pub takes : TookTooFew n bytes old new aside
  pub listed : SetsAside old new aside
  pub broken : new.broken ≡ true
  pub counted : FailureCounted old.source_failures new.source_failures
  pub sink : new.sink_failures ≡ old.sink_failures
  pub answer : IsErrAnd result IsFault

-- frames were taken, and the pushes among them set aside, but for a last one that is a push and
-- found no room in memory
pub record TookSome (bytes : Bytes) (l : Limits) (room : ℕ) (aside : Aside) : Type 0 where
  pub frames : List Frame
  pub taken : PrefixReads l bytes.incoming frames bytes.left
  pub listed : ListsPushes frames aside
  pub fits : aside.bytes ≤ room

-- the connection is broken, and a part of the request was sent, none of it only where it is empty;
-- the pushes among what was taken were set aside
pub record BrokenMidway (bytes : Bytes) (old new : Connection) (q : List ℕ) : Type 0 where
  pub aside : Aside
  pub sent : IsPrefix bytes.sent q
  pub begun : bytes.sent ≡ [] → q ≡ []
  pub takes : TookSome bytes old.limits (push_room old) aside
  pub listed : SetsAside old new aside
  pub broken : new.broken ≡ true

-- memory ran out, and neither source nor sink failed: nothing was sent and nothing changed, or
-- midway
pub record RanOutOfMemory {A : Type 0} (bytes : Bytes) (old new : Connection) (q : List ℕ)
    (result : Result A RedisError) : Type 0 where
  pub answer : result ≡ Err OutOfMemory
  pub no_failure : NoFailure old new
  pub left : (new ≡ old) ⊎ BrokenMidway bytes old new q

-- what an exchange with these bytes does that sends q and needs n replies; answers says what the
-- replies make of it
pub data ExchangeOf {A : Type 0} (bytes : Bytes) (old new : Connection) (q : List ℕ) (n : ℕ)
    (result : Result A RedisError) (answers : List Value → Type 0) : Type 0 where
  replied : Replied bytes old new q n answers → ExchangeOf bytes old new q n result answers
  malformed : FaultMet bytes old new q n result → ExchangeOf bytes old new q n result answers
  early_end : EndedEarly bytes old new q n result → ExchangeOf bytes old new q n result answers
  sink_failed : SinkFailed bytes old new q result → ExchangeOf bytes old new q n result answers
  source_failed : SourceFailed bytes old new q n result → ExchangeOf bytes old new q n result answers
  out_of_memory : RanOutOfMemory bytes old new q result → ExchangeOf bytes old new q n result answers

-- what a call does that sends q and needs n replies, over any connection: replies are taken from
-- what was received before and what came, and no more was asked for than they need
pub record Exchange {A : Type 0} (old new : Connection) (q : List ℕ) (n : ℕ)
    (result : Result A RedisError) (answers : List Value → Type 0) : Type 0 where
  pub same : SameKind old new
  pub arrived : List ℕ
  pub gone : List ℕ
  pub moves : Moves old new arrived gone
  pub needed : ArrivedAsNeeded old.limits (push_room old) old.read_size n old.received arrived
  pub of : ExchangeOf
      (record { incoming = old.received ++ arrived; left = new.received; sent = gone })
      old new q n result answers

-- the same where the source tells its bytes: replies are taken from all that are incoming
pub record KnownExchange {A : Type 0} (old new : Connection) (later : List ℕ) (q : List ℕ) (n : ℕ)
    (result : Result A RedisError) (answers : List Value → Type 0) : Type 0 where
  pub rest : List ℕ
  pub gone : List ℕ
  pub to_come : new.to_come ≡ Some rest
  pub sent : new.sent ≡ old.sent ++ gone
  pub of : ExchangeOf
      (record { incoming = old.received ++ later; left = new.received ++ rest; sent = gone })
      old new q n result answers
