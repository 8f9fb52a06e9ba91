-- What a call does that sends a command whose last argument is read as it is sent, in place of
-- holding it.
use Rattle.std.specs.Prelude.{◌≡◌, ℕ, ◌+◌, ◌≤◌, false, true, List, [], ◌∷◌, ◌++◌, length, Option, None, codes, Result, Ok}
use Rattle.std.specs.Prelude.{Err}
use Rattle.std.specs.Io.KnownBytes.{IsAtEnd}
use Rattle.std.specs.List.{flat_map}
use Rattle.resp_value.specs.declared.value.Value.{Value}
use Rattle.resp_errors.specs.declared.kinds.ErrorKind.TheVariants as kind
use Rattle.resp_errors.specs.Errors.{error_of_io}
use Rattle.resp_errors.specs.declared.kinds.IoKind.{IoKind}
use Rattle.resp_errors.specs.declared.redis_error.RedisError.{RedisError}
use Rattle.resp_errors.specs.declared.redis_error.RedisError.TheVariants.{General, OutOfMemory}
use Rattle.resp_args.specs.Args.{Args}
use Rattle.resp_parse.specs.declared.type_byte.TypeByte.TheVariants as type_byte
use Rattle.resp_parse.specs.Lines.{crlf}
use Rattle.resp_parse.specs.Source.{Source, SourceGave, FailureCounted}
use Rattle.resp_parse.specs.TypeBytes.{byte_of}
use Rattle.resp_command.specs.Call.{broken_link, no_command, no_reply, needed, AnswersReply, Refuses}
use Rattle.resp_command.specs.Command.{Command}
use Rattle.resp_command.specs.Connection.{Connection, SameKind, Moves, Exchange, IsPrefix, ReceivedNothing}
use Rattle.resp_command.specs.Packed.{packed, bulk, length_line}
use Rattle.resp_command.specs.Subscriptions.{IsUnanswered}
use Rattle.resp_link.specs.Sink.{Sink, SendsAll}
use Rattle.resp_link.specs.Streaming.{TakesIn}

-- what a call is refused with where what gives the body ended before it, or failed
abbrev pub body_ended : RedisError
body_ended = General kind.Io (codes "body ended early") None

abbrev pub body_not_read : RedisError
body_not_read = General kind.Io (codes "body wasn't read") None

-- a request up to the bytes of its last argument, which has n of them
abbrev pub before_body : Args → ℕ → List ℕ
before_body args n =
    length_line (byte_of type_byte.Array) (length args + 1)
    ++ (flat_map bulk args ++ length_line (byte_of type_byte.BulkString) n)

-- a body of n bytes was read from one and sent to the other
pub record SentBody (n : ℕ) (k k' : Sink) (s t : Source) : Type 0 where
  pub body : List ℕ
  pub size : length body ≡ n
  pub gave : SourceGave s body t
  pub sends : TakesIn k k' body
  pub sink : k'.failures ≡ k.failures
  pub source : t.failures ≡ s.failures

-- why no more of it was: what gives it ended or failed, or the sink failed
pub data StopsSending (to_come : Option (List ℕ)) (source source' sink sink' : ℕ)
    (e : RedisError) : Type 0 where
  ended : e ≡ body_ended → IsAtEnd to_come → source' ≡ source → sink' ≡ sink →
      StopsSending to_come source source' sink sink' e
  not_read : e ≡ body_not_read → FailureCounted source source' → sink' ≡ sink →
      StopsSending to_come source source' sink sink' e
  not_sent : (kind : IoKind) → e ≡ error_of_io kind → source' ≡ source → FailureCounted sink sink' →
      StopsSending to_come source source' sink sink' e

-- at most so many bytes of it were read, and a prefix of them was sent
pub record CannotSendBody (n : ℕ) (k k' : Sink) (s t : Source) (e : RedisError) : Type 0 where
  pub part : List ℕ
  pub few : length part ≤ n
  pub gave : SourceGave s part t
  pub gone : List ℕ
  pub sends : TakesIn k k' gone
  pub prefix : IsPrefix gone part
  pub stops : StopsSending t.to_come s.failures t.failures k.failures k'.failures e

abbrev pub SendsBody : ℕ → Sink → Sink → Source → Source → Result (Unit {0}) RedisError → Type 0
SendsBody n k k' s t (Ok u) = SentBody n k k' s t
SendsBody n k k' s t (Err e) = CannotSendBody n k k' s t e

-- with what comes before it and its CR LF, and flushed
pub record SentRequest (head : List ℕ) (n : ℕ) (k k' : Sink) (s t : Source)
    (r : Result (Unit {0}) IoKind) : Type 0 where
  pub body : List ℕ
  pub size : length body ≡ n
  pub gave : SourceGave s body t
  pub source : t.failures ≡ s.failures
  pub sends : SendsAll k k' (head ++ (body ++ crlf)) r

-- at most so many bytes of the body were read, and a prefix of what comes before it and of them was
-- sent
pub record CannotSendRequest (head : List ℕ) (n : ℕ) (k k' : Sink) (s t : Source)
    (e : RedisError) : Type 0 where
  pub part : List ℕ
  pub few : length part ≤ n
  pub gave : SourceGave s part t
  pub gone : List ℕ
  pub sends : TakesIn k k' gone
  pub prefix : IsPrefix gone (head ++ part)
  pub stops : StopsSending t.to_come s.failures t.failures k.failures k'.failures e

pub data StopsRequest (head : List ℕ) (n : ℕ) (k k' : Sink) (s t : Source) (e : RedisError) : Type 0 where
  body_read : (kind : IoKind) → e ≡ error_of_io kind → SentRequest head n k k' s t (Err kind) →
      StopsRequest head n k k' s t e
  in_body : CannotSendRequest head n k k' s t e → StopsRequest head n k k' s t e

abbrev pub SendsRequest : List ℕ → ℕ → Sink → Sink → Source → Source → Result (Unit {0}) RedisError → Type 0
SendsRequest head n k k' s t (Ok u) = SentRequest head n k k' s t (Ok u)
SendsRequest head n k k' s t (Err e) = StopsRequest head n k k' s t e

-- Over a connection.

-- a beginning of the body was read, and what was sent begins the request of the command with any
-- body that begins so: the connection is broken, and nothing came in
pub record StoppedSending (old new : Connection) (args : Args) (n : ℕ) (s t : Source)
    (r : Result Value RedisError) : Type 0 where
  pub error : RedisError
  pub answer : r ≡ Err error
  pub same : SameKind old new
  pub gone : List ℕ
  pub moves : Moves old new [] gone
  pub unread : ReceivedNothing old new
  pub pushes : new.pushes ≡ old.pushes
  pub push_bytes : new.push_bytes ≡ old.push_bytes
  pub part : List ℕ
  pub few : length part ≤ n
  pub gave : SourceGave s part t
  pub prefix : (body : List ℕ) → length body ≡ n → IsPrefix part body →
      IsPrefix gone (packed (args ++ body ∷ []))
  pub stops : StopsSending t.to_come s.failures t.failures old.sink_failures new.sink_failures error
  pub source : new.source_failures ≡ old.source_failures
  pub broken : new.broken ≡ true

-- a body of n bytes was read, and there was an exchange of the command with it as its last argument
pub record SentWith (old new : Connection) (args : Args) (n m : ℕ) (s t : Source)
    (r : Result Value RedisError) : Type 0 where
  pub body : List ℕ
  pub size : length body ≡ n
  pub gave : SourceGave s body t
  pub failures : t.failures ≡ s.failures
  pub exchange : Exchange old new (packed (args ++ body ∷ [])) m r (AnswersReply (λ reply. r ≡ Ok reply))

-- or not all of it was read and sent; or memory ran out before
pub data SendsWith (old new : Connection) (args : Args) (n m : ℕ) (s t : Source)
    (r : Result Value RedisError) : Type 0 where
  exchange : SentWith old new args n m s t r → SendsWith old new args n m s t r
  stopped : StoppedSending old new args n s t r → SendsWith old new args n m s t r
  no_memory : r ≡ Err OutOfMemory → new ≡ old → t ≡ s → SendsWith old new args n m s t r

-- the call is refused, and neither the connection nor what gives the body changes
pub record RefusesToSend (old new : Connection) (s t : Source) (e : RedisError)
    (r : Result Value RedisError) : Type 0 where
  pub refuses : Refuses old new e r
  pub untouched : t ≡ s

-- what a call does that sends a command with a last argument of n bytes that are read
pub record SendsFrom (old new : Connection) (c : Command) (n : ℕ) (s t : Source)
    (r : Result Value RedisError) : Type 0 where
  pub when_broken : old.broken ≡ true → RefusesToSend old new s t broken_link r
  pub when_empty : old.broken ≡ false → c.args ≡ [] → RefusesToSend old new s t no_command r
  pub when_unanswered : old.broken ≡ false → IsUnanswered c → RefusesToSend old new s t no_reply r
  pub otherwise : old.broken ≡ false → (c.args ≡ [] → ⊥) → (IsUnanswered c → ⊥) →
      SendsWith old new c.args n (needed c) s t r
