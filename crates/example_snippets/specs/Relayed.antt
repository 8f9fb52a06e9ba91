-- What a proxy does with one request, and with pushes.
use Rattle.std.specs.Prelude.{◌≡◌, List, [], ◌∷◌, ℕ, Option, Some, Result, Ok, Err, IfErr, OnOk, OnErr}
use Rattle.std.specs.Fmt.{◌++?◌}
use Rattle.resp_core.specs.Connections.{Connection, PackedCall}
use Rattle.resp_core.specs.Replies.{usual}
use Rattle.resp_encode.specs.Encodings.{RefusesValue, encoding_in}
use Rattle.resp_core.specs.declared.ProtocolVersion.{ProtocolVersion}
use Rattle.resp_core.specs.declared.ProtocolVersion.TheVariants.{RESP2, RESP3}
use Rattle.resp_core.specs.declared.RedisError.{RedisError}
use Rattle.resp_value.specs.declared.value.Value.{Value, Push}
use Rattle.resp_value.specs.declared.value.PushInfo.{PushInfo}

-- the bytes that the client is sent for a reply in its version of the protocol
abbrev pub sent_for : ProtocolVersion → Value → Option (List ℕ)
sent_for protocol reply = encoding_in protocol usual.depth reply

-- what the client is sent: the reply's bytes; and nothing, where the server gave none
abbrev pub HandsOn : ProtocolVersion → List ℕ → List ℕ → Result Value RedisError → Type 0
HandsOn protocol before after (Ok reply) = (Some before ++? sent_for protocol reply) ≡ Some after
HandsOn protocol before after (Err e) = ⊥

-- why the client is sent nothing: the reply has no bytes, or memory ran out; or there is none
abbrev pub HandsNothingOn : ProtocolVersion → Result Value RedisError → RedisError → Type 0
HandsNothingOn protocol (Ok reply) error = RefusesValue (sent_for protocol reply) error
HandsNothingOn protocol (Err e) error = error ≡ e

-- the server is sent the request as it is, and its reply is handed on
pub record Relays (old new : Connection) (request : List ℕ) (protocol : ProtocolVersion)
    (before after : List ℕ) (r : Result (Unit {0}) RedisError) : Type 0 where
  pub reply : Result Value RedisError
  pub asked : PackedCall old new request reply
  pub handed_on : OnOk r (HandsOn protocol before after reply)
  pub unchanged : OnErr r (after ≡ before)
  pub refused : IfErr r (HandsNothingOn protocol reply)

-- what a client of RESP3 is sent for each push, one after another
abbrev pub sent_for_each : List PushInfo → Option (List ℕ)
sent_for_each [] = Some []
sent_for_each (push ∷ pushes) =
    sent_for RESP3 (Push push.kind push.payload) ++? sent_for_each pushes

-- what the client is sent for pushes: in RESP3 each, in RESP2 nothing
abbrev pub sent_for_pushes : ProtocolVersion → List PushInfo → Option (List ℕ)
sent_for_pushes RESP2 pushes = Some []
sent_for_pushes RESP3 pushes = sent_for_each pushes

-- why the client is sent nothing for pushes: one has no bytes, or memory ran out; never in RESP2
abbrev pub RefusesPushes : ProtocolVersion → List PushInfo → RedisError → Type 0
RefusesPushes RESP2 pushes error = ⊥
RefusesPushes RESP3 pushes error = RefusesValue (sent_for_each pushes) error
