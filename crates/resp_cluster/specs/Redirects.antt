-- Where a reply sends its command (Redis cluster specification, "MOVED Redirection", "ASK redirection").
use Rattle.std.specs.Prelude.{◌≡◌, ◌≢◌, ℕ, ◌<◌, ◌==◌, List, ◌∷◌, ◌++◌, All, length, Some, if◌then◌else◌}
use Rattle.resp_errors.specs.Numerals.{UnsignedText}
use Rattle.resp_errors.specs.ServerErrors.{server_kind_of, server_details_of}
use Rattle.resp_errors.specs.declared.kinds.ServerErrorKind.{ServerErrorKind}
use Rattle.resp_errors.specs.declared.kinds.ServerErrorKind.TheVariants as kind
use Rattle.resp_errors.specs.declared.server_error.ServerError.{ServerError}
use Rattle.resp_value.specs.declared.value.Value.{Value, out-Value}
use Rattle.resp_value.specs.declared.value.Value.TheOpen.{Value-F}
use Rattle.resp_cluster.specs.declared.node.NodeAddr.{NodeAddr}
use Rattle.resp_cluster.specs.declared.redirect.Redirect.{Redirect}
use Rattle.resp_cluster.specs.declared.redirect.Redirect.TheVariants.{Stays, Moved, Ask}

-- a text is a front, this byte, and a back, and the byte is the first of its kind
pub record AroundFirst (byte : ℕ) (text front back : List ℕ) : Type 0 where
  pub whole : text ≡ front ++ byte ∷ back
  pub first : All (λ b. b ≢ byte) front

-- the same, and the byte is the last of its kind
pub record AroundLast (byte : ℕ) (text front back : List ℕ) : Type 0 where
  pub whole : text ≡ front ++ byte ∷ back
  pub last : All (λ b. b ≢ byte) back

abbrev pub space : ℕ
space = 32

abbrev pub colon : ℕ
colon = 58

-- HOST:PORT; no host is that of the node that was asked
pub record NamesAddr (asked text : List ℕ) (node : NodeAddr) : Type 0 where
  pub host : List ℕ
  pub port : List ℕ
  pub parts : AroundLast colon text host port
  pub host_is : node.host ≡ (if length host == 0 then asked else host)
  pub port_is : UnsignedText 16 port node.port

-- SLOT HOST:PORT
pub record NamesPlace (asked text : List ℕ) (slot : ℕ) (node : NodeAddr) : Type 0 where
  pub number : List ℕ
  pub address : List ℕ
  pub parts : AroundFirst space text number address
  pub slot_is : UnsignedText 16 number slot
  pub in_range : slot < 16384
  pub node_is : NamesAddr asked address node

-- an error of this kind that names a slot and a node
pub record SendsTo (kind : ServerErrorKind) (asked : List ℕ) (e : ServerError) (slot : ℕ) (node : NodeAddr) :
    Type 0 where
  pub detail : List ℕ
  pub is_kind : server_kind_of e ≡ Some kind
  pub says : server_details_of e ≡ Some detail
  pub names : NamesPlace asked detail slot node

-- an error that sends a command nowhere
pub record SendsNowhere (asked : List ℕ) (e : ServerError) : Type 0 where
  pub not_moved : (slot : ℕ) (node : NodeAddr) → SendsTo kind.Moved asked e slot node → ⊥
  pub not_asked : (slot : ℕ) (node : NodeAddr) → SendsTo kind.Ask asked e slot node → ⊥

-- where an error sends a command
abbrev pub ErrorRedirects : List ℕ → ServerError → Redirect → Type 0
ErrorRedirects asked e Stays = SendsNowhere asked e
ErrorRedirects asked e (Moved slot node) = SendsTo kind.Moved asked e slot node
ErrorRedirects asked e (Ask node) = (slot : ℕ) × SendsTo kind.Ask asked e slot node

-- where a reply sends a command: nowhere, if it is no error
abbrev pub Redirects : List ℕ → Value → Redirect → Type 0
Redirects asked reply redirect = elim (out-Value reply) [
  | Value-F.ServerError e ↦ ErrorRedirects asked e redirect
  | _ ↦ redirect ≡ Stays
]
