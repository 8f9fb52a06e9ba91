-- Links to the nodes of a cluster, and what is sent over them.
use Rattle.std.specs.Prelude.{◌≡◌, ◌≢◌, ℕ, Bool, true, false, List, [], ◌∷◌, ◌++◌, All, length}
use Rattle.std.specs.Prelude.{slice_get, slice_set}
use Rattle.std.specs.Prelude.{Option, None, Some, Result, Ok, Err, codes}
use Rattle.resp_value.specs.declared.value.Value.{Value}
use Rattle.resp_errors.specs.declared.redis_error.RedisError.{RedisError}
use Rattle.resp_command.specs.Call.{CommandCall, PackedCall}
use Rattle.resp_command.specs.Command.{Command}
use Rattle.resp_command.specs.Connection.{Connection}
use Rattle.resp_cluster.specs.Redirects.{Redirects}
use Rattle.resp_cluster.specs.declared.links.NodeLink.{NodeLink}
use Rattle.resp_cluster.specs.declared.links.Sent.{Sent}
use Rattle.resp_cluster.specs.declared.links.Sent.TheVariants.{Unreached, Answered}
use Rattle.resp_cluster.specs.declared.node.NodeAddr.{NodeAddr}
use Rattle.resp_cluster.specs.declared.redirect.Redirect.{Redirect}
use Rattle.resp_cluster.specs.declared.redirect.Redirect.TheVariants.{Stays}

-- the links that were opened, in order, and the place of the one that was used last
pub record Links (L : Type 0) : Type 0 where
  pub links : List (NodeLink L)
  pub last : ℕ

abbrev pub no_links : {L : Type 0} → Links L
no_links = record { links = []; last = 0 }

-- the link that was used last, with its node
abbrev pub last_used : {L : Type 0} → Links L → Option (NodeLink L)
last_used links = slice_get links.links links.last

abbrev pub link_to : {L : Type 0} → NodeAddr → L → NodeLink L
link_to node link = record { node = node; link = link }

-- it leads to this node
abbrev pub IsLastNode : {L : Type 0} → NodeAddr → Links L → Type 0
IsLastNode {L} node links = (link : L) × (last_used links ≡ Some (link_to node link))

-- the link at this place is now this one, and was used last
abbrev pub with_link : {L : Type 0} → ℕ → NodeLink L → Links L → Links L
with_link place link links = record { links = slice_set links.links place link; last = place }

-- one more link, which was used last
abbrev pub with_one_more : {L : Type 0} → NodeLink L → Links L → Links L
with_one_more link links = record { links = links.links ++ link ∷ []; last = length links.links }

-- this is the link to a node at this place
abbrev pub IsAt : {L : Type 0} → Links L → ℕ → NodeAddr → L → Type 0
IsAt links place node link = slice_get links.links place ≡ Some (link_to node link)

-- no link was opened to this node
abbrev pub HasNoLink : {L : Type 0} → NodeAddr → Links L → Type 0
HasNoLink node links = All (λ link. link.node ≢ node) links.links

-- the place of a link to this node, if one was opened
abbrev pub IsPlaceOf : {L : Type 0} → NodeAddr → Links L → Option ℕ → Type 0
IsPlaceOf node links None = HasNoLink node links
IsPlaceOf {L} node links (Some place) = (link : L) × IsAt links place node link

module _ {L : Type 0} (of_link : L → Connection) where
  abbrev pub Works : L → Type 0
  Works link = (of_link link).broken ≡ false

  abbrev pub IsBroken : L → Type 0
  IsBroken link = (of_link link).broken ≡ true

  -- a link to this node stands at this place and works
  abbrev pub IsOpenAt : ℕ → NodeAddr → Links L → Type 0
  IsOpenAt place node links = (link : L) × (IsAt links place node link × Works link)

  -- a node is reached: a link to it that works was used last
  pub data Reaches (node : NodeAddr) (old new : Links L) (r : Result (Unit {0}) RedisError) : Type 0 where
    -- the one that was opened before
    kept : (place : ℕ) (link : L) → IsAt old place node link → Works link → new ≡ record old { last = place }
        → r ≡ Ok tt → Reaches node old new r
    -- that broke, and another takes its place
    reopened : (place : ℕ) (lost link : L) → IsAt old place node lost → IsBroken lost → Works link
        → new ≡ with_link place (link_to node link) old → r ≡ Ok tt → Reaches node old new r
    -- none was opened before
    opened : (link : L) → HasNoLink node old → Works link → new ≡ with_one_more (link_to node link) old
        → r ≡ Ok tt → Reaches node old new r
    -- there was none that works, and none is had
    unopened : (e : RedisError) → HasNoLink node old → new ≡ old → r ≡ Err e → Reaches node old new r
    unreopened : (e : RedisError) (place : ℕ) (lost : L) → IsAt old place node lost → IsBroken lost → new ≡ old
        → r ≡ Err e → Reaches node old new r

-- the bytes of the command ASKING
abbrev pub asking_bytes : List ℕ
asking_bytes = codes "*1\r\n$6\r\nASKING\r\n"

-- the bytes of the command READONLY
abbrev pub readonly_bytes : List ℕ
readonly_bytes = codes "*1\r\n$8\r\nREADONLY\r\n"

-- an answer without its reply
abbrev pub without_reply : Result Value RedisError → Result (Unit {0}) RedisError
without_reply (Ok reply) = Ok tt
without_reply (Err e) = Err e

-- a packed command is sent, and answered with this but for the reply
pub record IsTold (bytes : List ℕ) (old new : Connection) (r : Result (Unit {0}) RedisError) : Type 0 where
  pub answer : Result Value RedisError
  pub calls : PackedCall old new bytes answer
  pub is : r ≡ without_reply answer

-- a command over a link, or after ASKING, if that is answered
pub data SendsOver (old new : Connection) (asking : Bool) (c : Command) (r : Result Value RedisError) : Type 0 where
  plain : asking ≡ false → CommandCall old new c r (λ reply. r ≡ Ok reply) → SendsOver old new asking c r
  after_asking : (between : Connection) → asking ≡ true → IsTold asking_bytes old between (Ok tt)
      → CommandCall between new c r (λ reply. r ≡ Ok reply) → SendsOver old new asking c r
  not_asked : (e : RedisError) → asking ≡ true → IsTold asking_bytes old new (Err e) → r ≡ Err e → SendsOver old new asking c r

module _ {L : Type 0} (of_link : L → Connection) where
  -- the link that was used last, which works, makes a call
  pub record UsesLast (Calls : Connection → Connection → Type 0) (old new : Links L) : Type 0 where
    pub node : NodeAddr
    pub before : L
    pub after : L
    pub is_last : last_used old ≡ Some (link_to node before)
    pub calls : Calls (of_link before) (of_link after)
    pub new_is : new ≡ with_link old.last (link_to node after) old

  -- a command is sent to a node: the node is not reached, or its link sends it
  pub data SendsTo (c : Command) (old new : Links L) (node : NodeAddr) (asking : Bool) (sent : Sent) : Type 0 where
    unreached : (e : RedisError) → Reaches of_link node old new (Err e) → sent ≡ Unreached e
        → SendsTo c old new node asking sent
    answered : (r : Result Value RedisError) (reached : Links L) → Reaches of_link node old reached (Ok tt)
        → UsesLast (λ before after. SendsOver before after asking c r) reached new → sent ≡ Answered r
        → SendsTo c old new node asking sent

-- where what came of sending a command to a node sends it: where the reply says
abbrev pub SentRedirects : NodeAddr → Sent → Redirect → Type 0
SentRedirects node (Answered (Ok reply)) redirect = Redirects node.host reply redirect
SentRedirects node (Answered (Err e)) redirect = redirect ≡ Stays
SentRedirects node (Unreached e) redirect = redirect ≡ Stays
