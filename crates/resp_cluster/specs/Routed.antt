-- One command over the nodes of a cluster.
use Rattle.std.specs.Prelude.{◌≡◌, ℕ, ◌-◌, ◌<◌, ◌≤◌, ◌⊎◌, Bool, true, false, List, length, Option, Some, None}
use Rattle.std.specs.List.{FoldsTo}
use Rattle.resp_cluster.specs.Maps.{primary_at, with_primary}
use Rattle.resp_cluster.specs.declared.node.NodeAddr.{NodeAddr}
use Rattle.resp_cluster.specs.declared.node.SlotRange.{SlotRange}
use Rattle.resp_cluster.specs.declared.redirect.Redirect.{Redirect}
use Rattle.resp_cluster.specs.declared.redirect.Redirect.TheVariants.{Stays, Moved, Ask}
use Rattle.resp_cluster.specs.declared.router.RouteError.{RouteError}
use Rattle.resp_cluster.specs.declared.router.RouteError.TheVariants.{NoNode, OutOfMemory, Unfollowed}

-- the map after a reply: a MOVED says where its slot is, and nothing else changes it
abbrev pub map_after : Redirect → List SlotRange → List SlotRange
map_after Stays map = map
map_after (Moved slot node) map = with_primary slot node map
map_after (Ask node) map = map

-- where a reply sends the command: to the node that it names, after ASKING only where it is an ASK
abbrev pub next_of : Redirect → Option (NodeAddr × Bool)
next_of Stays = None
next_of (Moved slot node) = Some (node, false)
next_of (Ask node) = Some (node, true)

-- memory ran out for where what came of the last send redirects
abbrev pub IsUnfollowed : {T : Type 0} → RouteError T → Type 0
IsUnfollowed {T} e = (sent : T) × (e ≡ Unfollowed sent)

-- before a send: the nodes, the map, the node that it goes to, and whether after ASKING
pub record Turn (S : Type 0) : Type 0 where
  pub nodes : S
  pub map : List SlotRange
  pub to : NodeAddr × Bool

-- a map learns of where a reply sends its command, and that is the next node
pub record Learns (Redirects : Redirect → Type 0) (old new : List SlotRange) (next : Option (NodeAddr × Bool)) :
    Type 0 where
  pub redirect : Redirect
  pub reads : Redirects redirect
  pub learnt : new ≡ map_after redirect old
  pub next_is : next ≡ next_of redirect

module _ {S T : Type 0} (sends : S → S → NodeAddr → Bool → T → Type 0)
    (redirects : NodeAddr → T → Redirect → Type 0) where
  -- the command is sent, and the reply sends it on
  pub record SentOn (old : Turn S) (reply : T) (new : Turn S) : Type 0 where
    pub sent : sends old.nodes new.nodes old.to.0 old.to.1 reply
    pub learns : Learns (redirects old.to.0 reply) old.map new.map (Some new.to)

  -- the first send goes to this node, after ASKING or not, and each later one to where the reply before it points; there
  -- are at most budget later ones, and these were the replies before the last
  pub record Leads (first : NodeAddr × Bool) (budget : ℕ) (old : S) (old_map : List SlotRange) (earlier : List T)
      (last : Turn S) : Type 0 where
    pub followed : FoldsTo SentOn (record { nodes = old; map = old_map; to = first }) earlier last
    pub within : length earlier ≤ budget

  -- the last send's reply is the answer; it points nowhere, or the budget is used up
  pub record Followed (first : NodeAddr × Bool) (budget : ℕ) (old : S) (old_map : List SlotRange) (new : S)
      (new_map : List SlotRange) (answer : T) : Type 0 where
    pub earlier : List T
    pub last : Turn S
    pub next : Option (NodeAddr × Bool)
    pub leads : Leads first budget old old_map earlier last
    pub sent : sends last.nodes new last.to.0 last.to.1 answer
    pub learns : Learns (redirects last.to.0 answer) last.map new_map next
    pub stops : (next ≡ None) ⊎ (length earlier ≡ budget)

  -- the first node is the primary of the slot
  abbrev pub Routed : ℕ → ℕ → S → List SlotRange → S → List SlotRange → T → Type 0
  Routed slot budget old old_map new new_map answer =
      (primary : NodeAddr) × ((primary_at old_map slot ≡ Some primary)
      × Followed (primary, false) budget old old_map new new_map answer)

  -- the same sends; the last one's reply is this, and the map has not learnt of it
  pub record Interrupted (first : NodeAddr × Bool) (budget : ℕ) (old : S) (old_map : List SlotRange) (new : S)
      (new_map : List SlotRange) (answer : T) : Type 0 where
    pub earlier : List T
    pub last : Turn S
    pub leads : Leads first budget old old_map earlier last
    pub sent : sends last.nodes new last.to.0 last.to.1 answer
    pub unlearnt : new_map ≡ last.map

  abbrev pub NotFollowed : NodeAddr × Bool → ℕ → S → List SlotRange → S → List SlotRange → RouteError T → Type 0
  NotFollowed first budget old old_map new new_map (Unfollowed answer) =
      Interrupted first budget old old_map new new_map answer
  NotFollowed first budget old old_map new new_map _ = ⊥

  -- nothing was sent, since the map knows no primary of the slot, or for lack of memory; or the last reply was not
  -- followed for lack of memory
  abbrev pub NotRouted : ℕ → ℕ → S → List SlotRange → S → List SlotRange → RouteError T → Type 0
  NotRouted slot budget old old_map new new_map NoNode =
      (primary_at old_map slot ≡ None) × (new ≡ old) × (new_map ≡ old_map)
  NotRouted slot budget old old_map new new_map OutOfMemory = (new ≡ old) × (new_map ≡ old_map)
  NotRouted slot budget old old_map new new_map (Unfollowed answer) =
      (primary : NodeAddr) × ((primary_at old_map slot ≡ Some primary)
      × Interrupted (primary, false) budget old old_map new new_map answer)

  -- a command that a node replied to goes on from the reply: nowhere, or to where that points
  pub data WentOn (node : NodeAddr) (reply : T) (budget : ℕ) (old : S) (old_map : List SlotRange) (new : S)
      (new_map : List SlotRange) (answer : T) : Type 0 where
    nowhere : (next : Option (NodeAddr × Bool)) → Learns (redirects node reply) old_map new_map next
        → (next ≡ None) ⊎ (budget ≡ 0) → new ≡ old → answer ≡ reply
        → WentOn node reply budget old old_map new new_map answer
    onwards : (to : NodeAddr × Bool) (map : List SlotRange) → Learns (redirects node reply) old_map map (Some to)
        → 0 < budget → Followed to (budget - 1) old map new new_map answer
        → WentOn node reply budget old old_map new new_map answer

  -- memory ran out for where the last reply points
  pub data StoppedShort (node : NodeAddr) (reply : T) (budget : ℕ) (old : S) (old_map : List SlotRange) (new : S)
      (new_map : List SlotRange) (answer : T) : Type 0 where
    at_once : new ≡ old → new_map ≡ old_map → answer ≡ reply → StoppedShort node reply budget old old_map new new_map answer
    on_the_way : (to : NodeAddr × Bool) (map : List SlotRange) → Learns (redirects node reply) old_map map (Some to)
        → 0 < budget → Interrupted to (budget - 1) old map new new_map answer
        → StoppedShort node reply budget old old_map new new_map answer

  abbrev pub DidNotGoOn : NodeAddr → T → ℕ → S → List SlotRange → S → List SlotRange → RouteError T → Type 0
  DidNotGoOn node reply budget old old_map new new_map (Unfollowed answer) =
      StoppedShort node reply budget old old_map new new_map answer
  DidNotGoOn node reply budget old old_map new new_map _ = ⊥
