-- A cluster's links, the map by which commands are sent, and one command over them.
use Rattle.std.specs.Prelude.{◌≡◌, ◌≢◌, ℕ, Bool, true, false, List, [], ◌∷◌, ◌++◌, Option, None, Some}
use Rattle.std.specs.Prelude.{codes, option_map}
use Rattle.std.specs.Prelude.{Result, Ok, Err}
use Rattle.std.specs.List.{FoldsTo}
use Rattle.resp_args.specs.Args.{Args}
use Rattle.resp_value.specs.declared.value.Value.{Value}
use Rattle.resp_errors.specs.declared.kinds.ErrorKind.TheVariants as kind
use Rattle.resp_errors.specs.declared.redis_error.RedisError.{RedisError}
use Rattle.resp_errors.specs.declared.redis_error.RedisError.TheVariants.{General, OutOfMemory}
use Rattle.resp_command.specs.Call.{PackedCall, no_command, no_reply}
use Rattle.resp_command.specs.Command.{Command}
use Rattle.resp_command.specs.Connection.{Connection}
use Rattle.resp_command.specs.Subscriptions.{IsUnanswered}
use Rattle.resp_routing.specs.CommandArgs.{args_with}
use Rattle.resp_routing.specs.Refusals.{redis_error_of}
use Rattle.resp_routing.specs.Routes.{HasNoRoute, IsRoute, is_readonly}
use Rattle.resp_routing.specs.declared.errors.RoutingError.{RoutingError}
use Rattle.resp_routing.specs.declared.routes.Route.{Route}
use Rattle.resp_routing.specs.declared.routes.Route.TheVariants.{Slot, Keyless}
use Rattle.resp_cluster.specs.LinkCommands.{is_link_command}
use Rattle.resp_cluster.specs.Links.{IsOpenAt, Links, Reaches, UsesLast, SendsTo, SentRedirects, last_used, no_links}
use Rattle.resp_cluster.specs.Maps.{primary_at, reader_at}
use Rattle.resp_cluster.specs.Primaries.{ArePrimaries, AreSome, IsPrimaryIn}
use Rattle.resp_cluster.specs.Replies.{map_in}
use Rattle.resp_cluster.specs.Routed.{Followed, Interrupted, StoppedShort, WentOn}
use Rattle.resp_cluster.specs.declared.one_node.Refusal.{Refusal}
use Rattle.resp_cluster.specs.declared.one_node.Refusal.TheVariants.{Empty, Unanswered, OfLink, Several, Unrouted}
use Rattle.resp_cluster.specs.declared.map_source.MapError.{MapError}
use Rattle.resp_cluster.specs.declared.map_source.MapError.TheVariants as wrong
use Rattle.resp_cluster.specs.declared.read_from.ReadFrom.{ReadFrom}
use Rattle.resp_cluster.specs.declared.read_from.ReadFrom.TheVariants.{Primary, Replica}
use Rattle.resp_cluster.specs.declared.router.RouteError.{RouteError}
use Rattle.resp_cluster.specs.declared.router.RouteError.TheVariants.{Unfollowed}
use Rattle.resp_cluster.specs.declared.links.Sent.{Sent}
use Rattle.resp_cluster.specs.declared.links.Sent.TheVariants.{Unreached, Answered}
use Rattle.resp_cluster.specs.declared.node.NodeAddr.{NodeAddr}
use Rattle.resp_cluster.specs.declared.node.SlotRange.{SlotRange}
use Rattle.resp_cluster.specs.declared.node.TopologyError.TheVariants as topology

-- the links to nodes, the map, how often a command is sent on, where reads go, and whether the map is to be asked for
-- before the next command
pub record Cluster (L : Type 0) : Type 0 where
  pub links : Links L
  pub map : List SlotRange
  pub budget : ℕ
  pub reads : ReadFrom
  pub stale : Bool

-- one by which nothing was sent
abbrev pub new_cluster : {L : Type 0} → List SlotRange → ℕ → Cluster L
new_cluster map budget = record { links = no_links; map = map; budget = budget; reads = Primary; stale = false }

-- the link that was used last
abbrev pub last_link : {L : Type 0} → Links L → Option L
last_link links = option_map (λ link. link.link) (last_used links)

-- a node is reached, and nothing but the links changes
abbrev pub ReachesOne : {L : Type 0} → (L → Connection) → NodeAddr → Cluster L → Cluster L
    → Result (Unit {0}) RedisError → Type 0
ReachesOne of_link node old new r =
    Reaches of_link node old.links new.links r × (new ≡ record old { links = new.links })

-- a node is reached, over this link
pub record IsReached {L : Type 0} (of_link : L → Connection) (node : NodeAddr) (old : Cluster L) (link : L) :
    Type 0 where
  pub links : Links L
  pub reaches : Reaches of_link node old.links links (Ok tt)
  pub is_last : last_link links ≡ Some link

-- ---- where a command goes

-- the arguments by which a command is routed: a cursor argument counts as 0
abbrev pub routed_args : Command → Args
routed_args c = args_with (codes "0") c

abbrev pub several_nodes : RedisError
several_nodes = General kind.Client (codes "the command goes to several nodes: use req_fan_out") None

abbrev pub of_link : RedisError
of_link = General kind.Client (codes "the command changes a link: send it over one") None

abbrev pub no_node : RedisError
no_node = General kind.ClusterConnectionNotFound (codes "the map has no node for the command") None

-- the route is to one node, and not where a policy says
abbrev pub is_to_one : Route → Bool
is_to_one (Slot slot) = true
is_to_one (Keyless None) = true
is_to_one (Keyless (Some policy)) = false

-- a command that is answered goes to one node
pub record Goes (c : Command) (route : Route) : Type 0 where
  pub some : c.args ≢ []
  pub answered : IsUnanswered c → ⊥
  pub is_route : IsRoute (routed_args c) route
  pub to_one : is_to_one route ≡ true
  pub changes_no_link : is_link_command (routed_args c) ≡ false

-- why a command goes nowhere
pub data CannotGo (c : Command) (e : RedisError) : Type 0 where
  empty : c.args ≡ [] → e ≡ no_command → CannotGo c e
  unanswered : IsUnanswered c → e ≡ no_reply → CannotGo c e
  changes_link : is_link_command (routed_args c) ≡ true → e ≡ of_link → CannotGo c e
  several : (route : Route) → IsRoute (routed_args c) route → is_to_one route ≡ false → e ≡ several_nodes
      → CannotGo c e
  unrouted : (why : RoutingError) → HasNoRoute (routed_args c) why → e ≡ redis_error_of why → CannotGo c e

-- what a caller is answered where a command goes nowhere
abbrev pub error_of : Refusal → RedisError
error_of Empty = no_command
error_of Unanswered = no_reply
error_of OfLink = of_link
error_of Several = several_nodes
error_of (Unrouted why) = redis_error_of why

-- the first primary of a map
abbrev pub first_primary : List SlotRange → Option NodeAddr
first_primary [] = None
first_primary (range ∷ map) = elim range.primary [ None ↦ first_primary map | Some node ↦ Some node ]

-- the node of the last used link, or the first primary
abbrev pub any_node : {L : Type 0} → Cluster L → Option NodeAddr
any_node cluster = elim (last_used cluster.links) [ None ↦ first_primary cluster.map | Some link ↦ Some link.node ]

-- the node that serves a slot, whether to a command that only reads or to another
abbrev pub node_at : Bool → ReadFrom → List SlotRange → ℕ → Option NodeAddr
node_at false from map slot = primary_at map slot
node_at true Primary map slot = primary_at map slot
node_at true Replica map slot = reader_at map slot

-- the node that a command is sent to first, whether it only reads or not: one that serves its slot, or any
abbrev pub first_node : {L : Type 0} → Bool → Route → Cluster L → Option NodeAddr
first_node only_reads (Slot slot) cluster = node_at only_reads cluster.reads cluster.map slot
first_node only_reads (Keyless policy) cluster = any_node cluster

-- whether a command only reads
abbrev pub only_reads : Command → Bool
only_reads c = is_readonly (routed_args c)

-- ---- one command

-- the answer is the failure of a call
abbrev pub has_failed : Sent → Bool
has_failed (Unreached e) = false
has_failed (Answered (Ok reply)) = false
has_failed (Answered (Err e)) = true

-- what a caller is answered
abbrev pub answer_of : Result Sent RedisError → Result Value RedisError
answer_of (Ok (Answered r)) = r
answer_of (Ok (Unreached e)) = Err e
answer_of (Err e) = Err e

-- the same, but where the last node was not reached
abbrev pub reached : Result Sent RedisError → Option (Result Value RedisError)
reached (Ok (Answered r)) = Some r
reached (Ok (Unreached e)) = None
reached (Err e) = Some (Err e)

-- what came of the last send, and whether the map is to be asked for: where that failed, or memory ran out for where it
-- redirects
abbrev pub EndsWith : Result Sent (RouteError Sent) → Sent → Bool → Type 0
EndsWith (Ok sent) last failed = (last ≡ sent) × (failed ≡ has_failed sent)
EndsWith (Err (Unfollowed sent)) last failed = (last ≡ sent) × (failed ≡ true)
EndsWith (Err _) last failed = ⊥

module _ {L : Type 0} (of_link : L → Connection) where
  -- the link to the first node of a command stands at this place and works
  abbrev pub IsFirstPlace : Command → Route → Cluster L → ℕ → Type 0
  IsFirstPlace c route cluster place = (node : NodeAddr)
      × ((first_node (only_reads c) route cluster ≡ Some node) × IsOpenAt of_link place node cluster.links)

  -- a command goes on from what came of sending it to a node
  pub data RoundOn (c : Command) (node : NodeAddr) (reply : Sent) (old new : Cluster L) (sent : Sent) : Type 0 where
    went : (links : Links L) (map : List SlotRange)
        → WentOn (SendsTo of_link c) SentRedirects node reply old.budget old.links old.map links map sent
        → new ≡ record { links = links; map = map; budget = old.budget; reads = old.reads; stale = has_failed sent }
        → RoundOn c node reply old new sent
    stopped : (links : Links L) (map : List SlotRange)
        → StoppedShort (SendsTo of_link c) SentRedirects node reply old.budget old.links old.map links map sent
        → new ≡ record { links = links; map = map; budget = old.budget; reads = old.reads; stale = true }
        → RoundOn c node reply old new sent

  -- a command is sent to its first node and on to where redirects point. After a failed call, and where memory ran out
  -- for a redirect, the map is asked for before the next command
  pub data Round (c : Command) (route : Route) (old new : Cluster L) (r : Result Sent RedisError) : Type 0 where
    followed : (node : NodeAddr) (links : Links L) (map : List SlotRange) (sent : Sent)
        → first_node (only_reads c) route old ≡ Some node
        → Followed (SendsTo of_link c) SentRedirects (node, false) old.budget old.links old.map links map sent
        → new ≡ record { links = links; map = map; budget = old.budget; reads = old.reads; stale = has_failed sent }
        → r ≡ Ok sent → Round c route old new r
    cut_short : (node : NodeAddr) (links : Links L) (map : List SlotRange) (sent : Sent)
        → first_node (only_reads c) route old ≡ Some node
        → Interrupted (SendsTo of_link c) SentRedirects (node, false) old.budget old.links old.map links map sent
        → new ≡ record { links = links; map = map; budget = old.budget; reads = old.reads; stale = true }
        → r ≡ Ok sent → Round c route old new r
    nowhere : first_node (only_reads c) route old ≡ None → new ≡ old → r ≡ Err no_node → Round c route old new r
    no_memory : new ≡ old → r ≡ Err OutOfMemory → Round c route old new r

-- ---- the map

-- the bytes of the command CLUSTER SLOTS
abbrev pub slots_bytes : List ℕ
slots_bytes = codes "*2\r\n$7\r\nCLUSTER\r\n$5\r\nSLOTS\r\n"

-- the map that a node's reply gives, or why it gives none; it may run out of memory, too
abbrev pub IsMapOf : NodeAddr → Value → Result (List SlotRange) MapError → Type 0
IsMapOf node reply (Ok map) = map_in node.host reply ≡ Ok map
IsMapOf node reply (Err (wrong.NoMap e)) = e ≢ topology.OutOfMemory → map_in node.host reply ≡ Err e
IsMapOf node reply (Err _) = ⊥

-- why no map was had, as an error of a connection
abbrev pub without_map : MapError → RedisError
without_map wrong.NoNode = General kind.ClusterConnectionNotFound (codes "no node to ask for the map of slots") None
without_map (wrong.Unreached e) = e
without_map (wrong.Failed e) = e
without_map (wrong.NoMap topology.OutOfMemory) = OutOfMemory
without_map (wrong.NoMap why) = General kind.UnexpectedReturnType (codes "the reply gives no map of slots") None

-- the map that a node's answer gives, or why it gives none
abbrev pub IsMapAnswer : NodeAddr → Result Value RedisError → Result (List SlotRange) MapError → Type 0
IsMapAnswer node (Ok reply) r = IsMapOf node reply r
IsMapAnswer node (Err e) r = r ≡ Err (wrong.Failed e)

module _ {L : Type 0} (of_link : L → Connection) where
  -- the link that was used last asks its node for the map
  pub record AsksReached (node : NodeAddr) (old new : Links L) (r : Result (List SlotRange) MapError) : Type 0 where
    pub answer : Result Value RedisError
    pub asks : UsesLast of_link (λ before after. PackedCall before after slots_bytes answer) old new
    pub gives : IsMapAnswer node answer r

  -- a node is asked for the map
  pub data AsksMap (node : NodeAddr) (old new : Links L) (r : Result (List SlotRange) MapError) : Type 0 where
    unreached : (e : RedisError) → Reaches of_link node old new (Err e) → r ≡ Err (wrong.Unreached e)
        → AsksMap node old new r
    asked : (reached : Links L) → Reaches of_link node old reached (Ok tt) → AsksReached node reached new r
        → AsksMap node old new r

  -- a node is asked in vain
  pub record AsksInVain (old : Links L) (node : NodeAddr) (new : Links L) : Type 0 where
    pub error : MapError
    pub asks : AsksMap node old new (Err error)

  -- nodes are asked for the map, one after another, until one gives it; where none does, the last one says why
  pub data AsksInTurn (nodes : List NodeAddr) (old new : Links L) (r : Result (List SlotRange) MapError) : Type 0 where
    found : (front : List NodeAddr) (node : NodeAddr) (back : List NodeAddr) (before : Links L) (map : List SlotRange)
        → nodes ≡ front ++ node ∷ back → FoldsTo AsksInVain old front before → AsksMap node before new (Ok map)
        → r ≡ Ok map → AsksInTurn nodes old new r
    nobody : nodes ≡ [] → new ≡ old → r ≡ Err wrong.NoNode → AsksInTurn nodes old new r
    in_vain : (front : List NodeAddr) (last : NodeAddr) (before : Links L) (e : MapError) → nodes ≡ front ++ last ∷ []
        → FoldsTo AsksInVain old front before → AsksMap last before new (Err e) → r ≡ Err e → AsksInTurn nodes old new r

  -- one whose map a node gave
  pub record Opens (seeds : List NodeAddr) (budget : ℕ) (cluster : Cluster L) : Type 0 where
    pub asks : AsksInTurn seeds no_links cluster.links (Ok cluster.map)
    pub budget_is : cluster.budget ≡ budget
    pub reads_are : cluster.reads ≡ Primary
    pub fresh : cluster.stale ≡ false

  -- none of these nodes gives one, and the last one does not for this reason
  pub record CannotOpen (seeds : List NodeAddr) (e : MapError) : Type 0 where
    pub links : Links L
    pub asks : AsksInTurn seeds no_links links (Err e)

  -- primaries of a map are asked for one in turn, each once: until one gives it, or all
  pub data AsksPrimaries (known : List SlotRange) (old new : Links L) (r : Result (List SlotRange) MapError) : Type 0 where
    until_one : (nodes : List NodeAddr) (map : List SlotRange) → AreSome (IsPrimaryIn known) nodes
        → AsksInTurn nodes old new (Ok map) → r ≡ Ok map → AsksPrimaries known old new r
    all_in_vain : (nodes : List NodeAddr) (e : MapError) → ArePrimaries known nodes
        → AsksInTurn nodes old new (Err e) → r ≡ Err e → AsksPrimaries known old new r

  -- the primaries that the map knows are asked for one; where none gives it the map stays
  pub data Refreshes (old new : Cluster L) : Type 0 where
    learnt : (links : Links L) (map : List SlotRange) → AsksPrimaries old.map old.links links (Ok map)
        → new ≡ record { links = links; map = map; budget = old.budget; reads = old.reads; stale = false } → Refreshes old new
    kept : (links : Links L) (e : MapError) → AsksPrimaries old.map old.links links (Err e)
        → new ≡ record { links = links; map = old.map; budget = old.budget; reads = old.reads; stale = false } → Refreshes old new

  -- where the map is stale it is asked for
  pub data Readies (old new : Cluster L) : Type 0 where
    fresh : old.stale ≡ false → new ≡ old → Readies old new
    refreshed : old.stale ≡ true → Refreshes old new → Readies old new

  -- the map is asked for, and a command is sent by its route
  pub record OnceMore (c : Command) (route : Route) (old new : Cluster L) (r : Result Value RedisError) : Type 0 where
    pub ready : Cluster L
    pub outcome : Result Sent RedisError
    pub refreshes : Refreshes old ready
    pub sends : Round of_link c route ready new outcome
    pub answers : r ≡ answer_of outcome

  -- what comes of sending a command; where the last node was not reached the map is asked for, and the command is sent once
  -- more by its route
  pub data OrOnceMore (First : Cluster L → Result Sent RedisError → Type 0) (c : Command) (route : Route)
      (new : Cluster L) (r : Result Value RedisError) : Type 0 where
    once : (outcome : Result Sent RedisError) → First new outcome → reached outcome ≡ Some r
        → OrOnceMore First c route new r
    again : (outcome : Result Sent RedisError) (unreached : Cluster L) → First unreached outcome → reached outcome ≡ None
        → OnceMore c route unreached new r → OrOnceMore First c route new r

  -- a command is sent by its route, and perhaps once more
  abbrev pub Rounds : Command → Route → Cluster L → Cluster L → Result Value RedisError → Type 0
  Rounds c route old new r = OrOnceMore (Round of_link c route old) c route new r

  -- a command goes on from what came of sending it to a node, and is perhaps sent once more
  abbrev pub RoundsOn : Command → Route → NodeAddr → Sent → Cluster L → Cluster L → Result Value RedisError → Type 0
  RoundsOn c route node reply old new r = OrOnceMore
      (λ now outcome. (sent : Sent) × ((outcome ≡ Ok sent) × RoundOn of_link c node reply old now sent)) c route new r

  -- a command over a cluster: refused unsent, or sent by its route
  pub data RoutedCall (c : Command) (old new : Cluster L) (r : Result Value RedisError) : Type 0 where
    unsent : (e : RedisError) → (e ≢ OutOfMemory → CannotGo c e) → new ≡ old → r ≡ Err e → RoutedCall c old new r
    routed : (route : Route) (ready : Cluster L) → Goes c route → Readies old ready → Rounds c route ready new r
        → RoutedCall c old new r
