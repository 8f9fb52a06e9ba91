-- A command that goes to several nodes of a cluster.
use Rattle.std.specs.Prelude.{◌≡◌, ◌≢◌, ℕ, Bool, true, false, List, [], ◌∷◌, ◌++◌, decimal, map, length, replicate, option_map, Option, None, Some, is_none, codes}
use Rattle.std.specs.List.{find, flat_map, range_with_len, zip}
use Rattle.resp_value.specs.FirstError.{first_error}
use Rattle.resp_value.specs.declared.value.Value.{Value, Array, BulkString, Map, out-Value}
use Rattle.resp_value.specs.declared.value.Value.TheOpen.{Value-F}
use Rattle.resp_errors.specs.declared.kinds.ErrorKind.TheVariants as kind
use Rattle.resp_errors.specs.declared.redis_error.RedisError.{RedisError}
use Rattle.resp_errors.specs.declared.redis_error.RedisError.TheVariants.{General, OutOfMemory}
use Rattle.resp_command.specs.Command.{Command}
use Rattle.resp_command.specs.Connection.{Connection}
use Rattle.resp_routing.specs.Commands.{command_of}
use Rattle.resp_routing.specs.Refusals.{redis_error_of}
use Rattle.resp_routing.specs.Routes.{HasNoRoute, IsRoute}
use Rattle.resp_routing.specs.declared.commands.RequestPolicy.{RequestPolicy}
use Rattle.resp_routing.specs.declared.commands.RequestPolicy.TheVariants as request
use Rattle.resp_routing.specs.declared.commands.ResponsePolicy.{ResponsePolicy}
use Rattle.resp_routing.specs.declared.commands.ResponsePolicy.TheVariants as response
use Rattle.resp_routing.specs.declared.errors.RoutingError.{RoutingError}
use Rattle.resp_routing.specs.declared.routes.Route.{Route}
use Rattle.resp_routing.specs.declared.routes.Route.TheVariants.{Slot, Keyless}
use Rattle.resp_cluster.specs.Cluster.{Cluster, Readies, no_node, routed_args}
use Rattle.resp_cluster.specs.Gathered.{Gathered, RefusedGroup}
use Rattle.resp_cluster.specs.Merges.{MergesAnd, MergesLeast, MergesSum, first_error_in, why_none}
use Rattle.resp_cluster.specs.Primaries.{AreNodes, ArePrimaries}
use Rattle.resp_cluster.specs.Redirects.{colon}
use Rattle.resp_cluster.specs.Spread.{SendsGroup}
use Rattle.resp_cluster.specs.declared.node.NodeAddr.{NodeAddr}
use Rattle.resp_cluster.specs.declared.node.SlotRange.{SlotRange}

-- a request policy names several nodes
abbrev pub names_several : RequestPolicy → Bool
names_several request.AllShards = true
names_several request.AllNodes = true
names_several to = false

-- one reply that is no error is enough
abbrev pub one_is_enough : Option ResponsePolicy → Bool
one_is_enough (Some response.OneSucceeded) = true
one_is_enough makes = false

-- the request policy of a route, where it has one
abbrev pub policy_of : Route → Option RequestPolicy
policy_of (Slot slot) = None
policy_of (Keyless policy) = policy

-- a command without keys, and its policies: it goes to several nodes
pub record FansOut (c : Command) (to : RequestPolicy) (makes : Option ResponsePolicy) : Type 0 where
  pub is_route : IsRoute (routed_args c) (Keyless (Some to))
  pub is_policy : option_map (λ row. row.response_policy) (command_of (routed_args c)) ≡ Some makes
  pub several : names_several to ≡ true

abbrev pub not_several : RedisError
not_several = General kind.Client (codes "the command isn't sent to several nodes: use link_to") None

-- why a command is not sent to several nodes: it has no route, or no such policies
pub data CannotFanOut (c : Command) (e : RedisError) : Type 0 where
  unrouted : (why : RoutingError) → HasNoRoute (routed_args c) why → e ≡ redis_error_of why → CannotFanOut c e
  elsewhere : ((to : RequestPolicy) (makes : Option ResponsePolicy) → FansOut c to makes → ⊥) → e ≡ not_several → CannotFanOut c e

-- the nodes that a request policy names
abbrev pub AreNamed : RequestPolicy → List SlotRange → List NodeAddr → Type 0
AreNamed request.AllShards map nodes = ArePrimaries map nodes
AreNamed request.AllNodes map nodes = AreNodes map nodes
AreNamed to map nodes = ⊥

-- the items of an array, or the reply as one
abbrev pub items_of : Value → List Value
items_of reply = elim (out-Value reply) [ Value-F.Array items ↦ items | _ ↦ reply ∷ [] ]

-- the first of several replies
pub record IsFirst (replies : List Value) (answer : Value) : Type 0 where
  pub rest : List Value
  pub all : replies ≡ answer ∷ rest

-- a reply is no error, and holds none
abbrev pub succeeds : Value → Bool
succeeds reply = is_none (first_error reply)

-- HOST:PORT
abbrev pub address_of : NodeAddr → List ℕ
address_of node = node.host ++ colon ∷ decimal node.port

-- replies, each after the address of its node
abbrev pub addressed : List NodeAddr → List Value → List (Value × Value)
addressed nodes replies = zip (map (λ node. BulkString (address_of node)) nodes) replies

-- what nodes' replies make by a response policy, where one success isn't enough and none of them is an error
abbrev pub Makes : Option ResponsePolicy → List NodeAddr → List Value → Value → Type 0
Makes None nodes replies answer = answer ≡ Array (flat_map items_of replies)
Makes (Some response.OneSucceeded) nodes replies answer = ⊥
Makes (Some response.AllSucceeded) nodes replies answer = IsFirst replies answer
Makes (Some response.AggLogicalAnd) nodes replies answer = MergesAnd replies answer
Makes (Some response.AggMin) nodes replies answer = MergesLeast replies answer
Makes (Some response.AggSum) nodes replies answer = MergesSum replies answer
Makes (Some response.Special) nodes replies answer = answer ≡ Map (addressed nodes replies)

-- the first that succeeds, where one is enough, or what they make, where none of them is an error
abbrev pub Combines : Option ResponsePolicy → List NodeAddr → List Value → Value → Type 0
Combines (Some response.OneSucceeded) nodes replies answer = find succeeds replies ≡ Some answer
Combines makes nodes replies answer = (first_error_in replies ≡ None) × Makes makes nodes replies answer

-- they make nothing, and the error is the first server's error in them, or says so where they hold none
pub record CannotCombine (makes : Option ResponsePolicy) (nodes : List NodeAddr) (replies : List Value) (e : RedisError) : Type 0 where
  pub none : (answer : Value) → Combines makes nodes replies answer → ⊥
  pub says : e ≡ why_none (first_error_in replies)

module _ {L : Type 0} (of_link : L → Connection) where
  -- the nodes that a command is sent to, by a fresh map
  pub record FansTo (c : Command) (makes : Option ResponsePolicy) (old ready : Cluster L) (nodes : List NodeAddr) : Type 0 where
    pub to : RequestPolicy
    pub fans_out : FansOut c to makes
    pub readies : Readies of_link old ready
    pub named : AreNamed to ready.map nodes

  -- each of these nodes is sent the command once, and replies
  abbrev pub SentToEach : Command → List NodeAddr → Cluster L → List Value → Cluster L → Type 0
  SentToEach c nodes ready replies new =
      Gathered (SendsGroup of_link) (replicate (length nodes) c) (range_with_len 0 (length nodes)) nodes ready replies new

  -- a command is sent once to each node that its policy names, and their replies are combined
  pub record FanOutCall (c : Command) (old : Cluster L) (answer : Value) (new : Cluster L) : Type 0 where
    pub makes : Option ResponsePolicy
    pub ready : Cluster L
    pub nodes : List NodeAddr
    pub replies : List Value
    pub some : nodes ≢ []
    pub goes : FansTo c makes old ready nodes
    pub sent : SentToEach c nodes ready replies new
    pub combined : Combines makes nodes replies answer

  -- a command to several nodes is refused with this error
  pub data FanOutRefused (c : Command) (old new : Cluster L) (e : RedisError) : Type 0 where
    -- it is not sent to several nodes, and nothing changes
    unsent : (e ≢ OutOfMemory → CannotFanOut c e) → new ≡ old → FanOutRefused c old new e
    -- memory ran out before any node was sent it
    no_memory : e ≡ OutOfMemory → Readies of_link old new → FanOutRefused c old new e
    -- the map has no such node, and none is sent it
    nowhere : (makes : Option ResponsePolicy) → FansTo c makes old new [] → e ≡ no_node → FanOutRefused c old new e
    -- a node is not reached, or the call over its link fails, or memory runs out, after those before it were sent the
    -- command
    at_node : (makes : Option ResponsePolicy) (ready : Cluster L) (nodes : List NodeAddr) → FansTo c makes old ready nodes
        → RefusedGroup (SendsGroup of_link) (replicate (length nodes) c) (range_with_len 0 (length nodes)) nodes ready new e
        → FanOutRefused c old new e
    -- each node replied, and the replies make no answer
    uncombined : (makes : Option ResponsePolicy) (ready : Cluster L) (nodes : List NodeAddr) (replies : List Value)
        → FansTo c makes old ready nodes → SentToEach c nodes ready replies new
        → (e ≢ OutOfMemory → CannotCombine makes nodes replies e) → FanOutRefused c old new e
