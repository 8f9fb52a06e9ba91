-- Several commands over the nodes of a cluster.
use Rattle.std.specs.Prelude.{◌≡◌, ◌≢◌, ℕ, ◌<◌, ◌∷◌, ◌++◌, ◌⊎◌, ◌%◌, Bool, true, false, List, [], All, AllPairs, Contains, length, slice_get, slice_index_or}
use Rattle.std.specs.Prelude.{Some, None, Result, Ok, Err, is_err, ◌||◌}
use Rattle.std.specs.Global.{Vec}
use Rattle.std.specs.List.{flat_map}
use Rattle.resp_args.specs.Args.{Args}
use Rattle.resp_value.specs.declared.value.Value.{Value}
use Rattle.resp_errors.specs.declared.redis_error.RedisError.{RedisError}
use Rattle.resp_errors.specs.declared.redis_error.RedisError.TheVariants.{OutOfMemory}
use Rattle.resp_command.specs.Call.{Call, AnswersFrom}
use Rattle.resp_command.specs.Command.{Command}
use Rattle.resp_command.specs.Connection.{Connection}
use Rattle.resp_pipeline.specs.Outcome.{Composes}
use Rattle.resp_pipeline.specs.Pipeline.{Plan}
use Rattle.resp_routing.specs.Commands.{command_of}
use Rattle.resp_routing.specs.Refusals.{redis_error_of}
use Rattle.resp_routing.specs.declared.commands.CommandInfo.{CommandInfo}
use Rattle.resp_routing.specs.declared.errors.RoutingError.{RoutingError}
use Rattle.resp_routing.specs.declared.errors.RoutingError.TheVariants.{UnknownCommand, CrossSlot, WrongArity}
use Rattle.resp_routing.specs.declared.routes.Route.{Route}
use Rattle.resp_cluster.specs.Cluster.{CannotGo, Cluster, Goes, Readies, answer_of, first_node, has_failed, no_node, only_reads, routed_args}
use Rattle.resp_cluster.specs.Gathered.{FollowedEach, Gathered, RefusedGroup, StopsAt}
use Rattle.resp_cluster.specs.Links.{Links, Reaches, SendsTo, SentRedirects, UsesLast}
use Rattle.resp_cluster.specs.Merges.{MakesError, Merges, first_error_in}
use Rattle.resp_cluster.specs.Routed.{StoppedShort, WentOn}
use Rattle.resp_cluster.specs.Splits.{IsSplit, merge_of, width_of}
use Rattle.resp_cluster.specs.declared.links.Sent.{Sent}
use Rattle.resp_cluster.specs.declared.links.Sent.TheVariants.{Answered}
use Rattle.resp_cluster.specs.declared.node.NodeAddr.{NodeAddr}
use Rattle.resp_cluster.specs.declared.node.SlotRange.{SlotRange}
use Rattle.resp_cluster.specs.declared.split.Merge.{Merge}

-- the node that a command is sent to first
pub record IsDestination {L : Type 0} (cluster : Cluster L) (c : Command) (node : NodeAddr) : Type 0 where
  pub route : Route
  pub goes : Goes c route
  pub first : first_node (only_reads c) route cluster ≡ Some node

-- why a command has no node that it is sent to first
pub data HasNoDestination {L : Type 0} (cluster : Cluster L) (c : Command) (e : RedisError) : Type 0 where
  cannot : CannotGo c e → HasNoDestination cluster c e
  nowhere : (route : Route) → Goes c route → first_node (only_reads c) route cluster ≡ None → e ≡ no_node → HasNoDestination cluster c e

-- one of several commands has none
pub record OneHasNone {L : Type 0} (cluster : Cluster L) (commands : List Command) (e : RedisError) : Type 0 where
  pub command : Command
  pub among : Contains commands command
  pub none : HasNoDestination cluster command e

-- the nodes that commands are sent to first, each once, and for each command the place of its node
pub record AreDestinations {L : Type 0} (cluster : Cluster L) (commands : List Command) (nodes : List NodeAddr)
    (targets : List ℕ) : Type 0 where
  pub whole : length targets ≡ length commands
  pub known : All (λ target. target < length nodes) targets
  pub each : (i : ℕ) (c : Command) (node : NodeAddr) → slice_get commands i ≡ Some c
      → slice_get nodes (slice_index_or targets i 0) ≡ Some node → IsDestination cluster c node
  pub apart : AllPairs (λ one other. one ≢ other) nodes

-- the place of a node among others, to which it was added at the end where it wasn't there
pub record IsPlaceAmong (old : List NodeAddr) (node : NodeAddr) (new : List NodeAddr) (place : ℕ) : Type 0 where
  pub inside : place < length new
  pub there : slice_get new place ≡ Some node
  pub grown : (new ≡ old) ⊎ ((new ≡ old ++ node ∷ []) × All (λ other. other ≢ node) old)

-- the parts of a command, given its arguments, and how their replies are put together
pub record IsPartsOf (args : Args) (merge : Merge) (parts : List Command) (places : List ℕ) : Type 0 where
  pub name : List ℕ
  pub entries : List Args
  pub row : CommandInfo
  pub row_of : command_of args ≡ Some row
  pub merges : merge_of row ≡ Some merge
  pub args_are : args ≡ name ∷ flat_map (λ entry. entry) entries
  pub wide : All (λ entry. length entry ≡ width_of row.keys) entries
  pub is_split : IsSplit name entries parts places

-- why a command has no parts: the table lacks it, its row says of no way to merge them, or an entry lacks arguments
pub data HasNoParts (args : Args) (why : RoutingError) : Type 0 where
  unknown : command_of args ≡ None → why ≡ UnknownCommand → HasNoParts args why
  no_merge : (row : CommandInfo) → command_of args ≡ Some row → merge_of row ≡ None → why ≡ CrossSlot → HasNoParts args why
  uneven : (name : List ℕ) (rest : Args) (row : CommandInfo) → args ≡ name ∷ rest → command_of args ≡ Some row
      → length rest % width_of row.keys ≢ 0 → why ≡ WrongArity → HasNoParts args why

-- this error says why
pub record CannotSplit (c : Command) (e : RedisError) : Type 0 where
  pub why : RoutingError
  pub no_parts : HasNoParts (routed_args c) why
  pub says : e ≡ redis_error_of why

-- these links and this map; the map is asked for before the next command where a call failed, now or before
abbrev pub with_links : {L : Type 0} → Cluster L → Links L → List SlotRange → Bool → Cluster L
with_links old links map failed =
    record { links = links; map = map; budget = old.budget; reads = old.reads; stale = old.stale || failed }

-- a command as one of several: its reply is waited for
abbrev pub awaited : Command → Command
awaited c = record c { no_response = false }

module _ {L : Type 0} (of_link : L → Connection) where
  -- a node is sent a request of so many commands: it is not reached, or its link makes the call
  pub data SendsGroup (old new : Cluster L) (node : NodeAddr) (request : List ℕ) (count : ℕ)
      (r : Result (Vec Value) RedisError) : Type 0 where
    unreached : (e : RedisError) (links : Links L) → Reaches of_link node old.links links (Err e)
        → new ≡ with_links old links old.map true → r ≡ Err e → SendsGroup old new node request count r
    called : (reached links : Links L) → Reaches of_link node old.links reached (Ok tt)
        → UsesLast of_link (λ before after. Call before after ⊥ ⊥ request count r (AnswersFrom (λ vs. vs.items) 0 r)) reached links
        → new ≡ with_links old links old.map (is_err r) → SendsGroup old new node request count r

  -- a command goes on from the reply of a node
  pub data FollowsReply (old new : Cluster L) (node : NodeAddr) (c : Command) (reply : Value)
      (r : Result Value RedisError) : Type 0 where
    went : (links : Links L) (map : List SlotRange) (sent : Sent)
        → WentOn (SendsTo of_link (awaited c)) SentRedirects node (Answered (Ok reply)) old.budget old.links old.map links map sent
        → new ≡ with_links old links map (has_failed sent) → r ≡ answer_of (Ok sent) → FollowsReply old new node c reply r
    stopped : (links : Links L) (map : List SlotRange) (sent : Sent)
        → StoppedShort (SendsTo of_link (awaited c)) SentRedirects node (Answered (Ok reply)) old.budget old.links old.map links map sent
        → new ≡ with_links old links map true → r ≡ answer_of (Ok sent) → FollowsReply old new node c reply r

  -- commands over a cluster: each node is sent those that go there as one request, and each reply stands in the place
  -- of its command; those that are redirected go on one by one, in order
  pub record SpreadCall (commands : List Command) (old : Cluster L) (answers : List Value) (new : Cluster L) : Type 0 where
    pub ready : Cluster L
    pub nodes : List NodeAddr
    pub targets : List ℕ
    pub gathered : Cluster L
    pub replies : List Value
    pub readies : Readies of_link old ready
    pub destinations : AreDestinations ready commands nodes targets
    pub sent : Gathered SendsGroup commands targets nodes ready replies gathered
    pub followed : FollowedEach FollowsReply nodes gathered targets commands replies answers new

  -- commands over a cluster are refused with this error
  pub data SpreadRefused (commands : List Command) (old new : Cluster L) (e : RedisError) : Type 0 where
    -- one has no node, and none is sent
    unsent : Readies of_link old new → (e ≢ OutOfMemory → OneHasNone new commands e) → SpreadRefused commands old new e
    -- a node is not reached, or the call over its link fails, or memory runs out, after those before it were sent theirs
    at_group : (ready : Cluster L) (nodes : List NodeAddr) (targets : List ℕ) → Readies of_link old ready
        → AreDestinations ready commands nodes targets → RefusedGroup SendsGroup commands targets nodes ready new e
        → SpreadRefused commands old new e
    -- one that is redirected is answered with it, or memory runs out, after those before it
    on_the_way : (ready gathered : Cluster L) (nodes : List NodeAddr) (targets : List ℕ) (replies : List Value)
        → Readies of_link old ready → AreDestinations ready commands nodes targets
        → Gathered SendsGroup commands targets nodes ready replies gathered
        → StopsAt FollowsReply nodes gathered targets commands replies e new → SpreadRefused commands old new e

  -- a pipeline over a cluster: its commands are sent over the nodes, and their replies make what they make together; or it
  -- is refused
  pub data SpreadQuery {X : Type 0} (p : Plan) (of_value : Value → X → Type 0) (old new : Cluster L)
      (result : Result X RedisError) : Type 0 where
    answered : (answers : List Value) → SpreadCall p.commands old answers new → Composes p of_value result answers
        → SpreadQuery p of_value old new result
    refused : (e : RedisError) → SpreadRefused p.commands old new e → result ≡ Err e → SpreadQuery p of_value old new result

  -- a command in parts over a cluster: what the replies to its parts make together
  pub record SplitCall (c : Command) (old : Cluster L) (answer : Value) (new : Cluster L) : Type 0 where
    pub merge : Merge
    pub parts : List Command
    pub places : List ℕ
    pub replies : List Value
    pub parted : IsPartsOf (routed_args c) merge parts places
    pub sent : SpreadCall parts old replies new
    pub no_error : first_error_in replies ≡ None
    pub merged : Merges merge places replies answer

  -- a command in parts is refused with this error
  pub data SplitRefused (c : Command) (old new : Cluster L) (e : RedisError) : Type 0 where
    -- it is not split, and nothing changes
    unsplit : (e ≢ OutOfMemory → CannotSplit c e) → new ≡ old → SplitRefused c old new e
    -- its parts are refused
    at_parts : (merge : Merge) (parts : List Command) (places : List ℕ) → IsPartsOf (routed_args c) merge parts places
        → SpreadRefused parts old new e → SplitRefused c old new e
    -- each part is replied to, and the replies make no answer
    unmerged : (merge : Merge) (parts : List Command) (places : List ℕ) (replies : List Value)
        → IsPartsOf (routed_args c) merge parts places → SpreadCall parts old replies new
        → (e ≢ OutOfMemory → MakesError (Merges merge places replies) replies e) → SplitRefused c old new e
