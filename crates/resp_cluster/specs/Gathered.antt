-- Several commands over the nodes of a cluster, each of which is sent those that go there as one request.
use Rattle.std.specs.Prelude.{◌≡◌, ◌≢◌, ◌⊎◌, ℕ, ◌+◌, ◌<◌, ◌==◌, List, [], ◌∷◌, map, length, slice_get, slice_index_or, Result, Ok, Err, Some}
use Rattle.std.specs.Prelude.{if◌then◌else◌}
use Rattle.std.specs.Global.{Vec}
use Rattle.std.specs.List.{flat_map}
use Rattle.resp_value.specs.declared.value.Value.{Value}
use Rattle.resp_errors.specs.declared.redis_error.RedisError.{RedisError}
use Rattle.resp_errors.specs.declared.redis_error.RedisError.TheVariants.{OutOfMemory}
use Rattle.resp_command.specs.Command.{Command}
use Rattle.resp_command.specs.Packed.{packed}
use Rattle.resp_cluster.specs.declared.node.NodeAddr.{NodeAddr}

-- of what stands in the places of commands, that of the commands that go to this node
abbrev pub of_node : {A : Type 0} → ℕ → List ℕ → List A → List A
of_node node [] xs = []
of_node node (target ∷ targets) [] = []
of_node node (target ∷ targets) (x ∷ xs) =
    if target == node then x ∷ of_node node targets xs else of_node node targets xs

-- the bytes that send commands
abbrev pub request_of : List Command → List ℕ
request_of commands = flat_map packed (map (λ c. c.args) commands)

-- the replies that a node gave, of those that each gave
abbrev pub given_by : List (List Value) → ℕ → List Value
given_by groups node = slice_index_or groups node []

-- the replies of each node stand, in order, in the places of its commands
abbrev pub InPlaces : List (List Value) → List ℕ → List Value → Type 0
InPlaces groups targets replies = (node : ℕ) → node < length groups → of_node node targets replies ≡ given_by groups node

module _ {S : Type 0} (sends : S → S → NodeAddr → List ℕ → ℕ → Result (Vec Value) RedisError → Type 0) where
  -- a node is sent commands as one request, and gives as many replies; where there are none, nothing is sent
  pub record SentGroup (group : List Command) (old : S) (node : NodeAddr) (replies : List Value) (new : S) : Type 0 where
    pub counted : length replies ≡ length group
    pub none : group ≡ [] → new ≡ old
    pub some : group ≢ [] → (given : Vec Value)
        × ((given.items ≡ replies) × sends old new node (request_of group) (length group) (Ok given))

  -- a node is sent commands as one request and refuses them, or memory runs out before
  abbrev pub NodeRefuses : List Command → S → NodeAddr → RedisError → S → Type 0
  NodeRefuses group old node e new =
      ((e ≡ OutOfMemory) × (new ≡ old)) ⊎ sends old new node (request_of group) (length group) (Err e)

  module _ (commands : List Command) (targets : List ℕ) where
    -- nodes in order, of which the first is at this place, are sent each its commands, and give these replies
    abbrev pub SentEach : ℕ → List NodeAddr → S → List (List Value) → S → Type 0
    SentEach place (node ∷ nodes) old (replies ∷ more) new =
        (between : S) × (SentGroup (of_node place targets commands) old node replies between
        × SentEach (place + 1) nodes between more new)
    SentEach place nodes old [] new = old ≡ new
    SentEach place [] old (replies ∷ more) new = ⊥

    -- each node is sent its commands, and each command has its reply
    pub record Gathered (nodes : List NodeAddr) (old : S) (replies : List Value) (new : S) : Type 0 where
      pub groups : List (List Value)
      pub each : length groups ≡ length nodes
      pub sent : SentEach 0 nodes old groups new
      pub placed : InPlaces groups targets replies
      pub whole : length replies ≡ length commands

    -- after the first nodes were sent theirs, the next one refuses its commands, or memory runs out
    pub data RefusedGroup (nodes : List NodeAddr) (old new : S) (e : RedisError) : Type 0 where
      by_node : (groups : List (List Value)) (before : S) (node : NodeAddr) → slice_get nodes (length groups) ≡ Some node
          → SentEach 0 nodes old groups before
          → sends before new node (request_of (of_node (length groups) targets commands))
          (length (of_node (length groups) targets commands)) (Err e) → RefusedGroup nodes old new e
      no_memory : (groups : List (List Value)) → SentEach 0 nodes old groups new → e ≡ OutOfMemory
          → RefusedGroup nodes old new e

module _ {S : Type 0} (follows : S → S → NodeAddr → Command → Value → Result Value RedisError → Type 0)
    (nodes : List NodeAddr) where
  -- each command goes on from its node's reply, one after the other, and these are the answers
  abbrev pub FollowedEach : S → List ℕ → List Command → List Value → List Value → S → Type 0
  FollowedEach old (target ∷ targets) (command ∷ commands) (reply ∷ replies) (answer ∷ answers) new =
      (node : NodeAddr) × ((slice_get nodes target ≡ Some node)
      × (between : S) × (follows old between node command reply (Ok answer)
      × FollowedEach between targets commands replies answers new))
  FollowedEach old [] [] [] [] new = old ≡ new
  FollowedEach old targets commands replies answers new = ⊥

  -- commands go on from their replies, one after the other, until one of them is answered with this error, or memory
  -- runs out
  abbrev pub StopsAt : S → List ℕ → List Command → List Value → RedisError → S → Type 0
  StopsAt old (target ∷ targets) (command ∷ commands) (reply ∷ replies) e new =
      ((e ≡ OutOfMemory) × (old ≡ new))
      ⊎ ((node : NodeAddr) × ((slice_get nodes target ≡ Some node)
      × (follows old new node command reply (Err e)
      ⊎ (between : S) × ((answer : Value) × (follows old between node command reply (Ok answer)
      × StopsAt between targets commands replies e new)))))
  StopsAt old targets commands replies e new = (e ≡ OutOfMemory) × (old ≡ new)
