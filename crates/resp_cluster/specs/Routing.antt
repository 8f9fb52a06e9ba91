-- A cluster's links as one connection.
use Rattle.std.specs.Prelude.{◌≡◌, ℕ, List, Option, None, Some, Ok, true, false}
use Rattle.std.specs.Global.{Vec}
use Rattle.resp_value.specs.declared.value.Value.{Value}
use Rattle.resp_command.specs.Connection.{Connection, Exchange, idle, routes}
use Rattle.resp_command.specs.Parted.{Parted}
use Rattle.resp_cluster.specs.Cluster.{Cluster, last_link}
use Rattle.resp_cluster.specs.Spread.{SendsGroup}
use Rattle.resp_cluster.specs.declared.node.NodeAddr.{NodeAddr}

-- a link as a connection that routes, and takes several commands at a time
abbrev pub routing : Connection → Connection
routing c = record c { pipelines = true; policy = routes }

-- the link that was used last, or one that is broken where none was opened
abbrev pub routing_over : {L : Type 0} → (L → Connection) → Option L → Connection
routing_over of_link None = routing (idle true)
routing_over of_link (Some link) = routing (of_link link)

abbrev pub cluster_connection : {L : Type 0} → (L → Connection) → Cluster L → Connection
cluster_connection of_link cluster = routing_over of_link (last_link cluster.links)

module _ {L : Type 0} (of_link : L → Connection) where
  -- one node was sent this request of so many commands, and gave these replies; nothing else was sent after it
  pub record WasSentWhole (q : List ℕ) (n : ℕ) (replies : Vec Value) (new : Cluster L) : Type 0 where
    pub ready : Cluster L
    pub sent : Cluster L
    pub node : NodeAddr
    pub sends : SendsGroup of_link ready sent node q n (Ok replies)
    pub links : new.links ≡ sent.links

  -- the replies to a request of so many commands: one link that works gave them all, or they are those to its parts
  pub data RepliedTo (q : List ℕ) (n : ℕ) (replies : List Value) (new : Cluster L) : Type 0 where
    by_one : (link : Connection) → link.broken ≡ false
        → Exchange link (cluster_connection of_link new) q n (Ok replies) (λ given. given ≡ replies)
        → RepliedTo q n replies new
    in_parts : Parted q n (λ given. given ≡ replies) → RepliedTo q n replies new
