-- The steps by which replies are gathered.
use Rattle.std.specs.Prelude.{◌≡◌, ℕ, ◌<◌, List, Some, reverse, length, slice_get, Vec}
use Rattle.resp_command.specs.Command.{Command}
use Rattle.resp_value.specs.declared.value.Value.{Value}
use Rattle.resp_cluster.specs.Gathered.{given_by, of_node, request_of}
use Rattle.resp_cluster.specs.declared.gather.Group.{Group}

-- the bytes that send these commands, and how many they are
abbrev pub IsGroupOf : List Command → Group → Type 0
IsGroupOf commands group = (group.request.items ≡ request_of commands) × (group.count ≡ length commands)

-- of each node the commands that go to it
abbrev pub AreGroups : List ℕ → List Command → List Group → Type 0
AreGroups targets commands groups = (node : ℕ) (group : Group) → slice_get groups node ≡ Some group
    → IsGroupOf (of_node node targets commands) group

-- replies of which the last one stands first
abbrev pub from_last : {Z : Type 0} → Vec Value Z → List Value
from_last replies = reverse replies.items

-- each node gave as many replies as it was sent commands
abbrev pub Enough : List (List Value) → List ℕ → Type 0
Enough groups targets = (node : ℕ) → node < length groups → length (given_by groups node) ≡ length (of_node node targets targets)
