-- What a map or a set keeps of the items that it is filled with.
use Rattle.std.specs.Prelude.{◌≡◌, Bool, List, Some, reverse}
use Rattle.std.specs.List.{All, IsDistinct, find, list_any}
use Rattle.std.specs.List.Sorted.{IsStrictlySortedBy}
use Rattle.std.specs.Ordering.{eq_by_cmp}
use Rattle.std.specs.declared.cmp.Ordering.{Ordering}
use Rattle.std.specs.Map.{keys_of, lookup, lookup_key}

-- how a container keeps its keys: which are equal, and what holds of the list of all of them
pub record Keying (K : Type 0) : Type 1 where
  pub same : K → K → Bool
  pub Keeps : List K → Type 0

-- in ascending order
abbrev pub sorted : {K : Type 0} → (K → K → Ordering) → Keying K
sorted cmp = record { same = eq_by_cmp cmp; Keeps = IsStrictlySortedBy cmp }

-- in any order, no two of them equal
abbrev pub hashed : {K : Type 0} → (K → K → Bool) → Keying K
hashed eq = record { same = eq; Keeps = IsDistinct eq }

-- one entry for each key: of pairs with equal keys, the key of the first and the value of the last
pub record IsMerged {K V : Type 0} (keying : Keying K) (pairs entries : List (K × V)) : Type 0 where
  pub kept : keying.Keeps (keys_of entries)
  pub first_keys : All (λ key. lookup_key (keying.same key) pairs ≡ Some key) (keys_of entries)
  pub last_values : (key : K) → lookup (keying.same key) entries
      ≡ lookup (keying.same key) (reverse pairs)

-- one member for each item: of equal ones the first
pub record IsDeduplicated {X : Type 0} (keying : Keying X) (items members : List X) : Type 0 where
  pub kept : keying.Keeps members
  pub firsts : All (λ member. find (keying.same member) items ≡ Some member) members
  pub whole : (item : X) → list_any (keying.same item) members
      ≡ list_any (keying.same item) items
