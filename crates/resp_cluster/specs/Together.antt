-- Commands that go to one node together, as those of a transaction do.
use Rattle.std.specs.Prelude.{◌≡◌, ◌≢◌, ◌⊎◌, ℕ, List, All, Contains, Option, None}
use Rattle.resp_errors.specs.declared.redis_error.RedisError.{RedisError}
use Rattle.resp_command.specs.Command.{Command}
use Rattle.resp_routing.specs.Refusals.{redis_error_of}
use Rattle.resp_routing.specs.declared.commands.RequestPolicy.{RequestPolicy}
use Rattle.resp_routing.specs.declared.errors.RoutingError.TheVariants.{CrossSlot}
use Rattle.resp_routing.specs.declared.routes.Route.{Route}
use Rattle.resp_routing.specs.declared.routes.Route.TheVariants.{Slot, Keyless}
use Rattle.resp_cluster.specs.Cluster.{CannotGo, Goes}

-- each goes by this route or has no key, and one goes by it if it is that of a slot
pub record GoTogether (commands : List Command) (route : Route) : Type 0 where
  pub each : All (λ c. Goes c route ⊎ Goes c (Keyless None)) commands
  pub one : (route ≡ Keyless None) ⊎ ((c : Command) × (Contains commands c × Goes c route))

-- why commands do not go together: one of them goes nowhere, or two go to different slots
pub data CannotGoTogether (commands : List Command) (e : RedisError) : Type 0 where
  cannot : (c : Command) → Contains commands c → CannotGo c e → CannotGoTogether commands e
  apart : (one other : Command) (slot elsewhere : ℕ) → Contains commands one → Contains commands other
      → Goes one (Slot slot) → Goes other (Slot elsewhere) → slot ≢ elsewhere → e ≡ redis_error_of CrossSlot
      → CannotGoTogether commands e

abbrev pub IsKeyless : Route → Type 0
IsKeyless route = (policy : Option RequestPolicy) × (route ≡ Keyless policy)

-- commands that go by either of two routes go together by this one
pub data Joins (one other both : Route) : Type 0 where
  first : (other ≡ one) ⊎ IsKeyless other → both ≡ one → Joins one other both
  second : IsKeyless one → both ≡ other → Joins one other both

-- they are those of different slots
pub record AreApart (one other : Route) : Type 0 where
  pub slot : ℕ
  pub elsewhere : ℕ
  pub one_is : one ≡ Slot slot
  pub other_is : other ≡ Slot elsewhere
  pub differ : slot ≢ elsewhere
