-- The times at which keys expire, in milliseconds since 1970.
use Rattle.std.specs.Prelude.{◌≡◌, Bool, true, false, ℤ, pos, ◌+ℤ◌, ◌*ℤ◌, int_lt, int_le, FitsSigned, Option, None, Some}
use Rattle.std.specs.Prelude.{is_some, is_none}
use Rattle.std.specs.Int.{w64}
use Rattle.example_server.specs.declared.command.Reach.{Reach}
use Rattle.example_server.specs.declared.command.Reach.TheVariants as reach

-- what the clock shows, which stands still
abbrev pub now : ℤ
now = pos 1700000000000

-- this time is made, if it is of 64 bits
abbrev pub Makes : ℤ → Option ℤ → Type 0
Makes wanted None = ¬ FitsSigned w64 wanted
Makes wanted (Some time) = (time ≡ wanted) × FitsSigned w64 wanted

-- so many seconds are milliseconds, and make a time from the clock's on
abbrev pub MakesFromNow : ℤ → Option ℤ → Type 0
MakesFromNow seconds None =
    FitsSigned w64 (seconds *ℤ pos 1000) → ¬ FitsSigned w64 (seconds *ℤ pos 1000 +ℤ now)
MakesFromNow seconds (Some time) = time ≡ seconds *ℤ pos 1000 +ℤ now

-- the time has come
abbrev pub is_past : ℤ → Bool
is_past time = int_le time now

abbrev pub has_passed : Option ℤ → Bool
has_passed None = false
has_passed (Some time) = is_past time

-- whether EXPIRE gives this time to a key that has that one, or none
abbrev pub reaches : Reach → Option ℤ → ℤ → Bool
reaches reach.EveryKey before time = true
reaches reach.WithoutTime before time = is_none before
reaches reach.WithTime before time = is_some before
reaches reach.WithEarlierTime None time = false
reaches reach.WithEarlierTime (Some before) time = int_lt before time
reaches reach.WithLaterTime None time = false
reaches reach.WithLaterTime (Some before) time = int_lt time before
reaches reach.WithLaterOrNoTime None time = true
reaches reach.WithLaterOrNoTime (Some before) time = int_lt time before
