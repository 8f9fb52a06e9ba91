-- What trying again does.
use Rattle.std.specs.Prelude.{◌≡◌, ℕ, ◌<◌, ◌≤◌, ◌⊎◌, Bool, true, false, List, length, Result, Ok, Err}
use Rattle.std.specs.List.{FoldsTo}

-- `attempts` says what an attempt over a connection leaves and answers; `decides` what is said of
-- an error, true where it is to be tried again, by what becomes something else as it says so
module _ {C T E G : Type 0} (attempts : C → C → Result T E → Type 0)
    (decides : G → E → Bool → G → Type 0) where
  -- an attempt is refused with the error, which is to be tried again
  pub record TriedAgain (old : G × C) (e : E) (new : G × C) : Type 0 where
    pub refused : attempts old.1 new.1 (Err e)
    pub again : decides old.0 e true new.0

  -- with this result it ends, after so many errors to be tried again: nothing is asked of a value,
  -- nor of an error where the budget is used up; of any other error it is asked once, and the error
  -- isn't to be tried again
  abbrev pub Stops : ℕ → ℕ → G → G → Result T E → Type 0
  Stops budget count old new (Ok x) = new ≡ old
  Stops budget count old new (Err e) =
      ((count ≡ budget) × (new ≡ old)) ⊎ ((count < budget) × decides old e false new)

  -- attempts were refused with these errors, each of which was to be tried again, and one more
  -- answered the result: a value, an error that isn't to be tried again, or the budget is used up
  pub record Retried (budget : ℕ) (again left : G) (old new : C) (result : Result T E)
      : Type 0 where
    pub errors : List E
    pub between : G × C
    pub tried : FoldsTo TriedAgain (again, old) errors between
    pub within : length errors ≤ budget
    pub last : attempts between.1 new result
    pub stops : Stops budget (length errors) between.0 left result
