-- What the replies to the parts of a command make together.
use Rattle.std.specs.Prelude.{◌≡◌, ℕ, ℤ, pos, ◌+ℤ◌, ◌<◌, ◌&&◌, Bool, true, false, List, ◌∷◌, fold, map, length, take, All}
use Rattle.std.specs.Prelude.{FitsSigned, codes, Option, None, Some}
use Rattle.std.specs.Int.{int_min, w64}
use Rattle.std.specs.List.{zip}
use Rattle.resp_value.specs.FirstError.{first_error, first_some}
use Rattle.resp_value.specs.declared.value.Value.{Value, Array, Int, Okay}
use Rattle.resp_errors.specs.declared.kinds.ErrorKind.TheVariants as kind
use Rattle.resp_errors.specs.declared.redis_error.RedisError.{RedisError}
use Rattle.resp_errors.specs.declared.redis_error.RedisError.TheVariants.{General, Server}
use Rattle.resp_errors.specs.declared.server_error.ServerError.{ServerError}
use Rattle.resp_cluster.specs.Gathered.{InPlaces}
use Rattle.resp_cluster.specs.declared.split.Merge.{Merge}
use Rattle.resp_cluster.specs.declared.split.Merge.TheVariants.{Values, Sum, AllSucceeded}

-- the sum of numbers
abbrev pub sum_of : List ℤ → ℤ
sum_of numbers = fold (λ total n. total +ℤ n) (pos 0) numbers

-- the values of arrays, each in the place of its key
pub record MergesValues (places : List ℕ) (replies : List Value) (answer : Value) : Type 0 where
  pub groups : List (List Value)
  pub values : List Value
  pub arrays : replies ≡ map Array groups
  pub known : All (λ place. place < length groups) places
  pub whole : length values ≡ length places
  pub placed : InPlaces groups places values
  pub answered : answer ≡ Array values

-- the sum of numbers, where no sum of the first ones is too large
pub record MergesSum (replies : List Value) (answer : Value) : Type 0 where
  pub numbers : List ℤ
  pub all : replies ≡ map Int numbers
  pub fits : (n : ℕ) → FitsSigned w64 (sum_of (take n numbers))
  pub answered : answer ≡ Int (sum_of numbers)

-- the least of numbers, where there are any
pub record MergesLeast (replies : List Value) (answer : Value) : Type 0 where
  pub first : ℤ
  pub others : List ℤ
  pub all : replies ≡ map Int (first ∷ others)
  pub answered : answer ≡ Int (fold int_min first others)

-- truths as a server replies them: an array of 1 and 0
abbrev pub bit : Bool → Value
bit true = Int (pos 1)
bit false = Int (pos 0)

abbrev pub bits : List Bool → Value
bits truths = Array (map bit truths)

-- in each place, whether both are true there
abbrev pub both : List Bool → List Bool → List Bool
both one other = map (λ pair. pair.0 && pair.1) (zip one other)

-- in each place, whether all are true there, where there are any and all are equally long
pub record MergesAnd (replies : List Value) (answer : Value) : Type 0 where
  pub first : List Bool
  pub others : List (List Bool)
  pub all : replies ≡ map bits (first ∷ others)
  pub even : All (λ truths. length truths ≡ length first) others
  pub answered : answer ≡ bits (fold both first others)

-- OK, where all are
pub record MergesOkay (replies : List Value) (answer : Value) : Type 0 where
  pub all : All (λ reply. reply ≡ Okay) replies
  pub answered : answer ≡ Okay

abbrev pub Merges : Merge → List ℕ → List Value → Value → Type 0
Merges Values places replies answer = MergesValues places replies answer
Merges Sum places replies answer = MergesSum replies answer
Merges AllSucceeded places replies answer = MergesOkay replies answer

-- ---- why replies make no answer together

-- the first server's error in replies
abbrev pub first_error_in : List Value → Option ServerError
first_error_in replies = first_some (map first_error replies)

abbrev pub other_replies : RedisError
other_replies = General kind.UnexpectedReturnType (codes "the parts of a command have other replies") None

-- nothing is such an answer, and the error says so
pub record MakesNone (Makes : Value → Type 0) (e : RedisError) : Type 0 where
  pub none : (answer : Value) → Makes answer → ⊥
  pub says : e ≡ other_replies

-- why replies make no answer: the first server's error in them, if there is one
abbrev pub why_none : Option ServerError → RedisError
why_none (Some error) = Server error
why_none None = other_replies

-- the first server's error in replies is this
pub record IsFirstError (replies : List Value) (e : RedisError) : Type 0 where
  pub error : ServerError
  pub first : first_error_in replies ≡ Some error
  pub says : e ≡ Server error

-- replies are answered with an error: the first server's error in them, or else that they make no such answer
pub data MakesError (Makes : Value → Type 0) (replies : List Value) (e : RedisError) : Type 0 where
  of_server : IsFirstError replies e → MakesError Makes replies e
  of_others : first_error_in replies ≡ None → MakesNone Makes e → MakesError Makes replies e
