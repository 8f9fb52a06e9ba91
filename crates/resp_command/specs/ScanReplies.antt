-- What replies give a scan: the reply to SCAN, HSCAN, SSCAN or ZSCAN is the next cursor and a list
-- (RESP, "Arrays").
use Rattle.std.specs.Prelude.{◌≡◌, ◌≢◌, ℕ, false, List, [], ◌∷◌, map, Option, Some, None, Result, Ok, Err, MatchOption}
use Rattle.std.specs.Prelude.{MatchResult, ⊤}
use Rattle.std.specs.Bool.{MatchBool}
use Rattle.std.specs.List.{flat_map}
use Rattle.std.specs.Result.{result_map_both}
use Rattle.std.specs.declared.alloc.Global.{Global}
use Rattle.std.specs.declared.vec.Vec.{Vec}
use Rattle.resp_errors.specs.declared.parsing_error.ParsingError.{ParsingError}
use Rattle.resp_errors.specs.declared.redis_error.RedisError.{RedisError}
use Rattle.resp_errors.specs.declared.redis_error.RedisError.TheVariants.{OutOfMemory}
use Rattle.resp_errors.specs.Errors.{error_of_parsing}
use Rattle.resp_value.specs.declared.value.Value.{Value}
use Rattle.resp_value.specs.Views.{is_cursor}
use Rattle.resp_from.specs.Conversion.{ConvertsCall}
use Rattle.resp_from.specs.Integers.{OfInteger, UnsignedNumber, UnsignedText}
use Rattle.resp_from.specs.Lists.{OfVec}
use Rattle.resp_from.specs.Rules.{OfEach}
use Rattle.resp_from.specs.Tuples.{HasValues, First, NoMore}
use Rattle.resp_command.specs.declared.batch.Batch.{Batch}
use Rattle.resp_command.specs.declared.pages.Page.{Page}

-- the reply is a list of these replies
abbrev pub IsListOf : Value → List Value → Type 0
IsListOf reply items = OfVec 0 false (λ item v. v ≡ item) reply items

-- the reply is a cursor and a list
abbrev pub IsPage : Value → ℕ → List Value → Type 0
IsPage reply cursor items = HasValues 2 reply
    (First (OfInteger (UnsignedNumber 64) (UnsignedText 64)) cursor (First IsListOf items NoMore))

-- the first reply is a cursor and a list, or else a list alone, after which no other is asked for
abbrev pub IsFirstPage : Value → ℕ → List Value → Type 0
IsFirstPage reply cursor items =
    MatchBool (is_cursor reply) (IsPage reply cursor items) ((cursor ≡ 0) × IsListOf reply items)

-- the batch of a page: its cursor, and for its items the values, or in place of each its refusal
pub record IsBatch {X : Type 0} (Page : Value → ℕ → List Value → Type 0) (n : ℕ)
    (Of : Value → X → Type 0) (reply : Value) (batch : Batch X) : Type 0 where
  pub items : List Value
  pub page : Page reply batch.cursor items
  pub results : OfEach n Of items batch.results.items

-- what the first request gives that was answered with this: the batch of the reply, refused exactly
-- where it is no first page, or for want of memory; or the error
abbrev pub GivesFirst : {X : Type 0} → ℕ → (Value → X → Type 0) → Result Value RedisError
    → Result (Batch X) RedisError → Type 0
GivesFirst n Of answer given = MatchResult answer
    (λ reply. ConvertsCall (IsBatch IsFirstPage n Of reply) given)
    (λ e. given ≡ Err e)

-- what is read of a page: its cursor, and its results as in a batch; the cursor alone where memory
-- ran out for the results
pub record ReadsPage {X : Type 0} (n : ℕ) (Of : Value → X → Type 0) (reply : Value)
    (read : Page X) : Type 0 where
  pub items : List Value
  pub page : IsPage reply read.cursor items
  pub results : MatchOption read.results ⊤ (λ v. OfEach n Of items v.items)

-- what a later request gives a scan: a page, or why there is none
abbrev pub Given : Type 0 → Type 0
Given X = Result (Page X) RedisError

-- what a later request gives that was answered with this: the page that the reply is, refused
-- exactly where it is none, and never for want of memory; or the error
abbrev pub Gives : {X : Type 0} → ℕ → (Value → X → Type 0) → Result Value RedisError → Given X
    → Type 0
Gives n Of answer given = MatchResult answer
    (λ reply. ConvertsCall (ReadsPage n Of reply) given × (given ≢ Err OutOfMemory))
    (λ e. given ≡ Err e)

-- the results of a batch, as a scan answers them
abbrev pub as_answers : {X : Type 0} → List (Result X ParsingError) → List (Result X RedisError)
as_answers results = map (result_map_both (λ x. x) error_of_parsing) results

-- the answers of a page: its results, or one refusal in place of results that were lost
abbrev pub answers_to : {X : Type 0} → Option (Vec (Result X ParsingError) Global)
    → List (Result X RedisError)
answers_to (Some results) = as_answers results.items
answers_to None = Err OutOfMemory ∷ []

-- what a request answers: what its page does, or its one error
abbrev pub answers_of : {X : Type 0} → Given X → List (Result X RedisError)
answers_of (Ok page) = answers_to page.results
answers_of (Err e) = Err e ∷ []

-- what requests answer in all
abbrev pub answers_in : {X : Type 0} → List (Given X) → List (Result X RedisError)
answers_in givens = flat_map answers_of givens

-- the cursors that they gave, in order, also those of pages whose results were lost
abbrev pub cursors_in : {X : Type 0} → List (Given X) → List ℕ
cursors_in [] = []
cursors_in (Ok page ∷ givens) = page.cursor ∷ cursors_in givens
cursors_in (Err e ∷ givens) = cursors_in givens

abbrev pub last_or : ℕ → List ℕ → ℕ
last_or cursor [] = cursor
last_or cursor (next ∷ cursors) = last_or next cursors

-- the last cursor that they gave, else this one
abbrev pub latest : {X : Type 0} → ℕ → List (Given X) → ℕ
latest cursor givens = last_or cursor (cursors_in givens)
