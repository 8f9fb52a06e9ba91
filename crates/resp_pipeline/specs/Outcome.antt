-- What a pipeline answers, by the replies to it.
use Rattle.std.specs.Prelude.{◌≡◌, ◌≢◌, ℕ, ◌+◌, ◌<◌, ◌⊎◌, Bool, true, false, List, [], ◌∷◌, ◌++◌, Option, Some, None, Result, Err, codes, length}
use Rattle.resp_value.specs.declared.value.Value.{Value, Nil, Array, out-Value}
use Rattle.resp_value.specs.declared.value.Value.TheOpen.{Value-F}
use Rattle.resp_errors.specs.declared.server_error.ServerError.{ServerError}
use Rattle.resp_errors.specs.declared.kinds.ErrorKind.TheVariants.{UnexpectedReturnType}
use Rattle.resp_errors.specs.declared.redis_error.RedisError.{RedisError}
use Rattle.resp_errors.specs.declared.redis_error.RedisError.TheVariants.{General, Server, Pipeline, Aborted}
use Rattle.resp_errors.specs.declared.redis_error.RedisError.TheVariants.{OutOfMemory}
use Rattle.resp_from.specs.Conversion.{ConvertsCall}
use Rattle.resp_command.specs.Call.{Answers}
use Rattle.resp_pipeline.specs.Pipeline.{Plan}

-- the items whose position isn't ignored, in order; a position past the marks isn't
abbrev pub kept : List Bool → List Value → List Value
kept marks [] = []
kept [] (item ∷ items) = item ∷ items
kept (true ∷ marks) (item ∷ items) = kept marks items
kept (false ∷ marks) (item ∷ items) = item ∷ kept marks items

-- the server error that an item is, if it is one
abbrev pub error_in : Value → Option ServerError
error_in item = elim (out-Value item) [
  | Value-F.ServerError error ↦ Some error
  | _ ↦ None
]

-- the items that are server errors, each with its position, where the first item stands at n
abbrev pub errors_from : ℕ → List Value → List (ℕ × ServerError)
errors_from n [] = []
errors_from n (item ∷ items) = elim (error_in item) [
  | Some error ↦ (n, error) ∷ errors_from (n + 1) items
  | None ↦ errors_from (n + 1) items
]

-- the items that are server errors, each with its position; ignored ones are among them
abbrev pub errors_of : List Value → List (ℕ × ServerError)
errors_of items = errors_from 0 items

-- the kept items as one reply
abbrev pub kept_reply : Plan → List Value → Value
kept_reply p items = Array (kept p.ignored items)

-- what a pipeline makes of items
pub record Composes {X : Type 0} (p : Plan) (of_value : Value → X → Type 0)
    (result : Result X RedisError) (items : List Value) : Type 0 where
  -- where errors are ignored, the kept items are converted
  pub ignoring : p.ignores_errors ≡ true → ConvertsCall (of_value (kept_reply p items)) result
  -- else, where items are server errors, these are listed; the list takes memory
  pub listing : p.ignores_errors ≡ false → errors_of items ≢ [] →
      (result ≡ Err (Pipeline (errors_of items))) ⊎ (result ≡ Err OutOfMemory)
  -- else the kept items answer as one reply to a command does
  pub answering : p.ignores_errors ≡ false → errors_of items ≡ [] →
      Answers of_value result (kept_reply p items)

-- what is answered where the reply to EXEC is neither nil nor an array nor a server error
abbrev pub unexpected_exec_reply : RedisError
unexpected_exec_reply =
    General UnexpectedReturnType (codes "Invalid response when parsing multi response") None

-- what a server error in the place of the reply to EXEC makes, after the replies to the commands
pub record Aborts {X : Type 0} (result : Result X RedisError) (queued : List Value)
    (error : ServerError) : Type 0 where
  -- where commands were refused, ignored ones too, their errors are listed; the list takes memory
  pub caused : errors_of queued ≢ [] →
      (result ≡ Err (Aborted (errors_of queued))) ⊎ (result ≡ Err OutOfMemory)
  -- else the error itself is answered
  pub uncaused : errors_of queued ≡ [] → result ≡ Err (Server error)

-- what a transaction makes of the reply to EXEC, after the replies to the commands
abbrev pub Concludes : {X : Type 0} → Plan → (Value → X → Type 0) → Result X RedisError
    → List Value → Value → Type 0
Concludes p of_value result queued last = elim (out-Value last) [
  | Value-F.Nil ↦ ConvertsCall (of_value Nil) result
  | Value-F.Array items ↦ Composes p of_value result items
  | Value-F.ServerError error ↦ Aborts result queued error
  | _ ↦ result ≡ Err unexpected_exec_reply
]

-- what a pipeline makes of all replies to it; in a transaction the first is that to MULTI and the
-- last that to EXEC, which decides
pub record Outcome {X : Type 0} (p : Plan) (of_value : Value → X → Type 0)
    (result : Result X RedisError) (replies : List Value) : Type 0 where
  pub plain : p.atomic ≡ false → Composes p of_value result replies
  pub atomic : p.atomic ≡ true → (multi last : Value) (queued : List Value) →
      replies ≡ multi ∷ (queued ++ last ∷ []) → Concludes p of_value result queued last
  pub short : p.atomic ≡ true → length replies < 2 → result ≡ Err unexpected_exec_reply
