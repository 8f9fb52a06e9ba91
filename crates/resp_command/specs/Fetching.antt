-- What the requests give that a scan makes in one call.
use Rattle.std.specs.Prelude.{◌≡◌, ◌≢◌, ℕ, ◌⊎◌, List, [], ◌∷◌, Result, Err}
use Rattle.resp_errors.specs.declared.redis_error.RedisError.{RedisError}
use Rattle.resp_value.specs.declared.value.Value.{Value}
use Rattle.resp_command.specs.Command.{Command}
use Rattle.resp_command.specs.Connection.{Connection}
use Rattle.resp_command.specs.ScanReplies.{Given, as_answers, answers_in}
use Rattle.resp_command.specs.Scans.{Asked}
use Rattle.resp_command.specs.declared.fetching.FetchedPage.{FetchedPage}
use Rattle.resp_command.specs.declared.fetching.FetchedPage.TheVariants.{Results, Failed, Nothing}
use Rattle.resp_command.specs.declared.fetching.Fetched.{Fetched}

-- what was fetched is these answers
abbrev pub IsFetchedPage : {X : Type 0} → FetchedPage X → List (Result X RedisError) → Type 0
IsFetchedPage (Results v) answers = (answers ≡ as_answers v.items) × (v.items ≢ [])
IsFetchedPage (Failed e) answers = answers ≡ Err e ∷ []
IsFetchedPage Nothing answers = answers ≡ []

pub record Fetches {X : Type 0} (n : ℕ) (Of : Value → X → Type 0) (old new : Connection)
    (c : Command) (from k : ℕ) (fetched : Fetched X) : Type 0 where
  pub givens : List (Given X)
  pub asked : Asked n Of old new c from k fetched.cursor fetched.left givens
  pub page : IsFetchedPage fetched.page (answers_in givens)
  pub nothing : fetched.page ≡ Nothing → (fetched.cursor ≡ 0) ⊎ (fetched.left ≡ 0)
