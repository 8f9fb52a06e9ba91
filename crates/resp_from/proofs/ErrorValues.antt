-- Values that are no error of the server, as results.
use Rattle.std.proofs.Common.{◌≡◌, ap, ◌∙◌, Result, Ok, Err}
use Rattle.resp_errors.specs.declared.redis_error.RedisError.{RedisError}
use Rattle.resp_errors.specs.declared.redis_error.RedisError.TheVariants as form
use Rattle.resp_value.specs.declared.value.Value.{Value}
use Rattle.resp_flat.specs.declared.token.TokenKind.TheVariants as kind
use Rattle.resp_flat.specs.FlatValues.{kind_in, kind_of}
use Rattle.resp_from.specs.Results.{OfResult}
use Rattle.resp_from.proofs.TopLayer.{out-ServerError}

-- what is no error of the server is a result only as a value
pub as_value : {X : Type 0} (Of : Value → X → Type 0) (v : Value) → (kind_of v ≡ kind.ServerError → ⊥)
    → (x : Result X RedisError) → OfResult Of v x → (y : X) × Of v y
as_value Of v other (Ok y) h = (y, h.1)
as_value Of v other (Err (form.Server error)) h = absurd (other (ap kind_of h ∙ ap kind_in (out-ServerError error)))
as_value Of v other (Err _) h = absurd h
