-- Replies as results: a value, or an error of the server (RESP, "Simple errors", "Bulk errors").
use Rattle.std.specs.Prelude.{◌≡◌, Bool, true, false, Result, Ok, Err, IfSome}
use Rattle.resp_errors.specs.ServerErrors.{display_of}
use Rattle.resp_errors.specs.declared.parsing_error.ParsingError.{ParsingError}
use Rattle.resp_errors.specs.declared.parsing_error.ParsingError.TheVariants as parsing
use Rattle.resp_errors.specs.declared.redis_error.RedisError.{RedisError}
use Rattle.resp_errors.specs.declared.redis_error.RedisError.TheVariants as form
use Rattle.resp_value.specs.declared.value.Value.{Value, ServerError, out-Value}
use Rattle.resp_value.specs.declared.value.Value.TheOpen.{Value-F}

abbrev pub is_error : Value-F Value → Bool
is_error (Value-F.ServerError error) = true
is_error _ = false

-- the reply is an error of the server, or is the value
abbrev pub OfResult : {X : Type 0} → (Value → X → Type 0) → Value → Result X RedisError → Type 0
OfResult Of reply (Ok x) = (is_error (out-Value reply) ≡ false) × Of reply x
OfResult Of reply (Err (form.Server error)) = reply ≡ ServerError error
OfResult Of reply (Err _) = ⊥

-- the reply is no error of the server
abbrev pub OfUnit : Value → Type 0
OfUnit reply = is_error (out-Value reply) ≡ false

-- the refusal of an error of the server says what the error shows, where that is known
abbrev pub SaysError : Value-F Value → ParsingError → Type 0
SaysError (Value-F.ServerError error) (parsing.Described text) =
    IfSome (display_of error) (λ shown. text ≡ shown)
SaysError layer e = Unit {0}

-- what `()` may answer
abbrev pub ErrorOfUnit : Value → ParsingError → Type 0
ErrorOfUnit reply e = SaysError (out-Value reply) e
