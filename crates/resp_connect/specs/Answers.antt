-- Answers that want of memory alone may replace.
use Rattle.std.specs.Prelude.{◌≡◌, ◌⊎◌, Result, Ok, Err, MatchResult}
use Rattle.resp_errors.specs.declared.redis_error.RedisError.{RedisError}
use Rattle.resp_errors.specs.declared.redis_error.RedisError.TheVariants as form
use Rattle.resp_connect.specs.declared.address.refusal.Refusal.{Refusal}
use Rattle.resp_connect.specs.declared.address.refusal.Refusal.TheVariants as refused
use Rattle.resp_connect.specs.Refusals.{error_of}

-- the result is this answer, or the error for want of memory
abbrev pub GivesUnless : {T E : Type 0} → E → Result T E → Result T E → Type 0
GivesUnless memory answer result =
    MatchResult result (λ x. answer ≡ Ok x) (λ e. (answer ≡ Err e) ⊎ (e ≡ memory))

-- what is read of a URL, or why it is refused
abbrev pub Read : Type 0 → Type 0
Read T = Result T Refusal

-- the next step, unless this one was refused
abbrev pub and_then : {T U : Type 0} → Read T → (T → Read U) → Read U
and_then (Ok x) next = next x
and_then (Err refusal) next = Err refusal

abbrev pub Reads : {T : Type 0} → Read T → Result T Refusal → Type 0
Reads answer result = GivesUnless refused.OutOfMemory answer result

-- a refusal as the error of a call
abbrev pub answer_of : {T : Type 0} → Read T → Result T RedisError
answer_of (Ok x) = Ok x
answer_of (Err refusal) = Err (error_of refusal)

abbrev pub Gives : {T : Type 0} → Result T RedisError → Result T RedisError → Type 0
Gives answer result = GivesUnless form.OutOfMemory answer result
