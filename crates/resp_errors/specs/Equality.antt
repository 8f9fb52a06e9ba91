-- Which errors are equal.
use Rattle.std.specs.Prelude.{[], None}
use Rattle.resp_errors.specs.declared.redis_error.RedisError.{RedisError}
use Rattle.resp_errors.specs.declared.redis_error.RedisError.TheVariants as form

-- an error without what a refusal of the library's own says: its kind is left
abbrev pub without_words : RedisError → RedisError
without_words (form.General kind text detail) = form.General kind [] None
without_words (form.Io kind) = form.Io kind
without_words (form.Parse error) = form.Parse error
without_words (form.Server error) = form.Server error
without_words (form.Pipeline errors) = form.Pipeline errors
without_words (form.Aborted errors) = form.Aborted errors
without_words form.OutOfMemory = form.OutOfMemory
