-- The error of a fault of a reader or a writer: one of two forms.
use Rattle.resp_errors.specs.declared.kinds.IoKind.{IoKind}
use Rattle.resp_errors.specs.declared.kinds.IoKind.TheVariants as io
use Rattle.resp_errors.specs.declared.redis_error.RedisError.{RedisError}
use Rattle.resp_errors.specs.declared.redis_error.RedisError.TheVariants as form
use Rattle.resp_errors.specs.Errors.{error_of_io}

pub of_both_forms : (P : RedisError → Type 0) → P form.OutOfMemory → ((k : IoKind) → P (form.Io k)) → (k : IoKind)
    → P (error_of_io k)
of_both_forms P none other io.OutOfMemory = none
of_both_forms P none other io.NotFound = other io.NotFound
of_both_forms P none other io.PermissionDenied = other io.PermissionDenied
of_both_forms P none other io.ConnectionRefused = other io.ConnectionRefused
of_both_forms P none other io.ConnectionReset = other io.ConnectionReset
of_both_forms P none other io.ConnectionAborted = other io.ConnectionAborted
of_both_forms P none other io.NotConnected = other io.NotConnected
of_both_forms P none other io.BrokenPipe = other io.BrokenPipe
of_both_forms P none other io.WouldBlock = other io.WouldBlock
of_both_forms P none other io.TimedOut = other io.TimedOut
of_both_forms P none other io.Interrupted = other io.Interrupted
of_both_forms P none other io.Unsupported = other io.Unsupported
of_both_forms P none other io.UnexpectedEof = other io.UnexpectedEof
of_both_forms P none other io.WriteZero = other io.WriteZero
of_both_forms P none other io.Other = other io.Other
