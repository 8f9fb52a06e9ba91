-- What an error means for its connection, and how a call that met it may be tried again.
use Rattle.std.specs.Prelude.{Bool, true, false, cond}
use Rattle.resp_errors.specs.declared.kinds.ServerErrorKind.{ServerErrorKind}
use Rattle.resp_errors.specs.declared.kinds.ServerErrorKind.TheVariants.{ResponseError, ExecAbort, BusyLoading}
use Rattle.resp_errors.specs.declared.kinds.ServerErrorKind.TheVariants.{NoScript, Moved, Ask, TryAgain, ClusterDown}
use Rattle.resp_errors.specs.declared.kinds.ServerErrorKind.TheVariants.{CrossSlot, MasterDown, ReadOnly, NotBusy}
use Rattle.resp_errors.specs.declared.kinds.ServerErrorKind.TheVariants.{NoSub, NoPerm}
use Rattle.resp_errors.specs.declared.kinds.ErrorKind.{ErrorKind}
use Rattle.resp_errors.specs.declared.kinds.ErrorKind.TheVariants as kind
use Rattle.resp_errors.specs.declared.kinds.IoKind.{IoKind}
use Rattle.resp_errors.specs.declared.kinds.IoKind.TheVariants as io
use Rattle.resp_errors.specs.declared.kinds.RetryMethod.{RetryMethod}
use Rattle.resp_errors.specs.declared.kinds.RetryMethod.TheVariants.{Reconnect, NoRetry, RetryImmediately, WaitAndRetry}
use Rattle.resp_errors.specs.declared.kinds.RetryMethod.TheVariants.{AskRedirect, MovedRedirect}
use Rattle.resp_errors.specs.declared.kinds.RetryMethod.TheVariants.{ReconnectFromInitialConnections}
use Rattle.resp_errors.specs.declared.kinds.RetryMethod.TheVariants.{RefreshSlotsAndRetry}
use Rattle.resp_errors.specs.declared.redis_error.RedisError.{RedisError}
use Rattle.resp_errors.specs.declared.redis_error.RedisError.TheVariants as form
use Rattle.resp_errors.specs.Errors.{kind_of}

abbrev pub is_io : ErrorKind → Bool
is_io kind.Io = true
is_io _ = false

-- an error of a cluster
abbrev pub is_of_cluster : ErrorKind → Bool
is_of_cluster (kind.Server Moved) = true
is_of_cluster (kind.Server Ask) = true
is_of_cluster (kind.Server TryAgain) = true
is_of_cluster (kind.Server ClusterDown) = true
is_of_cluster _ = false

-- the fault of a device is one of these
abbrev pub is_fault_of : (IoKind → Bool) → RedisError → Bool
is_fault_of These (form.Io fault) = These fault
is_fault_of These _ = false

-- no connection was taken
abbrev pub refuses_connection : IoKind → Bool
refuses_connection io.ConnectionRefused = true
refuses_connection io.NotFound = true
refuses_connection _ = false

-- it took too long
abbrev pub times_out : IoKind → Bool
times_out io.TimedOut = true
times_out io.WouldBlock = true
times_out _ = false

-- the connection is gone
abbrev pub drops_connection : IoKind → Bool
drops_connection io.BrokenPipe = true
drops_connection io.ConnectionReset = true
drops_connection io.ConnectionRefused = true
drops_connection io.ConnectionAborted = true
drops_connection io.UnexpectedEof = true
drops_connection io.NotConnected = true
drops_connection io.NotFound = true
drops_connection _ = false

-- the connection is gone: a fault of its device says so, or a refusal of kind `Io`
abbrev pub is_dropped : RedisError → Bool
is_dropped (form.General k text detail) = is_io k
is_dropped (form.Io fault) = drops_connection fault
is_dropped _ = false

abbrev pub retry_of_server_kind : ServerErrorKind → RetryMethod
retry_of_server_kind ResponseError = NoRetry
retry_of_server_kind ExecAbort = NoRetry
retry_of_server_kind BusyLoading = WaitAndRetry
retry_of_server_kind NoScript = NoRetry
retry_of_server_kind Moved = MovedRedirect
retry_of_server_kind Ask = AskRedirect
retry_of_server_kind TryAgain = WaitAndRetry
retry_of_server_kind ClusterDown = WaitAndRetry
retry_of_server_kind CrossSlot = NoRetry
retry_of_server_kind MasterDown = WaitAndRetry
retry_of_server_kind ReadOnly = RefreshSlotsAndRetry
retry_of_server_kind NotBusy = NoRetry
retry_of_server_kind NoSub = NoRetry
retry_of_server_kind NoPerm = NoRetry

-- of a refusal of kind `Io`, which says that the connection is gone, as of one that is dropped
abbrev pub retry_of_kind : ErrorKind → RetryMethod
retry_of_kind (kind.Server k) = retry_of_server_kind k
retry_of_kind kind.Parse = Reconnect
retry_of_kind kind.AuthenticationFailed = Reconnect
retry_of_kind kind.UnexpectedReturnType = NoRetry
retry_of_kind kind.InvalidClientConfig = NoRetry
retry_of_kind kind.Io = Reconnect
retry_of_kind kind.Client = NoRetry
retry_of_kind kind.Extension = NoRetry
retry_of_kind kind.MasterNameNotFoundBySentinel = WaitAndRetry
retry_of_kind kind.NoValidReplicasFoundBySentinel = WaitAndRetry
retry_of_kind kind.EmptySentinelList = NoRetry
retry_of_kind kind.ClusterConnectionNotFound = ReconnectFromInitialConnections
retry_of_kind kind.RESP3NotSupported = NoRetry
retry_of_kind kind.OutOfMemory = NoRetry

-- of a fault that leaves the connection: of these two it would be met again
abbrev pub retry_of_lasting : IoKind → RetryMethod
retry_of_lasting io.PermissionDenied = NoRetry
retry_of_lasting io.Unsupported = NoRetry
retry_of_lasting _ = RetryImmediately

-- how a call that met the error may be tried again
abbrev pub retry_of : RedisError → RetryMethod
retry_of (form.Io fault) = cond (drops_connection fault) Reconnect (retry_of_lasting fault)
retry_of e = retry_of_kind (kind_of e)

-- it may be tried over a new connection alone
abbrev pub replaces_connection : RetryMethod → Bool
replaces_connection Reconnect = true
replaces_connection ReconnectFromInitialConnections = true
replaces_connection _ = false
