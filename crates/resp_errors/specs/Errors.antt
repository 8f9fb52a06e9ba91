-- What an error says, by its form.
use Rattle.std.specs.Prelude.{ℕ, List, [], ◌∷◌, codes, Option, None, Some, Result, Ok, Err, slice_get, option_and_then}
use Rattle.resp_errors.specs.declared.kinds.ServerErrorKind.{ServerErrorKind}
use Rattle.resp_errors.specs.declared.kinds.ServerErrorKind.TheVariants.{ResponseError, ExecAbort, BusyLoading}
use Rattle.resp_errors.specs.declared.kinds.ServerErrorKind.TheVariants.{NoScript, Moved, Ask, TryAgain, ClusterDown}
use Rattle.resp_errors.specs.declared.kinds.ServerErrorKind.TheVariants.{CrossSlot, MasterDown, ReadOnly, NotBusy}
use Rattle.resp_errors.specs.declared.kinds.ServerErrorKind.TheVariants.{NoSub, NoPerm}
use Rattle.resp_errors.specs.declared.kinds.ErrorKind.{ErrorKind}
use Rattle.resp_errors.specs.declared.kinds.ErrorKind.TheVariants as kind
use Rattle.resp_errors.specs.declared.kinds.FrameFault.{FrameFault}
use Rattle.resp_errors.specs.declared.kinds.FrameFault.TheVariants.{TooDeep, UnknownType, LineNotUtf8, NotInteger}
use Rattle.resp_errors.specs.declared.kinds.FrameFault.TheVariants.{NegativeLength, BodyEnd, NotBoolean, NotDouble}
use Rattle.resp_errors.specs.declared.kinds.FrameFault.TheVariants.{NoVerbatimFormat, BadPushKind, TooLong}
use Rattle.resp_errors.specs.declared.kinds.FrameFault.TheVariants.{TooManyPushes}
use Rattle.resp_errors.specs.declared.kinds.IoKind.{IoKind}
use Rattle.resp_errors.specs.declared.kinds.IoKind.TheVariants.{NotFound, PermissionDenied, ConnectionRefused}
use Rattle.resp_errors.specs.declared.kinds.IoKind.TheVariants.{ConnectionReset, ConnectionAborted, NotConnected}
use Rattle.resp_errors.specs.declared.kinds.IoKind.TheVariants.{BrokenPipe, WouldBlock, TimedOut, Interrupted}
use Rattle.resp_errors.specs.declared.kinds.IoKind.TheVariants.{Unsupported, UnexpectedEof, WriteZero, OutOfMemory}
use Rattle.resp_errors.specs.declared.kinds.IoKind.TheVariants.{Other}
use Rattle.std.specs.declared.io.ErrorKind as device
use Rattle.std.specs.declared.io.ErrorKind.TheVariants as device_kind
use Rattle.resp_errors.specs.declared.server_error.ServerError.{ServerError}
use Rattle.resp_errors.specs.declared.parsing_error.ParsingError.{ParsingError}
use Rattle.resp_errors.specs.declared.parsing_error.ParsingError.TheVariants as parsing
use Rattle.resp_errors.specs.declared.redis_error.RedisError.{RedisError}
use Rattle.resp_errors.specs.declared.redis_error.RedisError.TheVariants as form
use Rattle.resp_errors.specs.ServerErrors as server

abbrev pub category_of_server_kind : ServerErrorKind → List ℕ
category_of_server_kind ResponseError = codes "response error"
category_of_server_kind ExecAbort = codes "script execution aborted"
category_of_server_kind BusyLoading = codes "busy loading"
category_of_server_kind NoScript = codes "no script"
category_of_server_kind Moved = codes "key moved"
category_of_server_kind Ask = codes "key moved (ask)"
category_of_server_kind TryAgain = codes "try again"
category_of_server_kind ClusterDown = codes "cluster down"
category_of_server_kind CrossSlot = codes "cross-slot"
category_of_server_kind MasterDown = codes "master down"
category_of_server_kind ReadOnly = codes "read-only"
category_of_server_kind NotBusy = codes "not busy"
category_of_server_kind NoSub =
    codes "Server declined unsubscribe related command in non-subscribed mode"
category_of_server_kind NoPerm = []

abbrev pub category_of_kind : ErrorKind → List ℕ
category_of_kind (kind.Server k) = category_of_server_kind k
category_of_kind kind.Parse = codes "parse error"
category_of_kind kind.AuthenticationFailed = codes "authentication failed"
category_of_kind kind.UnexpectedReturnType = codes "type error"
category_of_kind kind.InvalidClientConfig = codes "invalid client config"
category_of_kind kind.Io = codes "I/O error"
category_of_kind kind.Client = codes "client error"
category_of_kind kind.Extension = codes "extension error"
category_of_kind kind.MasterNameNotFoundBySentinel = codes "master name not found by sentinel"
category_of_kind kind.NoValidReplicasFoundBySentinel = codes "no valid replicas found by sentinel"
category_of_kind kind.EmptySentinelList = codes "empty sentinel list"
category_of_kind kind.ClusterConnectionNotFound = codes "connection to node in cluster not found"
category_of_kind kind.RESP3NotSupported = codes "resp3 is not supported by server"
category_of_kind kind.OutOfMemory = codes "out of memory"

-- the kind of a fault of the standard library: that of the same name, if there is one
abbrev pub io_kind_of_kind : device.ErrorKind → IoKind
io_kind_of_kind device_kind.NotFound = NotFound
io_kind_of_kind device_kind.PermissionDenied = PermissionDenied
io_kind_of_kind device_kind.ConnectionRefused = ConnectionRefused
io_kind_of_kind device_kind.ConnectionReset = ConnectionReset
io_kind_of_kind device_kind.ConnectionAborted = ConnectionAborted
io_kind_of_kind device_kind.NotConnected = NotConnected
io_kind_of_kind device_kind.BrokenPipe = BrokenPipe
io_kind_of_kind device_kind.WouldBlock = WouldBlock
io_kind_of_kind device_kind.TimedOut = TimedOut
io_kind_of_kind device_kind.Interrupted = Interrupted
io_kind_of_kind device_kind.Unsupported = Unsupported
io_kind_of_kind device_kind.UnexpectedEof = UnexpectedEof
io_kind_of_kind device_kind.WriteZero = WriteZero
io_kind_of_kind device_kind.OutOfMemory = OutOfMemory
io_kind_of_kind _ = Other

abbrev pub fault_text : FrameFault → List ℕ
fault_text TooDeep = codes "value is nested too deeply"
fault_text UnknownType = codes "unknown type byte"
fault_text LineNotUtf8 = codes "line is not UTF-8"
fault_text NotInteger = codes "line is not an integer"
fault_text NegativeLength = codes "length is negative"
fault_text BodyEnd = codes "body does not end in CR LF"
fault_text NotBoolean = codes "line is not a boolean"
fault_text NotDouble = codes "line is not a double"
fault_text NoVerbatimFormat = codes "verbatim text names no format"
fault_text BadPushKind = codes "push names no kind"
fault_text TooLong = codes "value is too long"
fault_text TooManyPushes = codes "too many pushes"

abbrev pub description_of : ParsingError → List ℕ
description_of (parsing.Described text) = text
description_of (parsing.Fault fault) = fault_text fault
description_of parsing.OutOfMemory = codes "out of memory"

abbrev pub fault_of_parsing : ParsingError → Option FrameFault
fault_of_parsing (parsing.Described text) = None
fault_of_parsing (parsing.Fault fault) = Some fault
fault_of_parsing parsing.OutOfMemory = None

-- the fault of a reader or a writer as an error of a call: want of memory is out of memory
abbrev pub error_of_io : IoKind → RedisError
error_of_io OutOfMemory = form.OutOfMemory
error_of_io k = form.Io k

-- a parsing error as an error of a call: out of memory is the same in both
abbrev pub error_of_parsing : ParsingError → RedisError
error_of_parsing (parsing.Described text) = form.Parse (parsing.Described text)
error_of_parsing (parsing.Fault fault) = form.Parse (parsing.Fault fault)
error_of_parsing parsing.OutOfMemory = form.OutOfMemory

abbrev pub kind_of_known : Option ServerErrorKind → ErrorKind
kind_of_known (Some k) = kind.Server k
kind_of_known None = kind.Extension

-- a pipeline's kind is that of its first error
abbrev pub kind_of_list : List (ℕ × ServerError) → ErrorKind
kind_of_list [] = kind.Extension
kind_of_list (first ∷ rest) = kind_of_known (server.server_kind_of first.1)

abbrev pub kind_of : RedisError → ErrorKind
kind_of (form.General k text detail) = k
kind_of (form.Io k) = kind.Io
kind_of (form.Parse e) = kind.Parse
kind_of (form.Server e) = kind_of_known (server.server_kind_of e)
kind_of (form.Pipeline errors) = kind_of_list errors
kind_of (form.Aborted errors) = kind.Server ExecAbort
kind_of form.OutOfMemory = kind.OutOfMemory

abbrev pub detail_of : RedisError → Option (List ℕ)
detail_of (form.General k text detail) = detail
detail_of (form.Parse e) = Some (description_of e)
detail_of (form.Server e) = server.server_details_of e
detail_of _ = None

abbrev pub own_code : RedisError → Option (List ℕ)
own_code (form.Server e) = Some (server.server_code_of e)
own_code _ = None

abbrev pub code_or : Option (List ℕ) → ErrorKind → Option (List ℕ)
code_or own (kind.Server k) = Some (server.code_of_kind k)
code_or own _ = own

-- the code of the kind, if it is a server's, else a server error's own
abbrev pub code_of : RedisError → Option (List ℕ)
code_of e = code_or (own_code e) (kind_of e)

abbrev pub fault_of : RedisError → Option FrameFault
fault_of (form.Parse e) = fault_of_parsing e
fault_of _ = None

abbrev pub io_kind_of : RedisError → Option IoKind
io_kind_of (form.Io k) = Some k
io_kind_of _ = None

abbrev pub server_errors_of : RedisError → Option (List (ℕ × ServerError))
server_errors_of (form.Server e) = Some ((0, e) ∷ [])
server_errors_of (form.Pipeline errors) = Some errors
server_errors_of (form.Aborted errors) = Some errors
server_errors_of _ = None

-- the first of these, where there is one
abbrev pub first_server_error_of : RedisError → Option (ℕ × ServerError)
first_server_error_of e = option_and_then (λ errors. slice_get errors 0) (server_errors_of e)

-- the server's error of an error of that form; of another form the error itself
abbrev pub server_error_or_back : RedisError → Result ServerError RedisError
server_error_or_back (form.Server e) = Ok e
server_error_or_back e = Err e
