-- Errors that a server answers (RESP, "Simple errors", "Bulk errors").
use Rattle.std.specs.Prelude.{ℕ, List, Bool, codes, cond, Option, None, Some, ◌==◌, length, [], ◌∷◌, ◌++◌}
use Rattle.std.specs.Fmt.{◌++?◌, debug_str}
use Rattle.std.specs.Str.{bytes_eq}
use Rattle.std.specs.List.{position_or_len, before_first, after_first}
use Rattle.resp_errors.specs.declared.kinds.ServerErrorKind.{ServerErrorKind}
use Rattle.resp_errors.specs.declared.kinds.ServerErrorKind.TheVariants.{ResponseError, ExecAbort, BusyLoading}
use Rattle.resp_errors.specs.declared.kinds.ServerErrorKind.TheVariants.{NoScript, Moved, Ask, TryAgain, ClusterDown}
use Rattle.resp_errors.specs.declared.kinds.ServerErrorKind.TheVariants.{CrossSlot, MasterDown, ReadOnly, NotBusy}
use Rattle.resp_errors.specs.declared.kinds.ServerErrorKind.TheVariants.{NoSub, NoPerm}
use Rattle.resp_errors.specs.declared.server_error.ServerError.{ServerError}
use Rattle.resp_errors.specs.declared.server_error.ServerError.TheVariants.{Known, Extension}

-- the code of each known kind
abbrev pub code_of_kind : ServerErrorKind → List ℕ
code_of_kind ResponseError = codes "ERR"
code_of_kind ExecAbort = codes "EXECABORT"
code_of_kind BusyLoading = codes "LOADING"
code_of_kind NoScript = codes "NOSCRIPT"
code_of_kind Moved = codes "MOVED"
code_of_kind Ask = codes "ASK"
code_of_kind TryAgain = codes "TRYAGAIN"
code_of_kind ClusterDown = codes "CLUSTERDOWN"
code_of_kind CrossSlot = codes "CROSSSLOT"
code_of_kind MasterDown = codes "MASTERDOWN"
code_of_kind ReadOnly = codes "READONLY"
code_of_kind NotBusy = codes "NOTBUSY"
code_of_kind NoSub = codes "NOSUB"
code_of_kind NoPerm = codes "NOPERM"

-- the kind whose code this is, if it is a known code
unfoldable pub kind_of_code : List ℕ → Option ServerErrorKind
kind_of_code code =
    cond (bytes_eq code (codes "ERR")) (Some ResponseError)
    (cond (bytes_eq code (codes "EXECABORT")) (Some ExecAbort)
    (cond (bytes_eq code (codes "LOADING")) (Some BusyLoading)
    (cond (bytes_eq code (codes "NOSCRIPT")) (Some NoScript)
    (cond (bytes_eq code (codes "MOVED")) (Some Moved)
    (cond (bytes_eq code (codes "ASK")) (Some Ask)
    (cond (bytes_eq code (codes "TRYAGAIN")) (Some TryAgain)
    (cond (bytes_eq code (codes "CLUSTERDOWN")) (Some ClusterDown)
    (cond (bytes_eq code (codes "CROSSSLOT")) (Some CrossSlot)
    (cond (bytes_eq code (codes "MASTERDOWN")) (Some MasterDown)
    (cond (bytes_eq code (codes "READONLY")) (Some ReadOnly)
    (cond (bytes_eq code (codes "NOTBUSY")) (Some NotBusy)
    (cond (bytes_eq code (codes "NOSUB")) (Some NoSub)
    (cond (bytes_eq code (codes "NOPERM")) (Some NoPerm) None)))))))))))))

-- an error of this code and detail
abbrev pub error_with : List ℕ → Option (List ℕ) → ServerError
error_with code detail = elim (kind_of_code code) [
  | Some kind ↦ Known kind detail
  | None ↦ Extension code detail
]

abbrev pub is_space : ℕ → Bool
is_space byte = byte == 32

-- the error of a reply's text: the code up to the first space, then the detail, if there is a space
unfoldable pub server_error : List ℕ → ServerError
server_error text = cond (position_or_len is_space text == length text)
    (error_with text None)
    (error_with (before_first is_space text) (Some (after_first is_space text)))

abbrev pub server_kind_of : ServerError → Option ServerErrorKind
server_kind_of (Known kind detail) = Some kind
server_kind_of (Extension code detail) = None

abbrev pub server_code_of : ServerError → List ℕ
server_code_of (Known kind detail) = code_of_kind kind
server_code_of (Extension code detail) = code

abbrev pub server_details_of : ServerError → Option (List ℕ)
server_details_of (Known kind detail) = detail
server_details_of (Extension code detail) = detail

abbrev pub after_code : Option (List ℕ) → List ℕ
after_code None = []
after_code (Some detail) = 32 ∷ detail

-- the text of an error: its code, and where there is a detail a space and the detail
abbrev pub text_of : ServerError → List ℕ
text_of error = server_code_of error ++ after_code (server_details_of error)

-- the name of each known kind
abbrev pub name_of_server_kind : ServerErrorKind → List ℕ
name_of_server_kind ResponseError = codes "ResponseError"
name_of_server_kind ExecAbort = codes "ExecAbort"
name_of_server_kind BusyLoading = codes "BusyLoading"
name_of_server_kind NoScript = codes "NoScript"
name_of_server_kind Moved = codes "Moved"
name_of_server_kind Ask = codes "Ask"
name_of_server_kind TryAgain = codes "TryAgain"
name_of_server_kind ClusterDown = codes "ClusterDown"
name_of_server_kind CrossSlot = codes "CrossSlot"
name_of_server_kind MasterDown = codes "MasterDown"
name_of_server_kind ReadOnly = codes "ReadOnly"
name_of_server_kind NotBusy = codes "NotBusy"
name_of_server_kind NoSub = codes "NoSub"
name_of_server_kind NoPerm = codes "NoPerm"

-- what stands for the code when an error is shown: a known kind's name, else the code in quotes;
-- known of ASCII codes
abbrev pub shown_code : ServerError → Option (List ℕ)
shown_code (Known kind detail) = Some (name_of_server_kind kind)
shown_code (Extension code detail) = debug_str code

-- the details, behind a colon and a space
abbrev pub shown_details : Option (List ℕ) → List ℕ
shown_details None = []
shown_details (Some detail) = codes ": " ++ detail

-- the text of an error when it is shown, where it is known
abbrev pub display_of : ServerError → Option (List ℕ)
display_of error = shown_code error ++? Some (shown_details (server_details_of error))
