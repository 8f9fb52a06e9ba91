-- What a refusal says.
use Rattle.std.specs.Prelude.{ℕ, ◌-◌, nat_lt, List, [], ◌∷◌, ◌++◌, length, take, map, codes, Vec}
use Rattle.std.specs.Prelude.{if◌then◌else◌}
use Rattle.std.specs.Char.{to_ascii_uppercase}
use Rattle.std.specs.List.{suffix_len}
use Rattle.std.specs.declared.alloc.Global.{Global}
use Rattle.resp_containers.specs.Lossy.{lossy}
use Rattle.resp_errors.specs.ServerErrors.{server_error}
use Rattle.resp_value.specs.declared.value.Value.{Value, ServerError}
use Rattle.example_server.specs.Lines.{end_at}
use Rattle.example_server.specs.Names.{text_of}
use Rattle.example_server.specs.ProtocolErrors.{is_line_end, spaced}
use Rattle.example_server.specs.declared.refusal.Refusal.{Refusal}
use Rattle.example_server.specs.declared.refusal.Refusal.TheVariants as refusal

-- a word of a request
abbrev pub Word : Type 0
Word = Vec ℕ Global

-- the bytes before the first NUL
abbrev pub c_string : List ℕ → List ℕ
c_string bytes = take (end_at 0 bytes) bytes

-- no more of a word is repeated
abbrev pub front : List ℕ → List ℕ
front bytes = take 128 (c_string bytes)

-- a word in quotes after what stands there, as far as 128 bytes have room for it
abbrev pub with_quoted : List ℕ → Word → List ℕ
with_quoted shown word = if nat_lt (length shown) 128
    then shown ++ codes "'" ++ take (128 - length shown) (c_string word.items) ++ codes "' "
    else shown

-- words in quotes, one after another
abbrev pub quoted_after : List ℕ → List Word → List ℕ
quoted_after shown [] = shown
quoted_after shown (word ∷ words) = quoted_after (with_quoted shown word) words

-- the line of a command without a name; or its name, and its arguments in quotes
abbrev pub unknown_line : List Word → List ℕ
unknown_line [] = codes "ERR unknown command '"
unknown_line (name ∷ args) = codes "ERR unknown command '" ++ front name.items
    ++ codes "', with args beginning with: " ++ quoted_after [] args

-- the line of a refusal that repeats nothing of the command
abbrev pub fixed_line : Refusal → List ℕ
fixed_line refusal.VersionNotInteger =
    codes "ERR Protocol version is not an integer or out of range"
fixed_line refusal.NoSuchVersion = codes "NOPROTO unsupported protocol version"
fixed_line refusal.NoSuchDatabase = codes "ERR DB index is out of range"
fixed_line refusal.ClientName =
    codes "ERR Client names cannot contain spaces, newlines or special characters."
fixed_line refusal.NxWithOthers =
    codes "ERR NX and XX, GT or LT options at the same time are not compatible"
fixed_line refusal.GtWithLt = codes "ERR GT and LT options at the same time are not compatible"
fixed_line refusal.WrongType =
    codes "WRONGTYPE Operation against a key holding the wrong kind of value"
fixed_line refusal.NotInteger = codes "ERR value is not an integer or out of range"
fixed_line refusal.Overflow = codes "ERR increment or decrement would overflow"
fixed_line refusal.NestedMulti = codes "ERR MULTI calls can not be nested"
fixed_line refusal.ExecWithoutMulti = codes "ERR EXEC without MULTI"
fixed_line refusal.DiscardWithoutMulti = codes "ERR DISCARD without MULTI"
fixed_line refusal.ExecWithArguments =
    codes "EXECABORT Transaction discarded because of: wrong number of arguments for 'exec' command"
fixed_line refusal.ExecAborted =
    codes "EXECABORT Transaction discarded because of previous errors."
fixed_line _ = codes "ERR syntax error"

-- the line of a refusal
abbrev pub line_of : Refusal → List ℕ
line_of (refusal.UnknownCommand words) = unknown_line words.items
line_of (refusal.UnknownSubcommand name word) = codes "ERR unknown subcommand '"
    ++ front word.items ++ codes "'. Try " ++ map to_ascii_uppercase (text_of name)
    ++ codes " HELP."
line_of (refusal.WrongNumber name) =
    codes "ERR wrong number of arguments for '" ++ text_of name ++ codes "' command"
line_of (refusal.HelloOption word) =
    codes "ERR Syntax error in HELLO option '" ++ c_string word.items ++ codes "'"
line_of (refusal.ExpireOption word) = codes "ERR Unsupported option " ++ c_string word.items
line_of (refusal.ExpireTime name) =
    codes "ERR invalid expire time in '" ++ text_of name ++ codes "' command"
line_of why = fixed_line why

-- the line without the CRs and LFs at its end
abbrev pub trimmed : List ℕ → List ℕ
trimmed line = take (length line - suffix_len is_line_end line) line

-- the error reply: a space for each other CR or LF, and U+FFFD for what is no UTF-8
abbrev pub error_of : Refusal → Value
error_of why = ServerError (server_error (lossy (map spaced (trimmed (line_of why)))))
