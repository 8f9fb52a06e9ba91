-- Names inside replies (RESP3, "Pushes", "Verbatim strings").
use Rattle.std.specs.Prelude.{ℕ, List, codes, cond}
use Rattle.std.specs.Str.{bytes_eq}
use Rattle.resp_value.specs.declared.names.PushKind.{PushKind}
use Rattle.resp_value.specs.declared.names.PushKind.TheVariants as push
use Rattle.resp_value.specs.declared.names.VerbatimFormat.{VerbatimFormat}
use Rattle.resp_value.specs.declared.names.VerbatimFormat.TheVariants as format

-- the kind of a push with this name
unfoldable pub kind_named : List ℕ → PushKind
kind_named name =
    cond (bytes_eq name (codes "invalidate")) push.Invalidate
    (cond (bytes_eq name (codes "message")) push.Message
    (cond (bytes_eq name (codes "pmessage")) push.PMessage
    (cond (bytes_eq name (codes "smessage")) push.SMessage
    (cond (bytes_eq name (codes "unsubscribe")) push.Unsubscribe
    (cond (bytes_eq name (codes "punsubscribe")) push.PUnsubscribe
    (cond (bytes_eq name (codes "sunsubscribe")) push.SUnsubscribe
    (cond (bytes_eq name (codes "subscribe")) push.Subscribe
    (cond (bytes_eq name (codes "psubscribe")) push.PSubscribe
    (cond (bytes_eq name (codes "ssubscribe")) push.SSubscribe
    (push.Other name))))))))))

-- the name of a kind
abbrev pub name_of_push_kind : PushKind → List ℕ
name_of_push_kind push.Disconnection = codes "disconnection"
name_of_push_kind (push.Other name) = name
name_of_push_kind push.Invalidate = codes "invalidate"
name_of_push_kind push.Message = codes "message"
name_of_push_kind push.PMessage = codes "pmessage"
name_of_push_kind push.SMessage = codes "smessage"
name_of_push_kind push.Unsubscribe = codes "unsubscribe"
name_of_push_kind push.PUnsubscribe = codes "punsubscribe"
name_of_push_kind push.SUnsubscribe = codes "sunsubscribe"
name_of_push_kind push.Subscribe = codes "subscribe"
name_of_push_kind push.PSubscribe = codes "psubscribe"
name_of_push_kind push.SSubscribe = codes "ssubscribe"

-- the format of a verbatim text with this name
unfoldable pub format_named : List ℕ → VerbatimFormat
format_named name =
    cond (bytes_eq name (codes "mkd")) format.Markdown
    (cond (bytes_eq name (codes "txt")) format.Text (format.Unknown name))

-- the name of a format
abbrev pub name_of_format : VerbatimFormat → List ℕ
name_of_format (format.Unknown name) = name
name_of_format format.Markdown = codes "mkd"
name_of_format format.Text = codes "txt"
