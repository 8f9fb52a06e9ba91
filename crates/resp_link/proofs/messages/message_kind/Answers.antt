use Rattle.std.proofs.Common.{◌≡◌, ◌∙◌, ap, arith}
use Rattle.std.specs.String.{string_bytes}
use Rattle.resp_value.specs.Names.{kind_named}
use Rattle.resp_link.proofs.NamedMessages.{kind_or_none}
use Rattle.resp_link.proofs.messages.message_kind.Goals as goal

pub returns-in-Ok : goal.returns-in-Ok
returns-in-Ok c =
    let e : string_bytes c.in-Ok.name ≡ c.in-BulkString.name = grind
    (arith, c.in-Ok.ensures.ok, c.in_ok-into_vec-in-BulkString.ensures) in
    kind_or_none _ _ _ _ c.in-BulkString.is (c.get_push_kind.ensures.kind ∙ ap kind_named e)
    (c.get_push_kind.ensures.named ∙ e) c.only_message.ensures
