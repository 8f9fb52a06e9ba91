use Rattle.std.proofs.Common.{◌≡◌, ◌∙◌, ap, sym, None, Some}
use Rattle.std.specs.Prelude.{slice_get}
use Rattle.std.specs.Option.{option_copied}
use Rattle.resp_command.proofs.FirstArgument.{nameless, named_first, other_first}
use Rattle.resp_command.proofs.command.Cmd.is_subscription.Goals as goal

pub returns-in-None : goal.returns-in-None
returns-in-None c =
    let inside = c.self.inside in
    let none : slice_get inside.encoded_args 0 ≡ None = sym c.get.ensures.found ∙ ap option_copied c.in-None.is in
    rw (← c.self.view_is) (sym (nameless inside.cursor inside.cursors.items inside.encoded_args c.self.invariant none))

pub returns-else-is_subscription_name : goal.returns-else-is_subscription_name
returns-else-is_subscription_name c =
    let inside = c.self.inside in
    let name : slice_get inside.encoded_args 0 ≡ Some c.in-Some.name.now =
    sym c.get.ensures.found ∙ ap option_copied c.in-Some.is in
    rw (← c.self.view_is) (c.if-is_subscription_name.false ∙ sym (other_first inside.cursor inside.cursors.items
    inside.encoded_args _ c.self.invariant name (sym c.is_subscription_name.ensures ∙ c.if-is_subscription_name.false)))

pub returns-then-is_subscription_name : goal.returns-then-is_subscription_name
returns-then-is_subscription_name c =
    let inside = c.self.inside in
    let name : slice_get inside.encoded_args 0 ≡ Some c.in-Some.name.now =
    sym c.get.ensures.found ∙ ap option_copied c.in-Some.is in
    rw (← c.self.view_is) (named_first inside.cursor inside.cursors.items inside.encoded_args _ c.self.invariant name
    (sym c.is_subscription_name.ensures ∙ c.if-is_subscription_name.true) c.begins_with_cursor.result
    (rw (← c.self.view_is) at c.begins_with_cursor.ensures))
