use Rattle.std.proofs.Common.{rules, ◌≡◌, [], ◌∷◌}
use Rattle.std.proofs.lemmas.List.{nil_from_length}
use Rattle.resp_command.specs.NextPush.{other_value}
use Rattle.resp_link.proofs.NamedMessages.{none_empty, none_named}
use Rattle.resp_link.proofs.messages.message_in.Goals as goal

pub returns-then-is_empty-clause-error : goal.returns-then-is_empty-clause-error
returns-then-is_empty-clause-error c =
    let none : c.args.elements.items ≡ [] = nil_from_length _ (search rules) in
    other_value c.reply_without_request.ensures (rw none none_empty)

pub returns-in-None-clause-error : goal.returns-in-None-clause-error
returns-in-None-clause-error c =
    let some : c.args.elements.items ≡ c.remove.result ∷ c.remove.new.self.items = search rules in
    other_value c.reply_without_request-in-None.ensures
    (rw some (none_named _ _ (rw c.in-None.is at c.in_ok-kind.ensures)))
