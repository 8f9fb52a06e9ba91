use Rattle.std.proofs.Common.{◌≡◌, string_bytes, rules, subst, ◌∙◌}
use Rattle.std.specs.Str.{IsUtf8}
use Rattle.std.proofs.lemmas.Str.{IsUtf8-string_bytes}
use Rattle.resp_from.proofs.texts.utf8_text.Goals as goal

pub returns-in-Ok : goal.returns-in-Ok
returns-in-Ok c =
    let same : string_bytes c.in-Ok.text ≡ c.args.bytes = search rules in
    record { converts = (subst IsUtf8 same (IsUtf8-string_bytes c.in-Ok.text), c.from.ensures ∙ same) }
