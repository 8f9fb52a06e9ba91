use Rattle.std.proofs.Common.{◌≡◌, false, inl, rules}
use Rattle.std.proofs.lemmas.Bool.{false_from_ne_true}
use Rattle.std.proofs.lemmas.Str.{is_utf8-from_IsUtf8, IsUtf8-from_is_utf8}
use Rattle.std.specs.Str.{is_utf8, IsUtf8}
use Rattle.percent_encoding.specs.Percent.{percent_decode}
use Rattle.resp_connect.specs.Addresses.{unescaped}
use Rattle.resp_connect.proofs.address.parts.unescaped.Goals as goal

pub returns-in_ok-from_str-in-Ok : goal.returns-in_ok-from_str-in-Ok
unfolding unescaped
returns-in_ok-from_str-in-Ok c =
    let part = c.args.part.now in
    let is_text : IsUtf8 (percent_decode part) = search rules in
    let holds = is_utf8-from_IsUtf8 _ is_text in
    rw holds (search rules)

pub returns-in-Err-Utf8 : goal.returns-in-Err-Utf8
unfolding unescaped
returns-in-Err-Utf8 c =
    let part = c.args.part.now in
    let no_text : is_utf8 (percent_decode part) ≡ false =
    false_from_ne_true _ (λ holds. let is_text = IsUtf8-from_is_utf8 _ holds in search rules) in
    inl (rw no_text)
