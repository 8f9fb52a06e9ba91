use Rattle.std.proofs.Common.{◌≡◌, ◌∙◌, ap, subst, sym, true, false, Some, arith}
use Rattle.std.specs.Str.{IsUtf8, is_utf8}
use Rattle.std.specs.String.{string_bytes}
use Rattle.std.proofs.lemmas.Str.{IsUtf8-string_bytes, is_utf8-from_IsUtf8, IsUtf8-from_is_utf8}
use Rattle.resp_value.specs.Names.{kind_named}
use Rattle.resp_parse.proofs.ByteTests.{not_true}
use Rattle.resp_parse.proofs.PushesAndAttributes.{push_kind-text, push_kind-bytes}
use Rattle.resp_parse.proofs.value_of.kind_from.Goals as goal

pub returns-in-Ok : goal.returns-in-Ok
returns-in-Ok c =
    let e : string_bytes c.in-Ok.name ≡ c.in-BulkString.name = grind
    (arith, c.in-Ok.ensures.ok, c.in_ok-into_vec-in-BulkString.ensures) in
    let u : is_utf8 c.in-BulkString.name ≡ true = is_utf8-from_IsUtf8 _
    (subst IsUtf8 e (IsUtf8-string_bytes c.in-Ok.name)) in
    record {
      kind = ap (λ k. Some k) (c.get_push_kind-in-Ok.ensures.kind ∙ ap kind_named e)
          ∙ sym (push_kind-text c.args.first c.in-BulkString.name c.in-BulkString.is u);
    }

pub returns-in-BulkString : goal.returns-in-BulkString
returns-in-BulkString c =
    let u : is_utf8 c.in-BulkString.name ≡ false = not_true _ (λ t.
    let k : IsUtf8 c.in_ok-into_vec-in-BulkString.field-0.items = rw c.in_ok-into_vec-in-BulkString.ensures
    (IsUtf8-from_is_utf8 _ t) in
    let h = c.in-Err.ensures.succeeds k in cc) in
    record { kind = sym (push_kind-bytes c.args.first c.in-BulkString.name c.in-BulkString.is u) }
