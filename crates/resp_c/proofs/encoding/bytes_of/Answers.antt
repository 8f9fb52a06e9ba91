use Rattle.std.proofs.Common.{List, ℕ, Some, ap, sym, ◌∙◌}
use Rattle.std.specs.Fmt.{◌++?◌}
use Rattle.resp_encode.specs.FlatEncoding.{flat_encoding}
use Rattle.resp_c.specs.GivenTokens.{known_tokens}
use Rattle.resp_c.proofs.Tokens.{appended_alone}
use Rattle.resp_c.proofs.encoding.bytes_of.Goals as goal

pub returns-in-Ok-encode_tokens-clause-bytes : goal.returns-in-Ok-encode_tokens-clause-bytes
returns-in-Ok-encode_tokens-clause-bytes c =
    let o = flat_encoding c.args.version 1000 (known_tokens c.args.tokens.now) c.args.text.now in
    sym (appended_alone o) ∙ ap (λ (x : List ℕ). Some x ++? o) (sym c.in-Ok.ensures.items)
    ∙ c.in-Ok-encode_tokens.ensures.appended
