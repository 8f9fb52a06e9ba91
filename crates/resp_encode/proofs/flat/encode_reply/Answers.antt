use Rattle.std.proofs.Common.{rules, List, ℕ, Option, Some, ◌≡◌, subst, ◌∙◌, OnOk, IfErr}
use Rattle.std.specs.Fmt.{◌++?◌}
use Rattle.resp_encode.specs.Encodings.{RefusesValue}
use Rattle.resp_encode.proofs.FlatWhole.{flat_is, sent_of}
use Rattle.resp_encode.proofs.flat.encode_reply.Goals as goal

pub returns-clause-appended : goal.returns-clause-appended
returns-clause-appended c = λ v flat readable.
    let depth : c.default-depth.result.depth ≡ 100 = search rules in
    let is = flat_is c.args.protocol 100 _ _ v (c.as_slice-tokens.ensures.value ∙ flat.tokens)
    (c.as_slice.ensures.value ∙ flat.text) readable in
    subst (λ (o : Option (List ℕ)). OnOk c.encode_tokens.result
    ((Some c.args.out.now.items ++? o) ≡ Some c.encode_tokens.new.out.items)) is
    (rw depth at c.encode_tokens.ensures.appended)

pub returns-clause-refused : goal.returns-clause-refused
returns-clause-refused c = λ v flat readable.
    let depth : c.default-depth.result.depth ≡ 100 = search rules in
    let is = flat_is c.args.protocol 100 _ _ v (c.as_slice-tokens.ensures.value ∙ flat.tokens)
    (c.as_slice.ensures.value ∙ flat.text) readable in
    subst (λ (o : Option (List ℕ)). IfErr c.encode_tokens.result (RefusesValue o)) is
    (rw depth at c.encode_tokens.ensures.refused)

pub returns-clause-value : goal.returns-clause-value
returns-clause-value c =
    let depth : c.default-depth.result.depth ≡ 100 = search rules in
    sent_of c.encode_tokens.result c.args.protocol 100 c.args.reply.now _ _ _ _
    c.as_slice-tokens.ensures.value c.as_slice.ensures.value (rw depth at c.encode_tokens.ensures.appended)
