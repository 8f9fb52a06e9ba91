use Rattle.std.proofs.Common.{◌≡◌, ℕ, ap, sym, ◌∙◌, take, drop, rules}
use Rattle.std.specs.Str.{is_utf8}
use Rattle.std.proofs.lemmas.List.{take_min, drop_min}
use Rattle.resp_parse.specs.FlatBuilders.{names_kind}
use Rattle.resp_parse.proofs.flat_builder.name_kind.Goals as goal

pub returns-in-BulkString-clause-named : goal.returns-in-BulkString-clause-named
returns-in-BulkString-clause-named c =
    let t = c.in-Some.first.now in
    let rest : c.split_at.result.1.now ≡ drop t.start c.args.text.now = c.split_at.ensures.back
    ∙ ap (λ (k : ℕ). drop k c.args.text.now) c.min.ensures ∙ drop_min t.start c.args.text.now in
    let name : c.split_at-in-BulkString.result.0.now ≡ take t.size (drop t.start c.args.text.now) =
    c.split_at-in-BulkString.ensures.front ∙ ap (λ (k : ℕ). take k c.split_at.result.1.now) c.min-in-BulkString.ensures
    ∙ take_min t.size c.split_at.result.1.now ∙ ap (take t.size) rest in
    let all : names_kind c.args.tokens.now c.args.text.now
    ≡ is_utf8 (take t.size (drop t.start c.args.text.now)) = search rules in
    c.is_text.ensures ∙ ap is_utf8 name ∙ sym all
