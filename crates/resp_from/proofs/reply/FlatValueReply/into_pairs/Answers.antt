use Rattle.std.proofs.Common.{sym, ◌∙◌, ◌≡◌}
use Rattle.resp_flat.specs.declared.token.TokenKind.TheVariants as kind
use Rattle.resp_flat.specs.FlatValues.{kind_of}
use Rattle.resp_from.proofs.Levels.{pairs_readable}
use Rattle.resp_from.proofs.reply.FlatValueReply.into_pairs.Goals as goal

pub returns-in-Map-clause-shown : goal.returns-in-Map-clause-shown
returns-in-Map-clause-shown c = λ v shows.
    let is : kind_of v ≡ kind.Map = sym (c.kind.ensures.shown v shows.0) ∙ c.in-Map.is in
    (is, (c.pairs.ensures.shown v shows.0, pairs_readable v is shows.1))
