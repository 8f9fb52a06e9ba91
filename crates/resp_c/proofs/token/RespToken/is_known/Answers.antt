use Rattle.std.proofs.Common.{◌∙◌}
use Rattle.resp_c.proofs.Tokens.{kind_found}
use Rattle.resp_c.proofs.token.RespToken.is_known.Goals as goal

pub returns : goal.returns
returns c = c.is_some.ensures ∙ kind_found c.kind_numbered.result c.args.self.now c.kind_numbered.ensures.number
    c.kind_numbered.ensures.known
