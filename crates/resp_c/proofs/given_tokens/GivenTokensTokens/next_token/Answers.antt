use Rattle.std.proofs.Common.{rules}
use Rattle.resp_c.proofs.Tokens.{next_given}
use Rattle.resp_c.proofs.given_tokens.GivenTokensTokens.next_token.Goals as goal

pub returns : goal.returns
returns c = record {
  next = next_given c.token.result c.args.self.now.tokens.now c.in_ok-token.token.now c.in_ok-token.others.now
      (search rules) c.token.ensures.token c.token.ensures.known;
}
