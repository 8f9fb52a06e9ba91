use Rattle.std.proofs.Common.{◌≡◌, List, ℕ}
use Rattle.resp_parse.specs.Resume.{IsLooked}
use Rattle.resp_parse.specs.State.{StandsAfter, IsBetweenValues}
use Rattle.resp_parse.proofs.Parsing.{FilledAsNeeded}
use Rattle.resp_parse.proofs.parser.Parser.find_bulk.Given as goal

-- no line has ended in the bytes that were looked at
abbrev pub invariant-loop : goal.invariant-loop
invariant-loop g l =
    let source = g.S.ReplySource.source in
    record {
      limits : l.self.limits ≡ l.fn.self.limits;
      rest : IsBetweenValues l.self;
      looked : IsLooked l.self.unparsed l.looked;
      filled : (b : List ℕ) → StandsAfter l.fn.self b
          → FilledAsNeeded b l.fn.self l.self (source l.fn.source) (source l.source);
    }
