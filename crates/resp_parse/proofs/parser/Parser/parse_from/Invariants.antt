use Rattle.std.proofs.Common.{◌≡◌, ◌≤◌, ◌+◌, List, ℕ}
use Rattle.resp_parse.specs.State.{StandsAfter}
use Rattle.resp_parse.proofs.Parsing.{FilledAsNeeded}
use Rattle.resp_parse.proofs.parser.Parser.parse_from.Given as goal

-- the parser stands after what it stood after at first and what was filled since
abbrev pub invariant-loop : goal.invariant-loop
invariant-loop g l =
    let source = g.S.ReplySource.source in
    record {
      limits : l.self.limits ≡ l.fn.self.limits;
      calls : l.self.counts.calls + l.fn.self.counts.received ≤ l.fn.self.counts.calls + l.self.counts.received;
      filled : (b : List ℕ) → StandsAfter l.fn.self b
          → FilledAsNeeded b l.fn.self l.self (source l.fn.source) (source l.source);
    }
