use Rattle.std.proofs.Common.{◌∷◌, [], ◌++◌}
use Rattle.resp_command.proofs.ScanRequests.{asked_more, its_answers, fetching_more}
use Rattle.resp_command.proofs.fetching.fetch.Goals as goal

pub returns-in_default : goal.returns-in_default
returns-in_default g c = record {
  givens = c.loop-cursor.invariant.givens ++ c.ask-given.result ∷ [];
  asked = rw c.cursor_after-cursor.ensures (asked_more _ _ _ _ _ _ _ _ _ _ c.loop-cursor.invariant
      c.loop-cursor-test.true c.if-left-gt0.true c.ask-given.result c.ask-given.ensures);
  page = rw (its_answers _ _ _ _ _ _ _ _ _ _ c.loop-cursor.invariant c.loop-cursor-test.true c.if-left-gt0.true
      c.ask-given.result c.ask-given.ensures) c.page_in.ensures;
  nothing = λ e. absurd (c.in_default.not-Nothing e);
}

pub loop-cursor-preserved : goal.loop-cursor-preserved
loop-cursor-preserved g c =
    rw c.cursor_after-cursor.ensures (fetching_more _ _ _ _ _ _ _ _ _ _ c.loop-cursor.invariant c.loop-cursor-test.true
    c.if-left-gt0.true c.ask-given.result c.ask-given.ensures (rw c.in-Nothing.is at c.page_in.ensures))
