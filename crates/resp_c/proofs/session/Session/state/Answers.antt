use Rattle.std.proofs.Common.{refl}
use Rattle.resp_c.specs.Sessions.{StateIs}
use Rattle.resp_c.proofs.Outcomes.{works_unless, none_held}
use Rattle.resp_c.proofs.session.Session.state.Goals as goal

pub returns-else-in_progress : goal.returns-else-in_progress
returns-else-in_progress c = record {
  state = StateIs.between refl (works_unless c.args.self.now c.if-is_failed.ensures.failed)
      (none_held c.args.self.now.parser c.if-in_progress.ensures.progress);
}
