use Rattle.std.proofs.Common.{refl, ap, rules}
use Rattle.resp_parse.specs.State.{State}
use Rattle.resp_c.specs.Sessions.{Fed}
use Rattle.resp_c.proofs.Outcomes.{works_unless, feed_refused}
use Rattle.resp_c.proofs.session.Session.feed.Goals as goal

pub returns-then-is_err : goal.returns-then-is_err
returns-then-is_err c =
    let s = c.args.self.now in
    let works = works_unless s c.if-is_failed.ensures.failed in
    let same = feed_refused s.parser c.feed.new.self c.args.bytes.now c.feed.result works c.feed.ensures.feeds
    (search rules) in
    record {
      fed = Fed.memory refl works (ap (λ (p : State). record {
        parser = p;
        reply = s.reply;
        fault = s.fault;
        place = s.place;
      }) same);
    }
