use Rattle.std.proofs.Common.{◌≡◌, ℕ, List, sym, ap, ◌∙◌, subst, inl, ◌++◌}
use Rattle.example_server.proofs.Exchanges.{answered}
use Rattle.example_server.proofs.server.Server.next_reply.Goals as goal
use Rattle.example_server.specs.Requests.{Takes, ahead, between, pending, request}
use Rattle.example_server.specs.declared.requests.Taken.TheVariants as taken

pub returns-in_ok-reply_to-in-Request : goal.returns-in_ok-reply_to-in-Request
returns-in_ok-reply_to-in-Request c = record {
  goes_on = λ start b w served.
      let old = c.args.self.now in
      let new = c.reply_to.new.self in
      let words : List (List ℕ) = c.in-Request.words.items in
      let takes : Takes (ahead (pending old.requests)) (pending c.take.new.self) (taken.Request c.in-Request.words) =
      subst (Takes (ahead (pending old.requests)) (pending c.take.new.self)) c.in-Request.is c.in_ok-take.ensures in
      let kept : pending new.requests ≡ pending c.take.new.self = ap pending c.in_ok-reply_to-in-Request.ensures.kept in
      let taken : (more : List ℕ) → ahead (pending old.requests) more
      ≡ request words ((pending new.requests).unread ++ more) =
      λ more. takes.1 more ∙ ap (λ p. request words (p.unread ++ more)) (sym kept) in
      inl (record {
        words = words;
        taken = taken;
        served = answered start b w old new words c.in_ok-reply_to-in-Request.field-0.items served
            (kept ∙ takes.0 ∙ ap (λ p. between p.unread) (sym kept)) taken c.in_ok-reply_to-in-Request.ensures.answered;
      });
}
