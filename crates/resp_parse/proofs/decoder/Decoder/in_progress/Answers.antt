use Rattle.std.proofs.Common.{◌≡◌, ◌<◌, ◌∙◌, ap, sym, length, arith}
use Rattle.std.proofs.lemmas.Bool.Decides.{nat_tests}
use Rattle.resp_parse.specs.State.{State}
use Rattle.resp_parse.proofs.ParserStates.{StandsOrFailed-since}
use Rattle.resp_parse.proofs.Holding.{in_progress-unparsed, in_progress-machine}
use Rattle.resp_parse.proofs.decoder.Decoder.in_progress.Goals as goal

pub returns-then-self-len : goal.returns-then-self-len
returns-then-self-len g c = record {
  progress = λ b h.
      let u : b ≡ c.self.inside.since = StandsOrFailed-since c.args.self.now b h
      ∙ sym (ap (λ (s : State). s.since) c.self.view_is) in
      let l : c.self.inside.consumed < length c.self.inside.buffer.items = grind (arith, nat_tests, c.len.ensures) in (
        (λ _. in_progress-unparsed c.self.inside.machine c.self.inside.buffer.items c.self.inside.since
            c.self.inside.consumed c.self.inside.failed c.self.invariant.holds l b u),
        (λ _. grind (arith, nat_tests, c.len.ensures)),
      );
}

pub returns-else-self-len : goal.returns-else-self-len
returns-else-self-len g c = record {
  progress = λ b h.
      let u : b ≡ c.self.inside.since = StandsOrFailed-since c.args.self.now b h
      ∙ sym (ap (λ (s : State). s.since) c.self.view_is) in
      let l : length c.self.inside.buffer.items
      ≡ c.self.inside.consumed = (let w = c.self.invariant.consumed in grind (arith, nat_tests, c.len.ensures)) in
      in_progress-machine c.self.inside.machine c.self.inside.buffer.items c.self.inside.since c.self.inside.consumed
      c.self.inside.failed c.self.invariant.holds l b u c.is_fresh.result c.is_fresh.ensures;
}
