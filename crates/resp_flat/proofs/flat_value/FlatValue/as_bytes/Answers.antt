use Rattle.std.proofs.Common.{◌≡◌, ◌∙◌, ap, sym, Bool, true, false, cond, None}
use Rattle.resp_flat.specs.FlatReplies.{has_text}
use Rattle.resp_flat.specs.FlatValues.{bytes_at}
use Rattle.resp_flat.proofs.Shown.{bytes_shown}
use Rattle.resp_flat.proofs.flat_value.FlatValue.as_bytes.Goals as goal

pub returns-then-has_text : goal.returns-then-has_text
returns-then-has_text c = record {
  shown = λ v shows.
      let t = c.args.self.now.token.now in
      let x = c.args.self.now.text.now in
      let text : has_text t.kind ≡ true = cc in
      c.bytes_at.ensures ∙ sym (ap (λ (b : Bool). cond b (bytes_at x t.start t.size) None) text)
      ∙ bytes_shown c.args.self.now v shows;
}

pub returns-else-has_text : goal.returns-else-has_text
returns-else-has_text c = record {
  shown = λ v shows.
      let t = c.args.self.now.token.now in
      let x = c.args.self.now.text.now in
      let none : has_text t.kind ≡ false = cc in
      sym (ap (λ (b : Bool). cond b (bytes_at x t.start t.size) None) none) ∙ bytes_shown c.args.self.now v shows;
}
