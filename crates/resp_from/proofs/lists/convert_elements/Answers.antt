use Rattle.std.proofs.Common.{◌++◌, ◌∷◌, [], sym, subst}
use Rattle.std.specs.List.{AllZip}
use Rattle.resp_from.proofs.Conversions.{ConvertsList-err}
use Rattle.resp_from.proofs.Elements.{one_more, none_more}
use Rattle.resp_from.proofs.OneByOne.{AtSome, all_done}
use Rattle.resp_from.proofs.lists.convert_elements.Goals as goal

pub returns-in_err-from_reply : goal.returns-in_err-from_reply
returns-in_err-from_reply g c = record {
  converts = λ vs shown.
      let Shows = g.R.Reply.shows in
      let Of = g.T.FromRedisValue.of_value in
      let at = c.loop-element.invariant vs shown in
      ConvertsList-err (AllZip Of vs) c.from_residual-in_err-from_reply.result c.in_err-from_reply.field-0.0
      c.from_residual-in_err-from_reply.ensures
      (none_more Shows Of (g.R.Reply.show c.loop-element.elements) (g.R.Reply.show c.next_of.new.elements)
      c.in-Some.element c.loop-element.all.items vs c.in_err-from_reply.field-0.0
      at (c.in-Some.ensures.next at.others at.left) c.in_err-from_reply.ensures.converts);
}

pub loop-element-preserved : goal.loop-element-preserved
loop-element-preserved g c = λ vs shown.
    let Of = g.T.FromRedisValue.of_value in
    let all = c.loop-element.all.items in
    let at = c.loop-element.invariant vs shown in
    let Left = g.R.Reply.show c.next_of.new.elements in
    let grown = all ++ (c.in_ok-from_reply.field-0 ∷ []) in
    subst (λ xs. AtSome Left (λ done. AllZip Of done xs) vs) {x = grown} (sym {b = grown} c.in_ok-push.ensures.items)
    (one_more g.R.Reply.shows Of (g.R.Reply.show c.loop-element.elements) Left c.in-Some.element all vs
    c.in_ok-from_reply.field-0 at (c.in-Some.ensures.next at.others at.left) c.in_ok-from_reply.ensures.converts)

pub returns : goal.returns
returns g c = record {
  converts = λ vs shown.
      let at = c.loop-element.invariant vs shown in
      all_done g.R.Reply.shows (g.R.Reply.show c.next_of.new.elements) (g.R.Reply.show c.loop-element.elements)
      (λ done. AllZip g.T.FromRedisValue.of_value done c.loop-element.all.items) vs at
      (c.in_default.ensures.next at.others at.left);
}
