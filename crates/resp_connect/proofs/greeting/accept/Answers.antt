use Rattle.std.proofs.Common.{◌≡◌, length, sym, ap, ◌∙◌, rules}
use Rattle.std.specs.Slice.Iter.{iter_rest}
use Rattle.std.specs.Vec.Iter.{into_iter_items}
use Rattle.resp_connect.specs.Greeting.{verdict, refusals}
use Rattle.resp_connect.proofs.Greetings.{no_replies}
use Rattle.resp_connect.proofs.Working.{no_elements}
use Rattle.resp_connect.proofs.greeting.accept.Goals as goal

pub returns : goal.returns
returns c =
    let count : length (into_iter_items c.loop-reply.reply-iterator) ≡ 0 = search rules in
    let none = no_elements _ count in
    let left = iter_rest c.loop-reply.asked in
    ap (verdict (tt {0})) (sym (no_replies left) ∙ ap (refusals left) (sym none) ∙ c.loop-reply.invariant.2)
