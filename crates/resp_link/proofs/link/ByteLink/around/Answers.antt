use Rattle.std.proofs.Common.{rules, refl, ◌≡◌, []}
use Rattle.resp_link.proofs.Receiving.{received_nothing}
use Rattle.resp_link.proofs.link.ByteLink.around.Goals as goal

pub returns : goal.returns
returns g c =
    let none : c.new.result.list.items ≡ [] = search rules in
    let none_counted : c.new.result.bytes ≡ 0 = search rules in
    rw (received_nothing c.args.parser c.requires.rest c.requires.empty, none, none_counted) refl
