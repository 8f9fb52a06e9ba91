use Rattle.std.proofs.Common.{rules}
use Rattle.resp_from.proofs.maps.set_of.Goals as goal

pub returns-in-Ok : goal.returns-in-Ok
returns-in-Ok g c = let held = c.set_of_elements.ensures.converts c.in-Ok.items.items (search rules) in search rules
