use Rattle.std.proofs.Common.{rules, refl}
use Rattle.resp_value.specs.MapIters.{owned_pairs_left}
use Rattle.resp_from.proofs.maps.map_of.Goals as goal

pub returns-in-Ok : goal.returns-in-Ok
returns-in-Ok g c = let held = c.map_of_pairs.ensures.converts (owned_pairs_left c.in-Ok.pairs) refl in search rules

pub returns-in-Err : goal.returns-in-Err
returns-in-Err g c = search rules
