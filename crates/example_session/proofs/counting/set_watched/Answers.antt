use Rattle.std.proofs.Common.{refl, to_z-of_z}
use Rattle.example_session.proofs.Done.{done}
use Rattle.example_session.proofs.counting.set_watched.Goals as goal

pub returns-in-Some : goal.returns-in-Some
returns-in-Some g c = done _ _ _ _ _ _ c.in-Some.field-0 refl c.in-Some.is
    (rw (to_z-of_z c.ranges.number) at c.in_ok-set.ensures)
