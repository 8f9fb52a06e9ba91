-- Lemmas: who stays with a link, or reconnects, doesn't route.
use Rattle.std.specs.Prelude.{◌≢◌}
use Rattle.resp_command.specs.Connection.{stays, reconnects, routes}

pub stays_unrouted : stays ≢ routes
stays_unrouted e = cc

pub reconnects_unrouted : reconnects ≢ routes
reconnects_unrouted e = cc
