-- Lemmas: a connection that reconnects doesn't route.
use Rattle.std.specs.Prelude.{◌≢◌, Option, None, Some}
use Rattle.resp_command.specs.Connection.{Connection, routes}
use Rattle.resp_command.specs.lemmas.Policies.{reconnects_unrouted}
use Rattle.resp_connect.specs.Reconnecting.{reconnecting}

pub never_routes : {L : Type 0} (of_link : L → Connection) (link : Option L)
    → (reconnecting of_link link).policy ≢ routes
never_routes of_link None = reconnects_unrouted
never_routes of_link (Some link) = reconnects_unrouted
