-- What a link over a source and a sink is as a connection.
use Rattle.std.specs.Prelude.{◌≡◌, Bool, true, false}
use Rattle.resp_link.specs.Sink.{Sink}
use Rattle.resp_parse.specs.State.{State, IsBetweenValues}
use Rattle.resp_command.specs.Connection.{Connection, stays}
use Rattle.resp_link.specs.Receiving.{Inflow, read_size}

-- what comes in, what goes out, and whether the link is broken
abbrev pub connection_of : Inflow → Sink → Bool → Connection
connection_of inflow sink broken = record {
  pipelines = true;
  sent = sink.sent;
  came = inflow.came;
  unflushed = sink.unflushed;
  received = inflow.received;
  pushes = inflow.pushes;
  push_bytes = inflow.push_bytes;
  broken = broken;
  policy = stays;
  limits = inflow.limits;
  read_size = read_size;
  source_failures = inflow.failures;
  sink_failures = sink.failures;
  to_come = inflow.to_come;
  holds = sink.holds;
}

-- the parser of a link stands between values, unless the link is broken
abbrev pub BetweenUnless : Bool → State → Type 0
BetweenUnless broken parser = broken ≡ false → IsBetweenValues parser
