-- What contracts see of a link, and of what comes in over it, read from their parts: `source` says
-- what is known of a source, and `sink` of a sink.
use Rattle.resp_parse.specs.Source.{Source}
use Rattle.resp_command.specs.Connection.{Connection}
use Rattle.resp_link.specs.Sink.{Sink}
use Rattle.resp_link.specs.Receiving.{Inflow, inflow_of}
use Rattle.resp_link.specs.Linking.{connection_of}
use Rattle.resp_link.specs.declared.inbox.Inbox.{Inbox}
use Rattle.resp_link.specs.declared.link.ByteLink.{ByteLink}

abbrev pub inflow_at : {S : Type 0} → (S → Source) → Inbox S → Inflow
inflow_at source inbox = inflow_of inbox.parser (source inbox.source) inbox.pushes.list.items inbox.pushes.bytes

abbrev pub connection_at : {S K : Type 0} → (S → Source) → (K → Sink) → ByteLink S K → Connection
connection_at source sink link =
    connection_of (inflow_at source link.inbox) (sink link.sink) link.broken
