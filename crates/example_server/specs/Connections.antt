-- What the server answers to a command about the connection, and what it knows of it then.
use Rattle.std.specs.Prelude.{ℕ, List, [], ◌∷◌, Option, None, Some}
use Rattle.example_server.specs.declared.command.ConnectionCommand.{ConnectionCommand}
use Rattle.example_server.specs.declared.command.ConnectionCommand.TheVariants as command
use Rattle.example_server.specs.declared.connection.Connection.{Connection}
use Rattle.example_server.specs.declared.reply.Reply.{Reply}
use Rattle.example_server.specs.declared.reply.Reply.TheVariants as reply

-- HELLO chooses a version, if it names one, and CLIENT SETNAME a name
abbrev pub connection_after : Connection → ConnectionCommand → Connection
connection_after old (command.Hello (Some version)) = record old { protocol = version }
connection_after old (command.SetName name) = record old { name = name }
connection_after old _ = old

-- the name of the client, if it has one
abbrev pub shown_name : List ℕ → Option (List ℕ)
shown_name [] = None
shown_name (c ∷ cs) = Some (c ∷ cs)

abbrev pub connection_reply : Connection → ConnectionCommand → Reply
connection_reply old (command.Ping None) = reply.Pong
connection_reply old (command.Ping (Some message)) = reply.Found (Some message)
connection_reply old (command.Echo message) = reply.Found (Some message)
connection_reply old (command.Hello None) = reply.Greeting old.protocol
connection_reply old (command.Hello (Some version)) = reply.Greeting version
connection_reply old command.Select = reply.Okay
connection_reply old command.Id = reply.Count 1
connection_reply old command.GetName = reply.Found (shown_name old.name)
connection_reply old (command.SetName name) = reply.Okay
connection_reply old command.SetInfo = reply.Okay
connection_reply old command.Commands = reply.NoCommands
connection_reply old command.Documents = reply.NoDocuments
