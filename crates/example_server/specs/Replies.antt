-- What is sent for an answer.
use Rattle.std.specs.Prelude.{ℕ, ◌-◌, ◌^◌, min, pos, List, [], ◌∷◌, map, codes, Some, None}
use Rattle.resp_core.specs.declared.ProtocolVersion.{ProtocolVersion}
use Rattle.resp_core.specs.declared.ProtocolVersion.TheVariants.{RESP2, RESP3}
use Rattle.resp_value.specs.declared.value.Value.{Value, Nil, Okay, Int, SimpleString, BulkString, Array, Map}
use Rattle.example_server.specs.Refusals.{error_of}
use Rattle.example_server.specs.declared.reply.Answer.{Answer}
use Rattle.example_server.specs.declared.reply.Answer.TheVariants as answer
use Rattle.example_server.specs.declared.reply.Reply.{Reply}
use Rattle.example_server.specs.declared.reply.Reply.TheVariants as reply

-- the number of a version
abbrev pub number_of : ProtocolVersion → ℕ
number_of RESP2 = 2
number_of RESP3 = 3

-- a count, as far as 64 bits with a sign have it
abbrev pub count_value : ℕ → Value
count_value count = Int (pos (min count (2 ^ 63 - 1)))

-- a field and its value
abbrev pub pair_value : List ℕ × List ℕ → Value × Value
pair_value pair = (BulkString pair.0, BulkString pair.1)

-- what the server says of itself
abbrev pub greeting_of : ProtocolVersion → Value
greeting_of version = Map (
    (BulkString (codes "server"), BulkString (codes "example_server"))
    ∷ (BulkString (codes "version"), BulkString (codes "7.0.15"))
    ∷ (BulkString (codes "proto"), Int (pos (number_of version)))
    ∷ (BulkString (codes "id"), Int (pos 1))
    ∷ (BulkString (codes "mode"), BulkString (codes "standalone"))
    ∷ (BulkString (codes "role"), BulkString (codes "master"))
    ∷ (BulkString (codes "modules"), Array [])
    ∷ [])

-- a reply as a value
abbrev pub value_of : Reply → Value
value_of reply.Pong = SimpleString (codes "PONG")
value_of reply.Okay = Okay
value_of (reply.Found (Some bytes)) = BulkString bytes
value_of (reply.Found None) = Nil
value_of (reply.Count count) = count_value count
value_of (reply.Integer number) = Int number
value_of (reply.Fields fields) = Map (map pair_value fields)
value_of (reply.Greeting version) = greeting_of version
value_of reply.NoCommands = Array []
value_of reply.NoDocuments = Map []
value_of (reply.Refused why) = error_of why

-- an answer as a value
abbrev pub answer_value : Answer → Value
answer_value (answer.Single one) = value_of one
answer_value answer.Queued = SimpleString (codes "QUEUED")
answer_value (answer.Several replies) = Array (map value_of replies)
