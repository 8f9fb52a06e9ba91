-- The names of commands and subcommands, as errors have them.
use Rattle.std.specs.Prelude.{ℕ, List, codes}
use Rattle.example_server.specs.declared.names.CommandName.{CommandName}
use Rattle.example_server.specs.declared.names.CommandName.TheVariants as name

-- the name, in lower case
abbrev pub text_of : CommandName → List ℕ
text_of name.Ping = codes "ping"
text_of name.Echo = codes "echo"
text_of name.Hello = codes "hello"
text_of name.Select = codes "select"
text_of name.Client = codes "client"
text_of name.ClientId = codes "client|id"
text_of name.ClientGetName = codes "client|getname"
text_of name.ClientSetName = codes "client|setname"
text_of name.ClientSetInfo = codes "client|setinfo"
text_of name.Command = codes "command"
text_of name.CommandDocs = codes "command|docs"
text_of name.Get = codes "get"
text_of name.Set = codes "set"
text_of name.Del = codes "del"
text_of name.Exists = codes "exists"
text_of name.Incr = codes "incr"
text_of name.Expire = codes "expire"
text_of name.HSet = codes "hset"
text_of name.HGetAll = codes "hgetall"
text_of name.Multi = codes "multi"
text_of name.Exec = codes "exec"
text_of name.Discard = codes "discard"
text_of name.Quit = codes "quit"
