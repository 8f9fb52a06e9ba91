use Rattle.std.proofs.Common.{rules}
use Rattle.resp_connect.proofs.greeting.RedisErrorFromGreetingError.from.Goals as goal

pub returns-in-Refused : goal.returns-in-Refused
returns-in-Refused c = search rules
