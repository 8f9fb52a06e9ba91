use Rattle.std.proofs.Common.{rules}
use Rattle.resp_args.proofs.ReplacedArg.{replaced}
use Rattle.resp_args.proofs.arg_list.ArgList.replace.Goals as goal

pub returns-then-index-len : goal.returns-then-index-len
returns-then-index-len c = search (rules, replaced)
