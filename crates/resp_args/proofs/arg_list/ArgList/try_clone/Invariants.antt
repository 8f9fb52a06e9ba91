use Rattle.std.proofs.Common.{◌≡◌, take}
use Rattle.resp_args.specs.Args.{args_of}
use Rattle.resp_args.proofs.arg_list.ArgList.try_clone.Given as goal

abbrev pub invariant-loop-arg : goal.invariant-loop-arg
invariant-loop-arg l = args_of l.args.items ≡ args_of (take l.arg-index l.arg-items)
