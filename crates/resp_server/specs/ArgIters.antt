-- What the iterators over the words of a request have left.
use Rattle.std.specs.Prelude.{ℕ, List}
use Rattle.std.specs.Borrow.{Bor}
use Rattle.std.specs.Vec.Iter.{into_iter_items}
use Rattle.resp_args.specs.Args.{Args}
use Rattle.resp_server.specs.Requests.{words_of}
use Rattle.resp_server.specs.declared.args.RequestArgs.{RequestArgs}
use Rattle.resp_server.specs.declared.args.OwnedArgs.{OwnedArgs}

-- the arguments that are left
abbrev pub request_args_left : RequestArgs → Args
request_args_left it = words_of it.rest.now

-- the bytes that a borrowed argument refers to
abbrev pub referent : Bor (List ℕ) → List ℕ
referent arg = arg.now

-- the words that are left
abbrev pub owned_args_left : OwnedArgs → Args
owned_args_left it = words_of (into_iter_items it.rest)
