use Rattle.std.proofs.Common.{◌<◌, ◌++◌, ◌-◌, ◌∙◌, ap, arith, length, Result, Ok, Err}
use Rattle.std.proofs.lemmas.List.{length-map}
use Rattle.std.specs.Result.{OnErr}
use Rattle.resp_args.proofs.GrowingArgs.{args_of-set_last, args_of-set_same}
use Rattle.resp_args.proofs.write.VecVecU8RedisWrite.extend_arg.Goals as goal

at_err : {A E : Type 0} {P : Type 0} (r : Result A E) → P → OnErr r P
at_err (Ok x) p = tt
at_err (Err e) p = p

pub returns-in_err-extend_from_slice-clause-err : goal.returns-in_err-extend_from_slice-clause-err
returns-in_err-extend_from_slice-clause-err c =
    let vs = c.args.self.now.items in
    let some : 0 < length vs = omega (arith, length-map vs (λ v. v.items), c.requires) in
    at_err _ (args_of-set_same vs (c.len-last.result - 1) c.extend_from_slice.new.self c.index_mut.result.now
    (omega arith) (c.in_err-extend_from_slice.ensures.items ∙ ap (λ v. v.items) c.index_mut.ensures.value))

pub returns-clause-ok : goal.returns-clause-ok
returns-clause-ok c =
    let vs = c.args.self.now.items in
    let some : 0 < length vs = omega (arith, length-map vs (λ v. v.items), c.requires) in
    args_of-set_last vs (c.len-last.result - 1) c.extend_from_slice.new.self c.index_mut.result.now c.args.more.now
    (omega arith) (c.in_ok-extend_from_slice.ensures.items ∙ ap (λ v. v.items ++ c.args.more.now)
    c.index_mut.ensures.value)
