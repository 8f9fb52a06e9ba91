use Rattle.std.proofs.Common.{rules, ◌≡◌, ◌*◌, Some, arith}
use Rattle.resp_args.specs.declared.options.ProtocolVersion.TheVariants.{RESP2}
use Rattle.resp_encode.proofs.AppendedTexts.{appends_nothing, appends_refused}
use Rattle.resp_encode.proofs.FlatParts.{too_many}
use Rattle.resp_encode.proofs.flat.write_map_count.Goals as goal

pub returns-in-None-checked_mul : goal.returns-in-None-checked_mul
returns-in-None-checked_mul c =
    let sent : c.args.sent ≡ Some RESP2 = search rules in
    rw sent (appends_refused _ _ (too_many 42 (2 * c.args.size)
    (λ less. c.in-None-checked_mul.ensures (omega (arith, less)))))

pub returns-in-None : goal.returns-in-None
returns-in-None c = rw (c.in-None.is) (appends_nothing _)
