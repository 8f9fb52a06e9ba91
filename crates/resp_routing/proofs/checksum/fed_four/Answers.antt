use Rattle.std.proofs.Common.{refl, arith, get_or, []}
use Rattle.resp_routing.specs.Checksums.{times_power}
use Rattle.resp_routing.specs.declared.remainder_tables.TheConstants.{REMAINDERS}
use Rattle.resp_routing.proofs.Remainders.{by_tables}
use Rattle.resp_routing.proofs.checksum.fed_four.Goals as goal

pub returns : goal.returns
unfolding times_power
returns c =
    by_tables (get_or REMAINDERS 0 []) (get_or REMAINDERS 1 []) (get_or REMAINDERS 2 []) (get_or REMAINDERS 3 [])
    c.args.register c.args.a c.args.b c.args.c c.args.d
    c.from-3.result c.from-4.result c.from-5.result c.from-6.result refl refl refl refl
    (omega arith) (omega arith) (omega arith) (omega arith) (omega arith)
    (grind (arith, c.from-3.ensures, c.from.ensures)) (grind (arith, c.from-4.ensures, c.from-2.ensures))
    c.from-5.ensures c.from-6.ensures
