use Rattle.std.proofs.Common.{refl, arith, get_or, []}
use Rattle.resp_routing.specs.Checksums.{times_power}
use Rattle.resp_routing.specs.declared.remainder_tables.TheConstants.{REMAINDERS}
use Rattle.resp_routing.proofs.Remainders.{by_table}
use Rattle.resp_routing.proofs.checksum.fed.Goals as goal

pub returns : goal.returns
unfolding times_power
returns c = by_table (get_or REMAINDERS 0 []) c.args.register c.args.byte c.from-2.result refl (omega arith) (omega arith) (grind (arith, c.from-2.ensures, c.from.ensures))
