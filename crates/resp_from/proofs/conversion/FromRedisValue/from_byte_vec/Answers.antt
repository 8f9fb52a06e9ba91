use Rattle.std.proofs.Common.{◌≡◌, true, rules, subst, sym}
use Rattle.resp_from.specs.Conversion.{ConvertsList}
use Rattle.resp_from.specs.Rules.{OfBytes}
use Rattle.resp_from.proofs.conversion.FromRedisValue.from_byte_vec.Goals as goal

pub returns-then-BYTES : goal.returns-then-BYTES
returns-then-BYTES g c =
    let each : g.Self.FromRedisValue.BYTES ≡ true = search rules in
    record {
      converts = subst (λ b. ConvertsList (OfBytes b g.Self.FromRedisValue.of_value c.args.bytes.items)
          c.convert_bytes.result) (sym each) c.convert_bytes.ensures.converts;
    }

pub returns : goal.returns
returns g c = search rules
