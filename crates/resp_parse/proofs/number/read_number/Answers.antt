use Rattle.std.proofs.Common.{◌∙◌, ap}
use Rattle.resp_parse.specs.Number.{number, plain_number}
use Rattle.resp_parse.proofs.Numerals.{plain_number-from_parse}
use Rattle.resp_parse.proofs.number.read_number.Goals as goal

pub returns : goal.returns
unfolding number
returns c = record {
  value = c.ok.ensures.value ∙ plain_number-from_parse c.trim.result.now _ c.parse.ensures.value.0 ∙
      ap plain_number c.trim.ensures.trim;
}
