use Rattle.resp_encode.proofs.FlatWhole.{flat_is, flat_only}
use Rattle.resp_encode.proofs.laws.law_of_flat_encoding.Goals as goal

pub returns-clause-value : goal.returns-clause-value
returns-clause-value c = flat_is

pub returns-clause-only : goal.returns-clause-only
returns-clause-only c = flat_only
