use Rattle.std.proofs.Common.{rules}
use Rattle.resp_parse.proofs.reader_source.Reading.into_inner.Goals as goal

pub returns : goal.returns
returns g c = search rules
