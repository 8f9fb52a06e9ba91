use Rattle.std.proofs.Common.{rules}
use Rattle.resp_link.proofs.writer_sink.count_failure.Goals as goal

pub returns : goal.returns
returns c = search rules
