use Rattle.std.proofs.Common.{rules}
use Rattle.resp_parse.specs.TypeBytes.{type_of}
use Rattle.resp_parse.proofs.type_byte.TypeByte.from_byte.Goals as goal

pub returns-in-40 : goal.returns-in-40
unfolding type_of
returns-in-40 c = search rules
