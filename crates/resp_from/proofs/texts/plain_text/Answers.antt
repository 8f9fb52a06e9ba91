use Rattle.std.proofs.Common.{rules}
use Rattle.resp_from.proofs.texts.plain_text.Goals as goal

pub returns-in_ok-from_str-in-Okay : goal.returns-in_ok-from_str-in-Okay
returns-in_ok-from_str-in-Okay c = search rules
