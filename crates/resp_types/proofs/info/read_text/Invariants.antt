use Rattle.std.specs.Str.Iter.{lines_rest}
use Rattle.resp_types.proofs.Entries.{ReadSoFar}
use Rattle.resp_types.proofs.info.read_text.Given as goal

abbrev pub invariant-loop-line : goal.invariant-loop-line
invariant-loop-line l = ReadSoFar l.text (lines_rest l.line-iterator) l.map.entries
