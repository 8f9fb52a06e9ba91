use Rattle.std.proofs.Common.{◌≡◌, ◌≤◌, ◌+◌, length, take}
use Rattle.std.specs.List.{suffix_len}
use Rattle.example_server.specs.ProtocolErrors.{is_line_end}
use Rattle.example_server.proofs.refusal.trimmed.Given as goal

abbrev pub invariant-loop-len : goal.invariant-loop-len
invariant-loop-len l = (l.len ≤ length l.line)
    × (l.len + suffix_len is_line_end l.line ≡ length l.line + suffix_len is_line_end (take l.len l.line))

abbrev pub decreases-loop-len : goal.decreases-loop-len
decreases-loop-len l = l.len
