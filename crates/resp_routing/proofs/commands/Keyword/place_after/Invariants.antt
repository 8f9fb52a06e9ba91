use Rattle.std.proofs.Common.{◌≡◌, ◌-◌, drop, take, length}
use Rattle.std.specs.List.{position_from}
use Rattle.std.specs.Str.{str_eq_ignore_ascii_case}
use Rattle.resp_routing.specs.Commands.{words}
use Rattle.resp_routing.specs.Keys.{word_text}
use Rattle.resp_routing.proofs.commands.Keyword.place_after.Given as goal

abbrev pub invariant-loop-place : goal.invariant-loop-place
invariant-loop-place l =
    position_from (str_eq_ignore_ascii_case (word_text l.self)) l.place (drop l.place (take (length (words l.args) - 1) (words l.args)))
    ≡ position_from (str_eq_ignore_ascii_case (word_text l.self)) l.from (drop l.from (take (length (words l.args) - 1) (words l.args)))
