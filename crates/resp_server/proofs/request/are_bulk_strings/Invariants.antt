use Rattle.std.proofs.Common.{◌≡◌, drop}
use Rattle.std.specs.List.{list_all}
use Rattle.resp_value.specs.Views.{is_bulk_string}
use Rattle.resp_server.proofs.request.are_bulk_strings.Given as goal

abbrev pub invariant-loop-word : goal.invariant-loop-word
invariant-loop-word l = list_all is_bulk_string l.fn.words ≡ list_all is_bulk_string (drop l.word-index l.words)
