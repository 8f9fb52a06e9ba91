use Rattle.std.proofs.Common.{◌≡◌, drop}
use Rattle.example_server.specs.Inline.{after, split, words_in}
use Rattle.example_server.proofs.inline.words.Given as goal

abbrev pub invariant-loop-at : goal.invariant-loop-at
invariant-loop-at l =
    after l.words.items l.word (split l.place l.skip (drop l.at l.line)) ≡ words_in l.fn.line
