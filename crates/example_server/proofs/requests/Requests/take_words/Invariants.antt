use Rattle.std.proofs.Common.{◌≡◌, List, ℕ}
use Rattle.example_server.specs.Requests.{in_array, pending}
use Rattle.example_server.proofs.requests.Requests.take_words.Given as goal

abbrev pub invariant-loop-self : goal.invariant-loop-self
invariant-loop-self l = (more : List ℕ) → in_array (pending l.self) more ≡ in_array (pending l.initial.self) more

abbrev pub decreases-loop-self : goal.decreases-loop-self
decreases-loop-self l = l.self.missing
