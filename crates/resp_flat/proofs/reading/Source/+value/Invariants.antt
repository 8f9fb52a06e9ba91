use Rattle.std.proofs.Common.{◌*◌, ◌+◌, ◌-◌, ◌≡◌}
use Rattle.resp_flat.specs.Reading.{next_value, next_values, next_pairs}
use Rattle.resp_flat.proofs.ReadSteps.{continued}
use Rattle.resp_flat.proofs.reading.Source.+value.Given as goal

abbrev pub decreases-value : goal.decreases-value
decreases-value l = 4 * l.levels

abbrev pub decreases-values : goal.decreases-values
decreases-values l = 4 * l.levels + 1

abbrev pub decreases-pairs : goal.decreases-pairs
decreases-pairs l = 4 * l.levels + 1

abbrev pub decreases-attribute : goal.decreases-attribute
decreases-attribute l = 4 * l.levels + 2

abbrev pub decreases-push : goal.decreases-push
decreases-push l = 4 * l.levels + 2

abbrev pub decreases-after_token : goal.decreases-after_token
decreases-after_token l = 4 * l.levels + 3

abbrev pub invariant-values-loop : goal.invariant-values-loop
invariant-values-loop l =
    next_values (next_value l.self.text.now l.levels) l.count l.fn.place.tokens.now l.fn.place.at
    ≡ continued l.values (next_values (next_value l.self.text.now l.levels) (l.count - l.counter) l.place.tokens.now
    l.place.at)

abbrev pub invariant-pairs-loop : goal.invariant-pairs-loop
invariant-pairs-loop l =
    next_pairs (next_value l.self.text.now l.levels) l.count l.fn.place.tokens.now l.fn.place.at
    ≡ continued l.pairs (next_pairs (next_value l.self.text.now l.levels) (l.count - l.counter) l.place.tokens.now
    l.place.at)
