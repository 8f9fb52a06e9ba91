use Rattle.std.proofs.Common.{List, ℕ, ◌+◌, ◌-◌, ◌*◌, Result}
use Rattle.resp_flat.specs.declared.token.Token.{Token}
use Rattle.resp_encode.specs.declared.write_error.WriteError.{WriteError}
use Rattle.resp_encode.specs.FlatEncoding.{values_in, AppendsRead}
use Rattle.resp_encode.proofs.flat.FlatText.+write_flat.Given as goal

abbrev pub decreases-write_next : goal.decreases-write_next
decreases-write_next g l = 8 * l.levels

abbrev pub decreases-write_values : goal.decreases-write_values
decreases-write_values g l = 8 * l.levels + 1

abbrev pub decreases-write_pairs : goal.decreases-write_pairs
decreases-write_pairs g l = 8 * l.levels + 2

abbrev pub decreases-write_array : goal.decreases-write_array
decreases-write_array g l = 8 * l.levels + 2

abbrev pub decreases-write_push : goal.decreases-write_push
decreases-write_push g l = 8 * l.levels + 2

abbrev pub decreases-write_map : goal.decreases-write_map
decreases-write_map g l = 8 * l.levels + 3

abbrev pub decreases-write_attributes : goal.decreases-write_attributes
decreases-write_attributes g l = 8 * l.levels + 3

abbrev pub decreases-write_attribute : goal.decreases-write_attribute
decreases-write_attribute g l = 8 * l.levels + 4

abbrev pub decreases-write_token : goal.decreases-write_token
decreases-write_token g l = 8 * l.levels + 5

abbrev pub invariant-write_values-loop : goal.invariant-write_values-loop
invariant-write_values-loop g l =
    let left = g.T.Tokens.left in
    (r : Result (Unit {0}) WriteError) (new : List ℕ) (ts : List Token) (at : ℕ)
    → AppendsRead r (values_in l.self.sent l.levels l.self.text.now (l.count - l.counter)
    (left l.place.tokens) l.place.at)
    l.out.items new ts at
    → AppendsRead r (values_in l.self.sent l.levels l.self.text.now l.count
    (left l.initial.place.tokens) l.initial.place.at)
    l.initial.out.items new ts at
