-- A value has at most two tokens for each value that it is built of.
use Rattle.std.proofs.Common.{◌≡◌, ℕ, ◌+◌, ◌*◌, ◌≤◌, List, [], ◌∷◌, ◌++◌, length, map, ap, subst, arith}
use Rattle.std.proofs.lemmas.List.{length-append}
use Rattle.std.proofs.lemmas.List.Sums.{sum_by-cons, sum-map}
use Rattle.resp_value.specs.declared.value.Value.{Value, map-Value, ind-Value, fold-roll-Value}
use Rattle.resp_value.specs.declared.value.Value.TheOpen.{Value-F}
use Rattle.resp_flat.specs.declared.token.Token.{Token}
use Rattle.resp_flat.specs.FlatReplies.{joined, joined_pairs, tokens_step, tokens_of, tokens_of_pair}
use Rattle.resp_parse.specs.Built.{sum_of_pairs, built_step, built}
use Rattle.resp_parse.specs.Costs.{built_of}
use Rattle.resp_parse.proofs.BuiltOf.{built_pair}

abbrev tokens_form : Value-F Value → List Token
tokens_form x = tokens_step (map-Value Value (List Token) tokens_of x)

abbrev built_form : Value-F Value → ℕ
built_form x = built_step (map-Value Value ℕ built x)

-- a value whose tokens are few
abbrev Few : Type 0
Few = (v : Value) × (length (tokens_of v) ≤ 2 * built v)

abbrev value_in : Few → Value
value_in p = p.0

abbrev pair_in : Few × Few → Value × Value
pair_in p = (p.0.0, p.1.0)

both : (xs ys : List Token) (n m : ℕ) → length xs ≤ 2 * n → length ys ≤ 2 * m → length (xs ++ ys) ≤ 2 * (n + m)
both xs ys n m g h = let e : length (xs ++ ys) ≡ length xs + length ys = length-append xs ys in omega (arith, e, g, h)

elements-few : (ps : List Few) → length (joined (map tokens_of (map value_in ps))) ≤ 2 * built_of (map value_in ps)
elements-few [] = omega arith
elements-few (p ∷ ps) =
    let h = both (tokens_of p.0) _ (built p.0) (built_of (map value_in ps)) p.1 (elements-few ps) in
    omega (arith, h, sum_by-cons built p.0 (map value_in ps))

pairs-few : (ps : List (Few × Few)) → length (joined_pairs (map tokens_of_pair (map pair_in ps))) ≤ 2 * sum_of_pairs
    (map built_pair (map pair_in ps))
pairs-few [] = omega arith
pairs-few (p ∷ ps) =
    let one = both _ _ _ _ p.1.1 (pairs-few ps) in
    let two = both (tokens_of p.0.0) _ (built p.0.0) (built p.1.0 + sum_of_pairs (map built_pair (map pair_in ps)))
    p.0.1 one in
    omega (arith, two)

layer-few : (layer : Value-F Few) → length (tokens_form (map-Value Few Value value_in layer)) ≤ 2 * built_form
    (map-Value Few Value value_in layer)
layer-few Value-F.Nil = omega arith
layer-few Value-F.Okay = omega arith
layer-few (Value-F.Int n) = omega arith
layer-few (Value-F.SimpleString text) = omega arith
layer-few (Value-F.BulkString bytes) = omega arith
layer-few (Value-F.Array ps) = omega (arith, elements-few ps, sum-map built (map value_in ps))
layer-few (Value-F.Map ps) = omega (arith, pairs-few ps)
layer-few (Value-F.Attribute p ps) = omega (arith, both _ _ _ _ (pairs-few ps) p.1)
layer-few (Value-F.ServerError e) = omega arith
layer-few (Value-F.Boolean truth) = omega arith
layer-few (Value-F.Double text) = omega arith
layer-few (Value-F.BigNumber bytes) = omega arith
layer-few (Value-F.Set ps) = omega (arith, elements-few ps, sum-map built (map value_in ps))
layer-few (Value-F.VerbatimString format text) = omega arith
layer-few (Value-F.Push kind ps) = omega (arith, elements-few ps, sum-map built (map value_in ps))

pub few : (v : Value) → length (tokens_of v) ≤ 2 * built v
few = ind-Value (λ v. length (tokens_of v) ≤ 2 * built v) (λ x layer e.
    let h : length (tokens_form x) ≤ 2 * built_form x = subst
    (λ (y : Value-F Value). length (tokens_form y) ≤ 2 * built_form y) e (layer-few layer) in
    let t = ap length (fold-roll-Value (List Token) tokens_step x) in
    let b = fold-roll-Value ℕ built_step x in
    omega (arith, h, t, b))

pub elements-tokens : (vs : List Value) → length (joined (map tokens_of vs)) ≤ 2 * built_of vs
elements-tokens [] = omega arith
elements-tokens (v ∷ vs) =
    let e = length-append (tokens_of v) (joined (map tokens_of vs)) in
    omega (arith, e, few v, elements-tokens vs, sum_by-cons built v vs)
