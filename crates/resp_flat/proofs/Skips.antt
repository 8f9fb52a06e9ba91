-- The tokens after a value are those after its own.
use Rattle.std.proofs.Common.{◌≡◌, ℕ, zero, suc, ◌+◌, ◌*◌, ◌<◌, ◌≤◌, ◌-◌, nat_le, min, Bool, true, false, List, [], ◌∷◌}
use Rattle.std.proofs.Common.{◌++◌, length, map, refl, sym, ap, subst, ◌∙◌, append_assoc, add-zero, arith}
use Rattle.std.proofs.lemmas.Bool.Decides.{nat_tests}
use Rattle.std.proofs.lemmas.List.{length-map}
use Rattle.resp_value.specs.declared.value.Value.{Value, map-Value, ind-Value, fold-roll-Value}
use Rattle.resp_value.specs.declared.value.Value.TheOpen.{Value-F}
use Rattle.resp_value.specs.Names.{name_of_push_kind}
use Rattle.resp_flat.specs.declared.token.Token.{Token}
use Rattle.resp_flat.specs.declared.token.TokenKind.TheVariants as kind
use Rattle.resp_flat.specs.FlatReplies.{sized, placed, joined, joined_pairs, tokens_step, tokens_of, tokens_of_pair}
use Rattle.resp_flat.specs.FlatValues.{part_count, after_values}
use Rattle.resp_flat.proofs.TokenSizes.{total, placed-append}

abbrev Tokens : Type 0
Tokens = List Token

-- ---- counts that stop at the largest number

none-left : (n : ℕ) (ts : Tokens) → length ts ≤ n → after_values n ts ≡ []
none-left zero [] all = refl
none-left (suc n) [] all = refl
none-left zero (t ∷ ts) all = absurd (omega arith)
none-left (suc n) (t ∷ ts) all = none-left (n + part_count t.kind t.size) ts (omega arith)

pub capped : (n most : ℕ) (ts : Tokens) → length ts ≤ most → after_values (min n most) ts ≡ after_values n ts
capped n most ts short = by (nat_le n most) refl
  where
    by : (b : Bool) → nat_le n most ≡ b → after_values (min n most) ts ≡ after_values n ts
    by true e =
        let below : n ≤ most = grind (arith, nat_tests, e) in
        let same : min n most ≡ n = omega arith in ap (λ (k : ℕ). after_values k ts) same
    by false e =
        let above : most < n = grind (arith, nat_tests, e) in
        let same : min n most ≡ most = omega arith in
        ap (λ (k : ℕ). after_values k ts) same ∙ none-left most ts short ∙ sym (none-left n ts (omega arith))

-- one token further, where each count stops at the largest number
pub token_on : (values m most : ℕ) (rest others : Tokens) (t : Token) → rest ≡ t ∷ others → 0 < values
    → length others ≤ most → m ≡ min (part_count t.kind t.size) most
    → after_values values rest ≡ after_values (min ((values - 1) + m) most) others
token_on values m most rest others t is some short parts =
    let n = part_count t.kind t.size in
    let before : values ≡ suc (values - 1) = omega arith in
    let sum : min ((values - 1) + m) most ≡ min ((values - 1) + n) most = omega arith in
    ap (λ (k : ℕ). after_values k rest) before ∙ ap (λ (ts : Tokens). after_values (suc (values - 1)) ts) is
    ∙ sym (capped ((values - 1) + n) most others short) ∙ ap (λ (k : ℕ). after_values k others) (sym sum)

-- ---- values

abbrev Skips : Tokens → Type 0
Skips ts = (m at : ℕ) (rest : Tokens) → after_values (suc m) (placed at ts ++ rest) ≡ after_values m rest

abbrev tokens_form : Value-F Value → Tokens
tokens_form x = tokens_step (map-Value Value Tokens tokens_of x)

abbrev Skipped : Type 0
Skipped = (v : Value) × Skips (tokens_of v)

abbrev value_in : Skipped → Value
value_in p = p.0

abbrev pair_in : Skipped × Skipped → Value × Value
pair_in p = (p.0.0, p.1.0)

-- two that follow each other
pub apart : (at : ℕ) (ts us rest : Tokens) → placed at (ts ++ us) ++ rest ≡ placed at ts
    ++ (placed (at + total ts) us ++ rest)
apart at ts us rest = ap (λ (ms : Tokens). ms ++ rest) (placed-append at ts us)
    ∙ append_assoc (placed at ts) (placed (at + total ts) us) rest

skips-values : (ps : List Skipped) (m at : ℕ) (rest : Tokens)
    → after_values (m + length ps) (placed at (joined (map tokens_of (map value_in ps))) ++ rest) ≡ after_values m rest
skips-values [] m at rest = ap (λ (k : ℕ). after_values k rest) (add-zero m)
skips-values (p ∷ ps) m at rest =
    let others = joined (map tokens_of (map value_in ps)) in
    let more : m + suc (length ps) ≡ suc (m + length ps) = omega arith in
    ap (λ (k : ℕ). after_values k (placed at (tokens_of p.0 ++ others) ++ rest)) more
    ∙ ap (λ (ts : Tokens). after_values (suc (m + length ps)) ts) (apart at (tokens_of p.0) others rest)
    ∙ p.1 (m + length ps) at _ ∙ skips-values ps m _ rest

skips-pairs : (ps : List (Skipped × Skipped)) (m at : ℕ) (rest : Tokens)
    → after_values (m + 2 * length ps) (placed at (joined_pairs (map tokens_of_pair (map pair_in ps))) ++ rest)
    ≡ after_values m rest
skips-pairs [] m at rest = ap (λ (k : ℕ). after_values k rest) (add-zero m)
skips-pairs (p ∷ ps) m at rest =
    let others = joined_pairs (map tokens_of_pair (map pair_in ps)) in
    let more : m + 2 * suc (length ps) ≡ suc (suc (m + 2 * length ps)) = omega arith in
    let key = tokens_of p.0.0 in
    let value = tokens_of p.1.0 in
    ap (λ (k : ℕ). after_values k (placed at (key ++ (value ++ others)) ++ rest)) more
    ∙ ap (λ (ts : Tokens). after_values (suc (suc (m + 2 * length ps))) ts) (apart at key (value ++ others) rest)
    ∙ p.0.1 (suc (m + 2 * length ps)) at _
    ∙ ap (λ (ts : Tokens). after_values (suc (m + 2 * length ps)) ts) (apart (at + total key) value others rest)
    ∙ p.1.1 (m + 2 * length ps) _ _ ∙ skips-pairs ps m _ rest

-- a leaf
one-token : (m : ℕ) (rest : Tokens) → after_values (m + 0) rest ≡ after_values m rest
one-token m rest = ap (λ (k : ℕ). after_values k rest) (add-zero m)

-- as many as there are lists of tokens of them
counted : {A B C : Type 0} (f : A → B) (g : B → C) (xs : List A) → length (map g (map f xs)) ≡ length xs
counted f g xs = length-map (map f xs) g ∙ length-map xs f

layer-skips : (layer : Value-F Skipped) → Skips (tokens_form (map-Value Skipped Value value_in layer))
layer-skips Value-F.Nil m at rest = one-token m rest
layer-skips Value-F.Okay m at rest = one-token m rest
layer-skips (Value-F.Int n) m at rest = one-token m rest
layer-skips (Value-F.SimpleString text) m at rest = one-token m rest
layer-skips (Value-F.BulkString bytes) m at rest = one-token m rest
layer-skips (Value-F.ServerError error) m at rest = one-token m rest
layer-skips (Value-F.Boolean truth) m at rest = one-token m rest
layer-skips (Value-F.Double text) m at rest = one-token m rest
layer-skips (Value-F.BigNumber bytes) m at rest = one-token m rest
layer-skips (Value-F.VerbatimString format text) m at rest = one-token m rest
layer-skips (Value-F.Array ps) m at rest =
    ap (λ (k : ℕ). after_values (m + k) (placed (at + 0) (joined (map tokens_of (map value_in ps))) ++ rest))
    (counted value_in tokens_of ps) ∙ skips-values ps m (at + 0) rest
layer-skips (Value-F.Set ps) m at rest =
    ap (λ (k : ℕ). after_values (m + k) (placed (at + 0) (joined (map tokens_of (map value_in ps))) ++ rest))
    (counted value_in tokens_of ps) ∙ skips-values ps m (at + 0) rest
layer-skips (Value-F.Map ps) m at rest =
    ap (λ (k : ℕ). after_values (m + 2 * k)
    (placed (at + 0) (joined_pairs (map tokens_of_pair (map pair_in ps))) ++ rest))
    (counted pair_in tokens_of_pair ps) ∙ skips-pairs ps m (at + 0) rest
layer-skips (Value-F.Attribute p ps) m at rest =
    let pairs = joined_pairs (map tokens_of_pair (map pair_in ps)) in
    let more : m + (2 * length ps + 1) ≡ suc m + 2 * length ps = omega arith in
    ap (λ (k : ℕ). after_values (m + (2 * k + 1)) (placed (at + 0) (pairs ++ tokens_of p.0) ++ rest))
    (counted pair_in tokens_of_pair ps)
    ∙ ap (λ (k : ℕ). after_values k (placed (at + 0) (pairs ++ tokens_of p.0) ++ rest)) more
    ∙ ap (λ (ts : Tokens). after_values (suc m + 2 * length ps) ts) (apart (at + 0) pairs (tokens_of p.0) rest)
    ∙ skips-pairs ps (suc m) (at + 0) _ ∙ p.1 m _ rest
layer-skips (Value-F.Push k ps) m at rest =
    let name = length (name_of_push_kind k) in
    let more : (m + suc (length ps)) ≡ suc (m + length ps) = omega arith in
    let others = placed (at + 0 + name) (joined (map tokens_of (map value_in ps))) ++ rest in
    ap (λ (k : ℕ). after_values (m + suc k)
    (placed (at + 0) (joined ((sized kind.BulkString name ∷ []) ∷ map tokens_of (map value_in ps))) ++ rest))
    (counted value_in tokens_of ps)
    ∙ ap (λ (k : ℕ). after_values k
    (placed (at + 0) (joined ((sized kind.BulkString name ∷ []) ∷ map tokens_of (map value_in ps))) ++ rest)) more
    ∙ one-token (m + length ps) others ∙ skips-values ps m (at + 0 + name) rest

pub skips : (v : Value) → Skips (tokens_of v)
skips = ind-Value (λ v. Skips (tokens_of v)) (λ x layer e m at rest.
    ap (λ (ts : Tokens). after_values (suc m) (placed at ts ++ rest)) (fold-roll-Value Tokens tokens_step x)
    ∙ subst (λ (y : Value-F Value). after_values (suc m) (placed at (tokens_form y) ++ rest) ≡ after_values m rest) e
    (layer-skips layer m at rest))
