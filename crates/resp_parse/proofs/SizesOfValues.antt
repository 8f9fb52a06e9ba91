-- A value is built of at most one third as many values as it has bytes.
use Rattle.std.proofs.Common.{◌≡◌, ℕ, zero, suc, ◌+◌, ◌*◌, ◌≤◌, List, [], ◌∷◌, ◌++◌, length, ap, ◌∙◌, arith}
use Rattle.std.proofs.lemmas.Grind.{common_steps}
use Rattle.std.proofs.lemmas.List.Sums.{sum_by-cons}
use Rattle.resp_value.specs.declared.value.Value.{Value}
use Rattle.resp_parse.specs.Lines.{crlf}
use Rattle.resp_parse.specs.TypeBytes.{byte_of}
use Rattle.resp_parse.specs.Grammar.{Announcement, complete, body, elements, invalid, announced, Joined, Follows}
use Rattle.resp_parse.specs.Grammar.{WellFormed}
use Rattle.resp_parse.specs.Built.{built}
use Rattle.resp_parse.specs.Costs.{built_of}
use Rattle.resp_parse.proofs.Sizes.{Small, announced-small}

-- what P says of bytes, they are enough for
abbrev IsSmallOf : (List ℕ → Value → Type 0) → Type 0
IsSmallOf P = (b : List ℕ) (v : Value) → P b v → 3 * built v ≤ length b

length-joined : (b first others : List ℕ) → b ≡ first ++ others → length b ≡ length first + length others
length-joined b first others e = ap length e ∙ grind (arith, common_steps)

joined-pay : (P : List ℕ → Value → Type 0) → IsSmallOf P → (b : List ℕ) (vs : List Value) → Joined P b vs
    → 3 * built_of vs ≤ length b
joined-pay P cost b [] j = omega arith
joined-pay P cost b (v ∷ vs) j =
    let first : 3 * built v ≤ length j.first = cost j.first v j.first_is in
    let later : 3 * built_of vs ≤ length j.others = joined-pay P cost j.others vs j.others_are in
    omega (arith, first, later, length-joined b j.first j.others j.whole, sum_by-cons built v vs)

-- with its header, of three bytes at least
follows-pay : (P : List ℕ → Value → Type 0) → IsSmallOf P → (a : Announcement) → Small a → (rest : List ℕ) (v : Value)
    → Follows P a rest v → 3 * built v ≤ 3 + length rest
follows-pay P cost (complete w) s rest v (e, f) = rw f (omega (arith, s))
follows-pay P cost (body n make) s rest v h = omega (arith, s h.content v h.makes)
follows-pay P cost (elements n make) s rest v h = omega
    (arith, s h.values v h.size h.makes, joined-pay P cost rest h.values h.joined)
follows-pay P cost (invalid f) s rest v h = absurd h

length-header : (c : ℕ) (b text rest : List ℕ) → b ≡ c ∷ (text ++ (crlf ++ rest)) → 3 + length rest ≤ length b
length-header c b text rest e =
    let l : length b ≡ length (c ∷ (text ++ (crlf ++ rest))) = ap length e in grind (arith, common_steps)

pub law_of_sizes : (d : ℕ) (b : List ℕ) (v : Value) → WellFormed d b v → 3 * built v ≤ length b
law_of_sizes zero b v g = absurd g
law_of_sizes (suc d) b v g =
    let h : 3 * built v ≤ 3 + length g.rest = follows-pay (WellFormed d) (law_of_sizes d) (announced g.kind g.text)
    (announced-small g.kind g.text) g.rest v g.follows in
    omega (arith, h, length-header (byte_of g.kind) b g.text g.rest g.header.bytes)
