use Rattle.std.proofs.Common.{◌≡◌, ℕ, ◌<◌, ◌≤◌, ◌+◌, ◌*◌, ◌%◌, ◌^◌, List, get_or, drop, length, arith, sym, ap, ◌∙◌}
use Rattle.std.proofs.lemmas.List.{drop_more}
use Rattle.std.proofs.Math.ListN.{drop_of_length-le}
use Rattle.resp_routing.specs.Places.{hash_on}
use Rattle.resp_routing.proofs.places.hash_on.Goals as goal

one_more : (text : List ℕ) (i hash low all : ℕ) → i < length text → low ≡ get_or text i 0 % 32
    → hash_on hash (drop i text) ≡ all → hash_on ((hash * 17 % 2 ^ 64 + low) % 2 ^ 64) (drop (i + 1) text) ≡ all
unfolding hash_on
one_more text i hash low all p is held =
    ap (λ l. hash_on ((hash * 17 % 2 ^ 64 + l) % 2 ^ 64) (drop (i + 1) text)) is
    ∙ sym (ap (hash_on hash) (drop_more text i 0 p)) ∙ held

at_end : (text : List ℕ) (i hash all : ℕ) → length text ≤ i → hash_on hash (drop i text) ≡ all → hash ≡ all
unfolding hash_on
at_end text i hash all past held = sym (ap (hash_on hash) (drop_of_length-le text past)) ∙ held

pub loop-byte-preserved : goal.loop-byte-preserved
loop-byte-preserved c = one_more c.args.text.now c.loop-byte.byte-index c.loop-byte.hash c.from.result _ c.loop-byte-test.true c.from.ensures
    c.loop-byte.invariant

pub returns : goal.returns
returns c = at_end c.args.text.now c.loop-byte.byte-index c.loop-byte.hash _ (omega (arith, c.loop-byte-test.false)) c.loop-byte.invariant
