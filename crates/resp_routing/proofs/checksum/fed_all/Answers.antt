use Rattle.std.proofs.Common.{◌≡◌, ℕ, ◌<◌, ◌+◌, List, get_or, drop, length, arith, sym, ap, ◌∙◌}
use Rattle.std.proofs.lemmas.List.{drop_more}
use Rattle.std.proofs.Math.ListN.{drop_of_length-le}
use Rattle.resp_routing.specs.Checksums.{after_byte, after_bytes}
use Rattle.resp_routing.proofs.checksum.fed_all.Goals as goal

one_more : (bytes : List ℕ) (i before after all : ℕ) → i < length bytes → after_bytes before (drop i bytes) ≡ all
    → after ≡ after_byte before (get_or bytes i 0) → after_bytes after (drop (i + 1) bytes) ≡ all
unfolding after_bytes
one_more bytes i before after all p held is =
    ap (λ r. after_bytes r (drop (i + 1) bytes)) is
    ∙ sym (ap (after_bytes before) (drop_more bytes i 0 p)) ∙ held

at_end : (bytes : List ℕ) (i r all : ℕ) → length bytes ≡ i → after_bytes r (drop i bytes) ≡ all → r ≡ all
unfolding after_bytes
at_end bytes i r all e held = sym (ap (after_bytes r) (drop_of_length-le bytes (omega arith))) ∙ held

pub loop-byte-preserved : goal.loop-byte-preserved
loop-byte-preserved c = one_more c.args.bytes.now c.loop-byte.byte-index c.loop-byte.register c.fed-register.result _ c.loop-byte-test.true c.loop-byte.invariant c.fed-register.ensures

pub returns : goal.returns
returns c = at_end c.args.bytes.now c.loop-byte.byte-index c.loop-byte.register _ (omega (arith, c.loop-byte-test.false, c.loop-byte.auto.byte-index-end)) c.loop-byte.invariant
