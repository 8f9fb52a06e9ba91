use Rattle.std.proofs.Common.{◌≡◌, ℕ, ◌-◌, ◌≤◌, List, length, get_or, take, drop, sym, ap, ◌∙◌}
use Rattle.resp_routing.specs.Checksums.{after_byte, after_bytes}
use Rattle.resp_routing.proofs.FirstFour.{first_four}
use Rattle.resp_routing.proofs.checksum.crc16.Goals as goal

four_more : (left : List ℕ) (r after all : ℕ) → 4 ≤ length left
    → after ≡ after_byte (after_byte (after_byte (after_byte r (get_or left 0 0)) (get_or left 1 0)) (get_or left 2 0)) (get_or left 3 0)
    → after_bytes r left ≡ all → after_bytes after (take (length left - 4) (drop 4 left)) ≡ all
unfolding after_bytes
four_more left r after all long is held =
    ap (λ s. after_bytes s (take (length left - 4) (drop 4 left))) is ∙ sym (ap (after_bytes r) (first_four left long)) ∙ held

pub loop-left-preserved : goal.loop-left-preserved
loop-left-preserved c =
    four_more c.loop-left.left.now c.loop-left.register c.fed_four-register.result _ c.in-len4-up.len_at_least
    c.fed_four-register.ensures c.loop-left.invariant
