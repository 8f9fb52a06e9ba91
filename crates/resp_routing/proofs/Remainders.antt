-- Multiplying by x is linear: what it makes of a sum is the sum of what it makes of the parts. So the eight steps of a
-- byte are those of the high byte, which the table holds, and of the low one, which only moves up.
use Rattle.std.proofs.Common.{◌≡◌, ℕ, zero, suc, ◌+◌, ◌*◌, ◌/◌, ◌%◌, ◌^◌, ◌<◌, Bool, true, false, ◌&&◌, nat_eq, get_or, List, refl, arith, inl, inr, sym, ap, ◌∙◌, bit_xor}
use Rattle.std.proofs.lemmas.Bool.{cases_eq}
use Rattle.std.proofs.lemmas.Nat.{xor_comm, xor_lt, xor_of_16, xor_shr, xor_mod, xor_block}
use Rattle.std.specs.Int.Bits.{xor_assoc, xor_shifted, xor_zero_r}
use Rattle.resp_routing.specs.Checksums.{times_x, times_power, after_byte}

-- the two agree below n
abbrev agree_below : (ℕ → ℕ) → (ℕ → ℕ) → ℕ → Bool
agree_below f g zero = true
agree_below f g (suc n) = nat_eq (f n) (g n) && agree_below f g n

both_of : (x rest : Bool) → (x && rest) ≡ true → (x ≡ true) × (rest ≡ true)
both_of true rest h = (refl, h)
both_of false rest h = cc

agree_at : (f g : ℕ → ℕ) (n : ℕ) → agree_below f g n ≡ true → (i : ℕ) → i < n → f i ≡ g i
agree_at f g zero h i lt = absurd (omega arith)
agree_at f g (suc n) h i lt =
    let both = both_of (nat_eq (f n) (g n)) (agree_below f g n) h in
    elim (cases_eq i n) [ inl same ↦ rw same (grind (arith, both.0)) | inr other ↦ agree_at f g n both.1 i (omega arith) ]

interchange : (a b c d : ℕ) → bit_xor (bit_xor a b) (bit_xor c d) ≡ bit_xor (bit_xor a c) (bit_xor b d)
interchange a b c d =
    xor_assoc a b (bit_xor c d)
    ∙ ap (bit_xor a) (sym (xor_assoc b c d) ∙ ap (λ x. bit_xor x d) (xor_comm b c) ∙ xor_assoc c b d)
    ∙ sym (xor_assoc a c (bit_xor b d))

doubled : (a b : ℕ) → bit_xor a b * 2 ≡ bit_xor (a * 2) (b * 2)
doubled a b =
    let e : bit_xor (a * 2 + 0) (b * 2 + 0) ≡ bit_xor a b * 2 + bit_xor 0 0 = xor_block 1 a b 0 0 (omega arith) (omega arith) in
    let ea : a * 2 + 0 ≡ a * 2 = omega arith in
    let eb : b * 2 + 0 ≡ b * 2 = omega arith in
    let ex : bit_xor a b * 2 + 0 ≡ bit_xor a b * 2 = omega arith in
    sym ex ∙ sym e ∙ ap (λ x. bit_xor x (b * 2 + 0)) ea ∙ ap (bit_xor (a * 2)) eb

carried : (a b : ℕ) → a < 2 → b < 2 → bit_xor a b * 0x1021 ≡ bit_xor (a * 0x1021) (b * 0x1021)
carried a b p q =
    elim (cases_eq a 0) [
      | inl a0 ↦ rw a0 (elim (cases_eq b 0) [ inl b0 ↦ rw b0 refl | inr b1 ↦ let e : b ≡ 1 = omega arith in rw e refl ])
      | inr a1 ↦ let d : a ≡ 1 = omega arith in rw d (elim (cases_eq b 0) [ inl b0 ↦ rw b0 refl | inr b1 ↦ let e : b ≡ 1 = omega arith in rw e refl ])
    ]

pub times_x_lt : (r : ℕ) → r < 2 ^ 16 → times_x r < 2 ^ 16
times_x_lt r p = xor_of_16 (r * 2 % 2 ^ 16) (r / 2 ^ 15 * 0x1021) (omega arith) (omega arith)

pub times_x_xor : (a b : ℕ) → a < 2 ^ 16 → b < 2 ^ 16 → times_x (bit_xor a b) ≡ bit_xor (times_x a) (times_x b)
times_x_xor a b p q =
    let low : bit_xor a b * 2 % 2 ^ 16 ≡ bit_xor (a * 2 % 2 ^ 16) (b * 2 % 2 ^ 16)
    = ap (λ x. x % 2 ^ 16) (doubled a b) ∙ xor_mod (a * 2) (b * 2) 16 in
    let high : bit_xor a b / 2 ^ 15 * 0x1021 ≡ bit_xor (a / 2 ^ 15 * 0x1021) (b / 2 ^ 15 * 0x1021)
    = ap (λ x. x * 0x1021) (xor_shr a b 15) ∙ carried (a / 2 ^ 15) (b / 2 ^ 15) (omega arith) (omega arith) in
    rw low (rw high (interchange (a * 2 % 2 ^ 16) (b * 2 % 2 ^ 16) (a / 2 ^ 15 * 0x1021) (b / 2 ^ 15 * 0x1021)))

pub times_power_xor : (n a b : ℕ) → a < 2 ^ 16 → b < 2 ^ 16 → times_power n (bit_xor a b) ≡ bit_xor (times_power n a) (times_power n b)
unfolding times_power
times_power_xor zero a b p q = refl
times_power_xor (suc n) a b p q =
    ap (times_power n) (times_x_xor a b p q) ∙ times_power_xor n (times_x a) (times_x b) (times_x_lt a p) (times_x_lt b q)

low_moves : (l : ℕ) → l < 256 → times_power 8 l ≡ l * 256
unfolding times_power
low_moves = agree_at (λ l. times_power 8 l) (λ l. l * 256) 256 refl

split_sum : (r b : ℕ) → bit_xor r (b * 2 ^ 8) ≡ bit_xor (bit_xor (r / 2 ^ 8) b * 2 ^ 8) (r % 2 ^ 8)
split_sum r b =
    let e : bit_xor (r / 2 ^ 8 * 2 ^ 8 + r % 2 ^ 8) (b * 2 ^ 8 + 0) ≡ bit_xor (r / 2 ^ 8) b * 2 ^ 8 + bit_xor (r % 2 ^ 8) 0
    = xor_block 8 (r / 2 ^ 8) b (r % 2 ^ 8) 0 (omega arith) (omega arith) in
    let er : r ≡ r / 2 ^ 8 * 2 ^ 8 + r % 2 ^ 8 = omega arith in
    let eb : b * 2 ^ 8 ≡ b * 2 ^ 8 + 0 = omega arith in
    ap (λ x. bit_xor x (b * 2 ^ 8)) er ∙ ap (bit_xor (r / 2 ^ 8 * 2 ^ 8 + r % 2 ^ 8)) eb ∙ e
    ∙ ap (λ x. bit_xor (r / 2 ^ 8) b * 2 ^ 8 + x) (xor_zero_r (r % 2 ^ 8))
    ∙ sym (xor_shifted (bit_xor (r / 2 ^ 8) b) 8 (r % 2 ^ 8) (omega arith))

-- a table of these many times_power of each high byte
abbrev pub IsTable : ℕ → List ℕ → Bool
IsTable n table = agree_below (λ i. get_or table i 0) (λ i. times_power n (i * 256)) 256

entry : (n : ℕ) (table : List ℕ) (i : ℕ) → IsTable n table ≡ true → i < 256 → get_or table i 0 ≡ times_power n (i * 256)
entry n table i holds lt = agree_at (λ k. get_or table k 0) (λ k. times_power n (k * 256)) 256 holds i lt

pub by_table : (table : List ℕ) (r b i : ℕ) → IsTable 8 table ≡ true → r < 2 ^ 16 → b < 256
    → i ≡ bit_xor (r / 256) b → bit_xor (r * 256 % 65536) (get_or table i 0) ≡ after_byte r b
by_table table r b i holds p q is =
    let high_lt : bit_xor (r / 256) b < 256 = xor_lt 8 (r / 256) b (omega arith) q in
    let low : r * 256 % 65536 ≡ r % 256 * 256 = omega arith in
    let moved : r * 256 % 65536 ≡ times_power 8 (r % 256) = low ∙ sym (low_moves (r % 256) (omega arith)) in
    let sum : times_power 8 (bit_xor (bit_xor (r / 256) b * 256) (r % 256))
    ≡ bit_xor (times_power 8 (bit_xor (r / 256) b * 256)) (times_power 8 (r % 256))
    = times_power_xor 8 (bit_xor (r / 256) b * 256) (r % 256) (omega arith) (omega arith) in
    ap (λ k. bit_xor (r * 256 % 65536) (get_or table k 0)) is
    ∙ ap (λ x. bit_xor x (get_or table (bit_xor (r / 256) b) 0)) moved
    ∙ ap (bit_xor (times_power 8 (r % 256))) (entry 8 table _ holds high_lt)
    ∙ xor_comm (times_power 8 (r % 256)) (times_power 8 (bit_xor (r / 256) b * 256))
    ∙ sym sum
    ∙ sym (ap (times_power 8) (split_sum r b))

times_power_lt : (n r : ℕ) → r < 2 ^ 16 → times_power n r < 2 ^ 16
unfolding times_power
times_power_lt zero r p = p
times_power_lt (suc n) r p = times_power_lt n (times_x r) (times_x_lt r p)

after_lt : (r b : ℕ) → r < 2 ^ 16 → b < 256 → after_byte r b < 2 ^ 16
after_lt r b p q = times_power_lt 8 _ (xor_of_16 r (b * 2 ^ 8) p (omega arith))

twice : (m n r : ℕ) → times_power n (times_power m r) ≡ times_power (m + n) r
unfolding times_power
twice zero n r = let e : n ≡ 0 + n = omega arith in ap (λ m. times_power m r) e
twice (suc m) n r =
    let e : suc m + n ≡ suc (m + n) = omega arith in
    rw e (twice m n (times_x r))

-- what the last of some bytes adds to a register that is multiplied on
later : (n r b : ℕ) → r < 2 ^ 16 → b < 256
    → times_power n (after_byte r b) ≡ bit_xor (times_power (8 + n) r) (times_power (8 + n) (b * 256))
later n r b p q =
    twice 8 n (bit_xor r (b * 256)) ∙ times_power_xor (8 + n) r (b * 256) p (omega arith)

-- what the first of some bytes makes of a register that is multiplied on
first : (n r b : ℕ) → r < 2 ^ 16 → b < 256
    → times_power n (after_byte r b)
    ≡ bit_xor (times_power (8 + n) (bit_xor (r / 256) b * 256)) (times_power n (r % 256 * 256))
first n r b p q =
    let high_lt : bit_xor (r / 256) b < 256 = xor_lt 8 (r / 256) b (omega arith) q in
    twice 8 n (bit_xor r (b * 256))
    ∙ ap (times_power (8 + n)) (split_sum r b)
    ∙ times_power_xor (8 + n) (bit_xor (r / 256) b * 256) (r % 256) (omega arith) (omega arith)
    ∙ ap (bit_xor (times_power (8 + n) (bit_xor (r / 256) b * 256)))
    (sym (twice 8 n (r % 256)) ∙ ap (times_power n) (low_moves (r % 256) (omega arith)))

shifted : (a b : ℕ) → bit_xor (a * 256) (b * 256) ≡ bit_xor a b * 256
shifted a b =
    let e : bit_xor (a * 2 ^ 8 + 0) (b * 2 ^ 8 + 0) ≡ bit_xor a b * 2 ^ 8 + bit_xor 0 0 = xor_block 8 a b 0 0 (omega arith) (omega arith) in
    let ea : a * 256 ≡ a * 2 ^ 8 + 0 = omega arith in
    let eb : b * 256 ≡ b * 2 ^ 8 + 0 = omega arith in
    let ex : bit_xor a b * 2 ^ 8 + 0 ≡ bit_xor a b * 256 = omega arith in
    ap (λ x. bit_xor x (b * 256)) ea ∙ ap (bit_xor (a * 2 ^ 8 + 0)) eb ∙ e ∙ ex

-- the two bytes of a register, and two more
two_bytes : (n r a b : ℕ) → r < 2 ^ 16 → a < 256 → b < 256
    → times_power n (after_byte (after_byte r a) b)
    ≡ bit_xor (times_power (16 + n) (bit_xor (r / 256) a * 256)) (times_power (8 + n) (bit_xor (r % 256) b * 256))
two_bytes n r a b p q s =
    let low : bit_xor (times_power (8 + n) (r % 256 * 256)) (times_power (8 + n) (b * 256))
    ≡ times_power (8 + n) (bit_xor (r % 256) b * 256)
    = sym (times_power_xor (8 + n) (r % 256 * 256) (b * 256) (omega arith) (omega arith))
    ∙ ap (times_power (8 + n)) (shifted (r % 256) b) in
    let e : 8 + (8 + n) ≡ 16 + n = omega arith in
    later n (after_byte r a) b (after_lt r a p q) s
    ∙ ap (λ x. bit_xor x (times_power (8 + n) (b * 256))) (first (8 + n) r a p q)
    ∙ xor_assoc (times_power (8 + (8 + n)) (bit_xor (r / 256) a * 256)) (times_power (8 + n) (r % 256 * 256)) (times_power (8 + n) (b * 256))
    ∙ ap (bit_xor (times_power (8 + (8 + n)) (bit_xor (r / 256) a * 256))) low
    ∙ ap (λ m. bit_xor (times_power m (bit_xor (r / 256) a * 256)) (times_power (8 + n) (bit_xor (r % 256) b * 256))) e

-- four bytes by four tables
pub by_tables : (t8 t16 t24 t32 : List ℕ) (r a b c d high low third fourth : ℕ)
    → IsTable 8 t8 ≡ true → IsTable 16 t16 ≡ true → IsTable 24 t24 ≡ true → IsTable 32 t32 ≡ true
    → r < 2 ^ 16 → a < 256 → b < 256 → c < 256 → d < 256
    → high ≡ bit_xor (r / 256) a → low ≡ bit_xor (r % 256) b → third ≡ c → fourth ≡ d
    → bit_xor (bit_xor (bit_xor (get_or t32 high 0) (get_or t24 low 0)) (get_or t16 third 0)) (get_or t8 fourth 0)
    ≡ after_byte (after_byte (after_byte (after_byte r a) b) c) d
unfolding times_power
by_tables t8 t16 t24 t32 r a b c d high low third fourth h8 h16 h24 h32 pr pa pb pc pd is_high is_low is_third is_fourth =
    let high_lt : bit_xor (r / 256) a < 256 = xor_lt 8 (r / 256) a (omega arith) pa in
    let low_lt : bit_xor (r % 256) b < 256 = xor_lt 8 (r % 256) b (omega arith) pb in
    let one = after_lt r a pr pa in
    let two = after_lt (after_byte r a) b one pb in
    let three = after_lt (after_byte (after_byte r a) b) c two pc in
    let first_two : times_power 16 (after_byte (after_byte r a) b) ≡ bit_xor (get_or t32 high 0) (get_or t24 low 0)
    = two_bytes 16 r a b pr pa pb
    ∙ sym (ap (λ x. bit_xor x (times_power 24 (bit_xor (r % 256) b * 256)))
    (ap (λ k. get_or t32 k 0) is_high ∙ entry 32 t32 (bit_xor (r / 256) a) h32 high_lt))
    ∙ sym (ap (bit_xor (get_or t32 high 0)) (ap (λ k. get_or t24 k 0) is_low ∙ entry 24 t24 (bit_xor (r % 256) b) h24 low_lt)) in
    let last : after_byte (after_byte (after_byte (after_byte r a) b) c) d
    ≡ bit_xor (bit_xor (times_power 16 (after_byte (after_byte r a) b)) (times_power 16 (c * 256))) (times_power 8 (d * 256))
    = later 0 (after_byte (after_byte (after_byte r a) b) c) d three pd
    ∙ ap (λ x. bit_xor x (times_power 8 (d * 256))) (later 8 (after_byte (after_byte r a) b) c two pc) in
    sym (last
    ∙ ap (λ x. bit_xor (bit_xor x (times_power 16 (c * 256))) (times_power 8 (d * 256))) first_two
    ∙ ap (λ x. bit_xor (bit_xor (bit_xor (get_or t32 high 0) (get_or t24 low 0)) x) (times_power 8 (d * 256)))
    (sym (ap (λ k. get_or t16 k 0) is_third ∙ entry 16 t16 c h16 pc))
    ∙ ap (bit_xor (bit_xor (bit_xor (get_or t32 high 0) (get_or t24 low 0)) (get_or t16 third 0)))
    (sym (ap (λ k. get_or t8 k 0) is_fourth ∙ entry 8 t8 d h8 pd)))
