-- CRC-16/XMODEM, a bit at a time. A register holds the coefficients of a polynomial of degree below 16 over the field
-- of two elements, that of x^15 first.
use Rattle.std.specs.Prelude.{ℕ, zero, suc, ◌*◌, ◌/◌, ◌%◌, ◌^◌, ◌==◌, if◌then◌else◌, List, [], ◌∷◌, Option, None, Some, bit_xor}

-- times x, modulo x^16 + x^12 + x^5 + 1: where x^16 comes up, it is x^12 + x^5 + 1, which is 0x1021
abbrev pub times_x : ℕ → ℕ
times_x r = bit_xor (r * 2 % 2 ^ 16) (r / 2 ^ 15 * 0x1021)

-- times x^n
unfoldable pub times_power : ℕ → ℕ → ℕ
times_power zero r = r
times_power (suc n) r = times_power n (times_x r)

-- the byte is added to the terms from x^8 on, and all is multiplied by x^8
abbrev pub after_byte : ℕ → ℕ → ℕ
after_byte r b = times_power 8 (bit_xor r (b * 2 ^ 8))

unfoldable pub after_bytes : ℕ → List ℕ → ℕ
after_bytes r [] = r
after_bytes r (b ∷ bs) = after_bytes (after_byte r b) bs

-- the remainder of the bytes and sixteen zero bits
abbrev pub remainder : List ℕ → ℕ
remainder bs = after_bytes 0 bs

-- the register after these bytes, if none of them is a {
unfoldable pub without_brace : ℕ → List ℕ → Option ℕ
without_brace r [] = Some r
without_brace r (b ∷ bs) = if b == 0x7b then None else without_brace (after_byte r b) bs
