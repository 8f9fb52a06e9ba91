-- Bytes that are read with U+FFFD for what is no UTF-8 are text.
use Rattle.std.proofs.Common.{◌≡◌, ℕ, zero, suc, ◌<◌, ◌≤◌, List, [], ◌∷◌, length, drop, Option, Some, None, encode_utf8}
use Rattle.std.proofs.Common.{encode_utf8_all, IsUtf8, refl, sym, subst, arith, length-drop}
use Rattle.std.proofs.lemmas.Str.{IsUtf8-nil, IsUtf8-append, IsUtf8-encode}
use Rattle.std.specs.Char.{IsScalar}
use Rattle.bstr.specs.Utf8.{decoded, or_replacement, lossy_chars}
use Rattle.bstr.proofs.lemmas.PieceLemmas.{piece-bounds, lossy_chars-step, lossy_chars-nil}
use Rattle.bstr.proofs.lemmas.SoundLemmas.{SpellsChar-decoded}
use Rattle.resp_containers.specs.Lossy.{lossy}

read-scalar : (bs : List ℕ) (o : Option ℕ) → (decoded bs).char ≡ o → IsScalar (or_replacement o)
read-scalar bs None e = refl
read-scalar bs (Some c) e = (SpellsChar-decoded bs c e).scalar

lossy-within : (fuel : ℕ) (bs : List ℕ) → length bs ≤ fuel → IsUtf8 (encode_utf8_all (lossy_chars bs))
lossy-within fuel [] le = subst (λ cs. IsUtf8 (encode_utf8_all cs)) (sym lossy_chars-nil) IsUtf8-nil
lossy-within zero (b ∷ bs) le = absurd (omega arith)
lossy-within (suc fuel) (b ∷ bs) le =
    let whole = b ∷ bs in
    let size = (decoded whole).size in
    let some : 0 < length whole = omega arith in
    let rest : IsUtf8 (encode_utf8_all (lossy_chars (drop size whole))) = lossy-within fuel (drop size whole)
    (omega (arith, length-drop size whole, (piece-bounds whole some).0)) in
    let c = or_replacement (decoded whole).char in
    subst (λ cs. IsUtf8 (encode_utf8_all cs)) (sym (lossy_chars-step whole some))
    (IsUtf8-append (encode_utf8 c) (encode_utf8_all (lossy_chars (drop size whole)))
    (IsUtf8-encode c (read-scalar whole (decoded whole).char refl)) rest)

pub lossy-utf8 : (bs : List ℕ) → IsUtf8 (lossy bs)
lossy-utf8 bs = lossy-within (length bs) bs (omega arith)
