-- Frames that are written over bytes, and bytes that are kept in the value itself or in an allocation.
use Rattle.std.proofs.Common.{◌≡◌, ◌≢◌, ℕ, ◌+◌, ◌<◌, ◌≤◌, List, [], ◌∷◌, ◌++◌, length, take, drop, append_assoc, length-append}
use Rattle.std.proofs.Common.{refl, sym, ap, subst, ◌∙◌, arith}
use Rattle.std.specs.Prelude.{decimal}
use Rattle.std.proofs.lemmas.List.{append-nil, take_at, drop_at, drop-drop, length-drop}
use Rattle.resp_parse.specs.Lines.{crlf}
use Rattle.resp_command.specs.Packed.{length_line}
use Rattle.resp_command.specs.Frames.{IsOneOf}

take_none : (xs : List ℕ) → take 0 xs ≡ []
take_none [] = refl
take_none (x ∷ xs) = refl

-- a length's line that was written over the first bytes
pub line_written : (len : ℕ) (digits old new : List ℕ) → decimal len ≡ digits
    → new ≡ take 0 old ++ ((36 ∷ (digits ++ crlf)) ++ drop (length (36 ∷ (digits ++ crlf))) old)
    → new ≡ length_line 36 len ++ drop (length (length_line 36 len)) old
line_written len digits old new is now =
    subst (λ d. new ≡ (36 ∷ (d ++ crlf)) ++ drop (length (36 ∷ (d ++ crlf))) old) (sym is)
    (now ∙ ap (λ l. l ++ ((36 ∷ (digits ++ crlf)) ++ drop (length (36 ∷ (digits ++ crlf))) old)) (take_none old))

pub as_long : (old new front : List ℕ) → new ≡ front ++ drop (length front) old → length front ≤ length old
    → length new ≡ length old
as_long old new front now within = omega
    (arith, ap length now, length-append front (drop (length front) old), length-drop (length front) old, within)

-- bytes after a front that was written before
pub written_on : (old free new front bytes : List ℕ) (at : ℕ) → at ≡ length front → free ≡ front ++ drop (length front) old
    → new ≡ take at free ++ (bytes ++ drop (at + length bytes) free)
    → new ≡ (front ++ bytes) ++ drop (length (front ++ bytes)) old
written_on old free new front bytes at at_is before now =
    let first : take at free ≡ front = ap (take at) before ∙ take_at front _ at (sym at_is) in
    let left : drop at free ≡ drop (length front) old = ap (drop at) before ∙ drop_at front _ at (sym at_is) in
    let rest : drop (at + length bytes) free ≡ drop (length (front ++ bytes)) old = sym (drop-drop (length bytes) at free)
    ∙ ap (drop (length bytes)) left ∙ drop-drop (length bytes) (length front) old
    ∙ ap (λ n. drop n old) (sym (length-append front bytes)) in
    now ∙ rw (first, rest) (sym (append_assoc front bytes _))

-- bytes that were written behind the first ones
pub written_behind : (few new bytes rest after : List ℕ) (used size : ℕ) → length (take used few) ≡ used
    → new ≡ bytes ++ rest → size ≡ length bytes
    → take (used + size) (take used few ++ (new ++ after)) ≡ take used few ++ bytes
written_behind few new bytes rest after used size first new_is size_is =
    let parts : take used few ++ (new ++ after) ≡ (take used few ++ bytes) ++ (rest ++ after) =
    rw new_is (simp append_assoc refl) in
    let long : length (take used few ++ bytes) ≡ used + size = omega (arith, length-append (take used few) bytes, first, size_is) in
    ap (take (used + size)) parts ∙ take_at (take used few ++ bytes) (rest ++ after) (used + size) long

pub behind_none : (front bytes many : List ℕ) → many ≡ [] → (front ++ bytes) ++ many ≡ (front ++ many) ++ bytes
behind_none front bytes many none = ap (λ m. (front ++ bytes) ++ m) none ∙ append-nil (front ++ bytes)
    ∙ ap (λ l. l ++ bytes) (sym (append-nil front) ∙ ap (λ m. front ++ m) (sym none))

pub many_alone : (used : ℕ) (few many : List ℕ) → used ≡ 0 → take used few ++ many ≡ many
many_alone used few many none = ap (λ n. take n few ++ many) none ∙ ap (λ l. l ++ many) (take_none few)

cons_some : (x : ℕ) (xs : List ℕ) → x ∷ xs ≢ []
cons_some x xs e = cc

pub few_alone : {size : ℕ} (used : ℕ) (few many : List ℕ) → IsOneOf size used few many → 0 < used → many ≡ []
few_alone used few [] h some = refl
few_alone used few (x ∷ many) h some = absurd (let none = h.one (cons_some x many) in omega (arith, none))

pub spilled : {size : ℕ} (used : ℕ) (few many new : List ℕ) → IsOneOf size used few many → 0 < used
    → new ≡ many ++ take used few → new ≡ take used few ++ many
spilled used few many new h some is =
    let none = few_alone used few many h some in
    is ∙ ap (λ l. l ++ take used few) none ∙ sym (append-nil (take used few)) ∙ ap (λ l. take used few ++ l) (sym none)
