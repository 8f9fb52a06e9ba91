-- Words that are split off one after another.
use Rattle.std.proofs.Common.{◌≡◌, ◌<◌, ◌≤◌, ◌+◌, ◌-◌, ℕ, zero, suc, List, [], ◌∷◌, ◌++◌, length, drop, Option, Some}
use Rattle.std.proofs.Common.{None, refl, sym, ap, ◌∙◌, append_assoc, append-nil, get_or, arith}
use Rattle.std.proofs.lemmas.List.{drop_more, drop_all}
use Rattle.example_server.specs.Inline.{after, at_end, begun, continued, piece_at, split}
use Rattle.example_server.specs.declared.inline.Place.{Place}
use Rattle.example_server.specs.declared.inline.Place.TheVariants as place
use Rattle.example_server.specs.declared.inline.Piece.{Piece}
use Rattle.example_server.specs.declared.inline.Piece.TheVariants as piece

Words : Type 0
Words = List (List ℕ)

-- one more byte of a word
one_byte : (done : List (List ℕ)) (word : List ℕ) (c : ℕ) (o : Option (List (List ℕ)))
    → after done (word ++ c ∷ []) o ≡ after done word (continued c o)
one_byte done word c (Some (rest ∷ words)) = ap (λ w. Some (done ++ (w ∷ words))) (append_assoc word (c ∷ []) rest)
one_byte done word c (Some []) = refl
one_byte done word c None = refl

-- one more word
one_word : (done : List (List ℕ)) (word : List ℕ) (o : Option (List (List ℕ)))
    → after (done ++ word ∷ []) [] o ≡ after done word (begun o)
one_word done word (Some (rest ∷ words)) = ap (λ ws. Some ws) (append_assoc done (word ∷ []) (rest ∷ words)
    ∙ ap (λ w. done ++ (w ∷ rest ∷ words)) (sym (append-nil word)))
one_word done word (Some []) = ap (λ w. Some (done ++ (w ∷ []))) (sym (append-nil word))
one_word done word None = refl

-- before the first word
pub none_yet : (o : Option (List (List ℕ))) → after [] [] o ≡ o
none_yet (Some (rest ∷ words)) = refl
none_yet (Some []) = refl
none_yet None = refl

-- a byte belongs to the one before
pub skipped : (done : List (List ℕ)) (word : List ℕ) (q : Place) (skip at : ℕ) (line : List ℕ) → 0 < skip
    → at < length line
    → after done word (split q (skip - 1) (drop (at + 1) line)) ≡ after done word (split q skip (drop at line))
skipped done word q zero at line h k = absurd (omega (arith, h))
skipped done word q (suc skip) at line h k =
    let e : suc skip - 1 ≡ skip = omega arith in
    ap (λ n. after done word (split q n (drop (at + 1) line))) e
    ∙ sym (ap (λ b. after done word (split q (suc skip) b)) (drop_more line at 0 k))

-- what a piece leaves
abbrev by_piece : Piece → List ℕ → Option (List (List ℕ))
by_piece (piece.Byte byte more to) cs = continued byte (split to more cs)
by_piece (piece.Goes to) cs = split to 0 cs
by_piece piece.Ends cs = begun (split place.Between 0 cs)
by_piece piece.Unbalanced cs = None

pieces : (q : Place) (c : ℕ) (cs : List ℕ) (p : Piece) → piece_at q (c ∷ cs) ≡ p → split q 0 (c ∷ cs) ≡ by_piece p cs
pieces q c cs p e = by (piece_at q (c ∷ cs)) ∙ ap (λ r. by_piece r cs) e
  where
    by : (r : Piece) → elim r [
      | piece.Byte byte more to ↦ continued byte (split to more cs)
      | piece.Goes to ↦ split to 0 cs
      | piece.Ends ↦ begun (split place.Between 0 cs)
      | piece.Unbalanced ↦ None
    ] ≡ by_piece r cs
    by (piece.Byte byte more to) = refl
    by (piece.Goes to) = refl
    by piece.Ends = refl
    by piece.Unbalanced = refl

one_piece : (q : Place) (at : ℕ) (line : List ℕ) (p : Piece) → at < length line → piece_at q (drop at line) ≡ p
    → split q 0 (drop at line) ≡ by_piece p (drop (at + 1) line)
one_piece q at line p k h =
    let e = drop_more line at 0 k in
    ap (split q 0) e ∙ pieces q (get_or line at 0) (drop (at + 1) line) p (sym (ap (piece_at q) e) ∙ h)

pub byte_taken : (done : List (List ℕ)) (word : List ℕ) (q : Place) (skip at : ℕ) (line : List ℕ) (byte more : ℕ)
    (to : Place) → skip ≡ 0 → at < length line
    → piece_at q (drop at line) ≡ piece.Byte byte more to
    → after done (word ++ byte ∷ []) (split to more (drop (at + 1) line))
    ≡ after done word (split q skip (drop at line))
byte_taken done word q skip at line byte more to z k h =
    one_byte done word byte (split to more (drop (at + 1) line))
    ∙ sym (ap (after done word) (ap (λ n. split q n (drop at line)) z ∙ one_piece q at line _ k h))

pub place_taken : (done : List (List ℕ)) (word : List ℕ) (q : Place) (skip at : ℕ) (line : List ℕ) (to : Place)
    → skip ≡ 0 → at < length line
    → piece_at q (drop at line) ≡ piece.Goes to
    → after done word (split to skip (drop (at + 1) line)) ≡ after done word (split q skip (drop at line))
place_taken done word q skip at line to z k h =
    ap (λ n. after done word (split to n (drop (at + 1) line))) z
    ∙ sym (ap (after done word) (ap (λ n. split q n (drop at line)) z ∙ one_piece q at line _ k h))

pub word_ended : (done : List (List ℕ)) (word : List ℕ) (q : Place) (skip at : ℕ) (line : List ℕ) → skip ≡ 0
    → at < length line
    → piece_at q (drop at line) ≡ piece.Ends
    → after (done ++ word ∷ []) [] (split place.Between skip (drop (at + 1) line))
    ≡ after done word (split q skip (drop at line))
word_ended done word q skip at line z k h =
    ap (λ n. after (done ++ word ∷ []) [] (split place.Between n (drop (at + 1) line))) z
    ∙ one_word done word (split place.Between 0 (drop (at + 1) line))
    ∙ sym (ap (after done word) (ap (λ n. split q n (drop at line)) z ∙ one_piece q at line _ k h))

pub unbalanced : (done : List (List ℕ)) (word : List ℕ) (q : Place) (skip at : ℕ) (line : List ℕ) → skip ≡ 0
    → at < length line
    → piece_at q (drop at line) ≡ piece.Unbalanced → None ≡ after done word (split q skip (drop at line))
unbalanced done word q skip at line z k h =
    sym (ap (after done word) (ap (λ n. split q n (drop at line)) z ∙ one_piece q at line _ k h))

pub at_last : (done : List (List ℕ)) (word : List ℕ) (q : Place) (skip at : ℕ) (line : List ℕ) → length line ≤ at
    → after done word (at_end q) ≡ after done word (split q skip (drop at line))
at_last done word q skip at line h = sym (ap (λ b. after done word (split q skip b)) (drop_all at line h))

pub ruleset splitting = (none_yet, skipped, byte_taken, place_taken, word_ended, unbalanced, at_last)
