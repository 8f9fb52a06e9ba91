use Rattle.std.proofs.Common.{◌≡◌, ℕ, ◌+◌, ◌<◌, ◌≤◌, true, false, List, [], ◌∷◌, ◌++◌, length, get_or, take, drop, ◌==◌}
use Rattle.std.proofs.Common.{refl, sym, ap, ◌∙◌, arith, eq-eqb, ne_eqb, append_assoc, append-nil}
use Rattle.std.proofs.lemmas.List.{drop_more, take_more}
use Rattle.std.proofs.Math.Seq.{take_all}
use Rattle.std.proofs.Math.ListN.{drop_of_length-le}
use Rattle.resp_routing.specs.Commands.{unpadded}
use Rattle.resp_routing.proofs.lookup.without_padding.Goals as goal

at_space : (name : List ℕ) (i : ℕ) → i < length name → unpadded name ≡ take i name ++ unpadded (drop i name)
    → (get_or name i 0 == 32) ≡ true → take i name ≡ unpadded name
unfolding unpadded
at_space name i lt held space =
    let rest : unpadded (drop i name) ≡ [] = rw (drop_more name i 0 lt, space) refl in
    sym (held ∙ ap (λ more. take i name ++ more) rest ∙ append-nil (take i name))

one_more : (name : List ℕ) (i : ℕ) → i < length name → unpadded name ≡ take i name ++ unpadded (drop i name)
    → (get_or name i 0 == 32) ≡ false → unpadded name ≡ take (i + 1) name ++ unpadded (drop (i + 1) name)
unfolding unpadded
one_more name i lt held other =
    let rest : unpadded (drop i name) ≡ get_or name i 0 ∷ unpadded (drop (i + 1) name)
    = rw (drop_more name i 0 lt, other) refl in
    held ∙ ap (λ more. take i name ++ more) rest
    ∙ sym (append_assoc (take i name) (get_or name i 0 ∷ []) (unpadded (drop (i + 1) name)))
    ∙ ap (λ front. front ++ unpadded (drop (i + 1) name)) (sym (take_more name i 0 lt))

at_end : (name : List ℕ) (i : ℕ) → length name ≤ i → unpadded name ≡ take i name ++ unpadded (drop i name)
    → name ≡ unpadded name
unfolding unpadded
at_end name i past held =
    sym (held ∙ ap (λ rest. take i name ++ unpadded rest) (drop_of_length-le name past)
    ∙ append-nil (take i name) ∙ take_all i name past)

pub returns-then-byte-eq32 : goal.returns-then-byte-eq32
returns-then-byte-eq32 c = at_space _ _ (omega arith) c.loop-length.invariant (eq-eqb _ _ c.if-byte-eq32.true)

pub loop-length-preserved : goal.loop-length-preserved
loop-length-preserved c = one_more _ _ (omega arith) c.loop-length.invariant (ne_eqb _ _ c.if-byte-eq32.false)

pub returns : goal.returns
returns c = at_end _ _ (omega arith) c.loop-length.invariant
