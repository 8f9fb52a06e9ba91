-- Values that stand in open aggregates.
use Rattle.std.proofs.Common.{◌≡◌, ℕ, suc, List, [], ◌∷◌, ◌++◌, refl, ap, sym, ◌∙◌, append_assoc}
use Rattle.resp_value.specs.declared.value.Value.{Value}
use Rattle.resp_parse.specs.declared.open_aggregates.OpenAggregate.{OpenAggregate}
use Rattle.resp_parse.specs.declared.shape.ElementsKind.{ElementsKind}
use Rattle.resp_parse.specs.Shapes.{elements_value}
use Rattle.resp_parse.specs.Grammar.{elements}
use Rattle.resp_parse.specs.PlainReading.{ReadOutcome, got, fault, incomplete, then, read_elements, read_announced}
use Rattle.resp_parse.specs.PlainReading.{made, read}
use Rattle.resp_parse.specs.Resume.{depth_below, place}

-- elements of which one at least is to come
among : (K : List Value → List ℕ → ReadOutcome Value) (P : List ℕ → ReadOutcome Value) (m : ℕ) (o : ReadOutcome Value) →
    then (then o (λ w r. then (read_elements P m r) (λ vs s. got (w ∷ vs) s))) K
    ≡ then o (λ w r. then (read_elements P m r) (λ vs s. K (w ∷ vs) s))
among K P m (got w r) = one (read_elements P m r)
  where
    one : (o : ReadOutcome (List Value)) → then (then o (λ vs s. got (w ∷ vs) s)) K ≡ then o (λ vs s. K (w ∷ vs) s)
    one (got vs s) = refl
    one (fault f s) = refl
    one incomplete = refl
among K P m (fault f r) = refl
among K P m incomplete = refl

-- what the elements of a kind make, inside these aggregates, where values are read down to d levels
abbrev makes : ℕ → ElementsKind → List OpenAggregate → List Value → List ℕ → ReadOutcome Value
makes d kind fs vs rest = then (made (elements_value kind vs) rest) (place d fs)

regroup : (d : ℕ) (P : List ℕ → ReadOutcome Value) (m : ℕ) (kind : ElementsKind) (fs : List OpenAggregate)
    (vs : List Value) (v : Value) (o : ReadOutcome Value) →
    then o (λ w r. then (read_elements P m r) (λ ws s. makes d kind fs (vs ++ (v ∷ w ∷ ws)) s))
    ≡ then o (λ w r. then (read_elements P m r) (λ ws s. makes d kind fs ((vs ++ (v ∷ [])) ++ (w ∷ ws)) s))
regroup d P m kind fs vs v (got w r) = one (read_elements P m r)
  where
    one : (o : ReadOutcome (List Value)) → then o (λ ws s. makes d kind fs (vs ++ (v ∷ w ∷ ws)) s)
        ≡ then o (λ ws s. makes d kind fs ((vs ++ (v ∷ [])) ++ (w ∷ ws)) s)
    one (got ws s) = ap (λ xs. makes d kind fs xs s) (sym (append_assoc vs (v ∷ []) (w ∷ ws)))
    one (fault f s) = refl
    one incomplete = refl
regroup d P m kind fs vs v (fault f r) = refl
regroup d P m kind fs vs v incomplete = refl

-- an element that isn't the last
pub keeps : (d m : ℕ) (f g : OpenAggregate) (fs : List OpenAggregate) (v : Value) (rest : List ℕ) → f.after ≡ suc m
    → g.kind ≡ f.kind → g.after ≡ m → g.seen ≡ f.seen ++ (v ∷ []) →
    place d (f ∷ fs) v rest ≡ then (read (depth_below d fs) rest) (place d (g ∷ fs))
keeps d m f g fs v rest e kind after seen =
    rw (e, kind, after, seen)
    (among (λ vs r. makes d f.kind fs (f.seen ++ (v ∷ vs)) r) (read (depth_below d fs)) m
    (read (depth_below d fs) rest)
    ∙ regroup d (read (depth_below d fs)) m f.kind fs f.seen v (read (depth_below d fs) rest))

-- the last element
pub closes : (d : ℕ) (f : OpenAggregate) (fs : List OpenAggregate) (v : Value) (rest : List ℕ) → f.after ≡ 0 →
    place d (f ∷ fs) v rest ≡ then (made (elements_value f.kind (f.seen ++ (v ∷ []))) rest) (place d fs)
closes d f fs v rest e = rw e refl

outer : (d : ℕ) (kind : ElementsKind) (fs : List OpenAggregate) (o : ReadOutcome (List Value)) →
    then (then o (λ vs r. made (elements_value kind vs) r)) (place d fs) ≡ then o (λ vs r. makes d kind fs vs r)
outer d kind fs (got vs r) = refl
outer d kind fs (fault f r) = refl
outer d kind fs incomplete = refl

-- a header of elements
pub opens : (d m : ℕ) (kind : ElementsKind) (f : OpenAggregate) (fs : List OpenAggregate) (rest : List ℕ) → f.kind
    ≡ kind → f.after ≡ m → f.seen ≡ [] →
    then (read_announced (read (depth_below d fs)) (elements (suc m) (elements_value kind)) rest) (place d fs)
    ≡ then (read (depth_below d fs) rest) (place d (f ∷ fs))
opens d m kind f fs rest is after seen =
    rw (is, after, seen) (outer d kind fs (read_elements (read (depth_below d fs)) (suc m) rest) ∙ among (λ vs r. makes
    d kind fs vs r) (read (depth_below d fs)) m (read (depth_below d fs) rest))
