-- Reading elements, where each element is read as the relations of elements say.
use Rattle.std.proofs.Common.{◌≡◌, ℕ, zero, suc, ◌<◌, List, [], ◌∷◌, ◌++◌, length, refl, ap, sym, ◌∙◌, subst}
use Rattle.std.proofs.Common.{append_assoc, arith}
use Rattle.resp_value.specs.declared.value.Value.{Value}
use Rattle.resp_errors.specs.declared.kinds.FrameFault.{FrameFault}
use Rattle.resp_parse.specs.Grammar.{Joined, ElementIsMalformed}
use Rattle.resp_parse.specs.PlainReading.{ReadOutcome, got, fault, then, read_elements}
use Rattle.resp_parse.proofs.ReadingsInSequence.{then-got, then-fault, at_first, at_next}

-- a prefix of the bytes is as P says, and the rest follows
pub record Prefix {X : Type 0} (P : List ℕ → X → Type 0) (b rest : List ℕ) (y : X) : Type 0 where
  pub prefix : List ℕ
  pub whole : b ≡ prefix ++ rest
  pub is : P prefix y

-- a prefix, and then a prefix of what follows it
pub append-prefix : (bs a mid b rest after : List ℕ) → bs ≡ a ++ mid → mid ≡ b ++ rest → rest ≡ after → bs ≡ (a ++ b)
    ++ after
append-prefix bs a mid b rest after e f k = e ∙ ap (λ s. a ++ s) (f ∙ ap (λ s. b ++ s) k) ∙ sym (append_assoc a b after)

-- reading gives what the relation says, whatever follows
abbrev pub ReadsWellFormed : (List ℕ → ReadOutcome Value) → (List ℕ → Value → Type 0) → Type 0
ReadsWellFormed R G = (b rest : List ℕ) (v : Value) → G b v → R (b ++ rest) ≡ got v rest

abbrev pub ReadsMalformed : (List ℕ → ReadOutcome Value) → (List ℕ → FrameFault → Type 0) → Type 0
ReadsMalformed R F = (b rest : List ℕ) (f : FrameFault) → F b f → R (b ++ rest) ≡ fault f rest

-- what reading gives stands at the start
abbrev pub GivesWellFormed : (List ℕ → ReadOutcome Value) → (List ℕ → Value → Type 0) → Type 0
GivesWellFormed R G = (b rest : List ℕ) (v : Value) → R b ≡ got v rest → Prefix G b rest v

abbrev pub GivesMalformed : (List ℕ → ReadOutcome Value) → (List ℕ → FrameFault → Type 0) → Type 0
GivesMalformed R F = (b rest : List ℕ) (f : FrameFault) → R b ≡ fault f rest → Prefix F b rest f

-- a prefix of the bytes is n elements as G says, and the rest follows
pub record ElementsPrefix (G : List ℕ → Value → Type 0) (n : ℕ) (bs rest : List ℕ) (vs : List Value) : Type 0 where
  pub prefix : List ℕ
  pub whole : bs ≡ prefix ++ rest
  pub size : length vs ≡ n
  pub joined : Joined G prefix vs

module _ (R : List ℕ → ReadOutcome Value) (G : List ℕ → Value → Type 0) (F : List ℕ → FrameFault → Type 0) where
  elements-spelled : ReadsWellFormed R G → (vs : List Value) (x rest : List ℕ) → Joined G x vs
      → read_elements R (length vs) (x ++ rest) ≡ got vs rest
  elements-spelled well_formed [] x rest e = rw e refl
  elements-spelled well_formed (v ∷ vs) x rest j =
      let first : R (x ++ rest) ≡ got v (j.others ++ rest) = ap (λ s. R (s ++ rest)) j.whole
      ∙ ap R (append_assoc j.first j.others rest) ∙ well_formed j.first (j.others ++ rest) v j.first_is in
      rw (first, elements-spelled well_formed vs j.others rest j.others_are) refl

  pub elements-reads : ReadsWellFormed R G → (n : ℕ) (b rest : List ℕ) (vs : List Value) → length vs ≡ n → Joined G b vs
      → read_elements R n (b ++ rest) ≡ got vs rest
  elements-reads well_formed n b rest vs l j = ap (λ k. read_elements R k (b ++ rest)) (sym l)
      ∙ elements-spelled well_formed vs b rest j

  element-fails : ReadsWellFormed R G → ReadsMalformed R F
      → (vs : List Value) (n : ℕ) (x y rest : List ℕ) (f : FrameFault) → length vs < n → Joined G x vs → F y f
      → read_elements R n (x ++ (y ++ rest)) ≡ fault f rest
  element-fails well_formed bad vs zero x y rest f l j w = absurd (omega arith)
  element-fails well_formed bad [] (suc n) x y rest f l e w =
      let first : R (x ++ (y ++ rest)) ≡ fault f rest = ap (λ s. R (s ++ (y ++ rest))) e ∙ bad y rest f w in
      rw first refl
  element-fails well_formed bad (v ∷ vs) (suc n) x y rest f l j w =
      let first : R (x ++ (y ++ rest)) ≡ got v (j.others ++ (y ++ rest)) = ap (λ s. R (s ++ (y ++ rest))) j.whole
      ∙ ap R (append_assoc j.first j.others (y ++ rest))
      ∙ well_formed j.first (j.others ++ (y ++ rest)) v j.first_is in
      rw (first, element-fails well_formed bad vs n j.others y rest f (omega arith) j.others_are w) refl

  pub elements-fail : ReadsWellFormed R G → ReadsMalformed R F → (n : ℕ) (b rest : List ℕ) (f : FrameFault)
      → ElementIsMalformed G F n b f → read_elements R n (b ++ rest) ≡ fault f rest
  elements-fail well_formed bad n b rest f w =
      ap (λ s. read_elements R n (s ++ rest)) w.whole ∙ ap (read_elements R n) (append_assoc w.before w.element rest)
      ∙ element-fails well_formed bad w.values n w.before w.element rest f w.fewer w.joined w.malformed

  pub elements-got : GivesWellFormed R G → (n : ℕ) (bs : List ℕ) (vs : List Value) (rest : List ℕ)
      → read_elements R n bs ≡ got vs rest → ElementsPrefix G n bs rest vs
  elements-got well_formed zero bs vs rest e = nothing vs (let k : [] ≡ vs = cc in k) (let k : bs ≡ rest = cc in k)
    where
      nothing : (ws : List Value) → [] ≡ ws → bs ≡ rest → ElementsPrefix G 0 bs rest ws
      nothing [] k e = record { prefix = []; whole = e; size = refl; joined = refl }
      nothing (w ∷ ws) k e = absurd (cc)
  elements-got well_formed (suc n) bs vs rest e =
      let p = then-got (R bs) (λ v r. then (read_elements R n r) (λ ws s. got (v ∷ ws) s)) vs rest e in
      let q = then-got (read_elements R n p.mid) (λ ws s. got (p.first ∷ ws) s) vs rest p.next in
      let g = well_formed bs p.mid p.first p.got_first in
      let h = elements-got well_formed n p.mid q.first q.mid q.got_first in
      let ev : p.first ∷ q.first ≡ vs = (let k = q.next in cc) in
      let er : q.mid ≡ rest = (let k = q.next in cc) in
      subst (λ ws. ElementsPrefix G (suc n) bs rest ws) ev
      (record {
        prefix = g.prefix ++ h.prefix;
        whole = append-prefix bs g.prefix p.mid h.prefix q.mid rest g.whole h.whole er;
        size = ap suc h.size;
        joined = record { first = g.prefix; others = h.prefix; whole = refl; first_is = g.is; others_are = h.joined };
      })

  pub elements-fault : GivesWellFormed R G → GivesMalformed R F → (n : ℕ) (bs rest : List ℕ) (f : FrameFault)
      → read_elements R n bs ≡ fault f rest → Prefix (ElementIsMalformed G F n) bs rest f
  elements-fault well_formed bad zero bs rest f e = absurd (cc)
  elements-fault well_formed bad (suc n) bs rest f e = elim
      (then-fault (R bs) (λ v r. then (read_elements R n r) (λ ws s. got (v ∷ ws) s)) f rest e) [
        | at_first h ↦ at_once (bad bs rest f h)
        | at_next p ↦ let g = well_formed bs p.mid p.first p.got_first in elim
            (then-fault (read_elements R n p.mid) (λ ws s. got (p.first ∷ ws) s) f rest p.next) [
              | at_first h ↦ later p.first p.mid g (elements-fault well_formed bad n p.mid rest f h)
              | at_next q ↦ absurd (let z = q.next in cc)
            ]
      ]
    where
      at_once : Prefix F bs rest f → Prefix (ElementIsMalformed G F (suc n)) bs rest f
      at_once b = record {
        prefix = b.prefix;
        whole = b.whole;
        is = record {
          values = [];
          before = [];
          element = b.prefix;
          fewer = omega arith;
          whole = refl;
          joined = refl;
          malformed = b.is;
        };
      }

      later : (v : Value) (r : List ℕ) → Prefix G bs r v → Prefix (ElementIsMalformed G F n) r rest f
          → Prefix (ElementIsMalformed G F (suc n)) bs rest f
      later v r a b = let w = b.is in record {
        prefix = a.prefix ++ b.prefix;
        whole = append-prefix bs a.prefix r b.prefix rest rest a.whole b.whole refl;
        is = record {
          values = v ∷ w.values;
          before = a.prefix ++ w.before;
          element = w.element;
          fewer = (let l = w.fewer in omega arith);
          whole = ap (λ s. a.prefix ++ s) w.whole ∙ sym (append_assoc a.prefix w.before w.element);
          joined = record { first = a.prefix; others = w.before; whole = refl; first_is = a.is; others_are = w.joined };
          malformed = w.malformed;
        };
      }
