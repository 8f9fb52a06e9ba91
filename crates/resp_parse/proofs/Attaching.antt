-- A whole value is put in the innermost of the open aggregates.
use Rattle.std.proofs.Common.{◌≡◌, ℕ, suc, ◌+◌, ◌*◌, ◌≤◌, List, [], ◌∷◌, ◌++◌, length, refl, ap, ◌∙◌, sym, subst, arith}
use Rattle.std.proofs.Common.{Some, None, Ok, Err}
use Rattle.std.proofs.lemmas.Grind.{common_steps}
use Rattle.std.proofs.lemmas.List.Sums.{sum_by-cons, sum_by-append}
use Rattle.std.specs.List.{sum_by}
use Rattle.resp_value.specs.declared.value.Value.{Value}
use Rattle.resp_parse.specs.declared.read_error.ReadError.{ReadError}
use Rattle.resp_parse.specs.declared.read_error.ReadError.TheVariants.{Memory, Fault}
use Rattle.resp_parse.specs.declared.shape.ElementsKind.{ElementsKind}
use Rattle.resp_parse.specs.declared.open_aggregates.OpenAggregate.{OpenAggregate}
use Rattle.resp_parse.specs.declared.open_aggregates.Added.TheVariants as added
use Rattle.resp_parse.specs.OpenAggregates.{Adds, KeptIn, ClosedBy, with_element, counted_down}
use Rattle.resp_parse.specs.Building.{Stands, nothing, whole}
use Rattle.resp_parse.specs.declared.machine.Machine.{Machine}
use Rattle.resp_parse.specs.Shapes.{elements_value}
use Rattle.resp_parse.specs.PlainReading.{then, made}
use Rattle.resp_parse.specs.Computes.{Computes}
use Rattle.resp_parse.specs.Resume.{place, Ends}
use Rattle.resp_parse.specs.Built.{built}
use Rattle.resp_parse.specs.Costs.{built_of, aggregates_least_bytes, aggregates_potential}
use Rattle.resp_parse.proofs.OpenAggregates.{keeps, closes}
use Rattle.resp_parse.proofs.Sizes.{elements-small}

-- what began as w inside gs has become v inside f and fs; the elements of f are then vs
module _ (d : ℕ) (gs : List OpenAggregate) (w : Value) (now : List OpenAggregate) (v : Value)
    (same : (more : List ℕ) → place d gs w more ≡ place d now v more)
    (f : OpenAggregate) (fs : List OpenAggregate) (now_is : now ≡ f ∷ fs) (vs : List Value)
    (vs_is : vs ≡ f.seen ++ (v ∷ [])) where
  before : (more : List ℕ) → place d gs w more ≡ place d (f ∷ fs) v more
  before more = same more ∙ ap (λ x. place d x v more) now_is

  -- more elements are to come
  pub attach-keeps : {B : Type 0} (m : Machine B) (k : ℕ) (g : OpenAggregate) → f.after ≡ suc k → g.kind ≡ f.kind
      → g.after ≡ k → g.seen ≡ vs → m.depth ≡ d → m.open_aggregates ≡ g ∷ fs → m.body ≡ None
      → Ends (place d gs w) m (Ok None)
  attach-keeps m k g a gk ga gv l e b =
      ((λ more. before more ∙ rw (l, e, b) (keeps d k f g fs v more a gk ga (gv ∙ vs_is))), rw (e, b) refl)

  closed : f.after ≡ 0 → (more : List ℕ) → place d gs w more ≡ then (made (elements_value f.kind vs) more) (place d fs)
  closed a more = before more ∙ closes d f fs v more a
      ∙ ap (λ x. then (made (elements_value f.kind x) more) (place d fs)) (sym vs_is)

  -- all elements are there, and make a value
  pub attach-closes : (u : Value) → f.after ≡ 0 → Computes (Ok u) (elements_value f.kind vs) → (more : List ℕ)
      → place d gs w more ≡ place d fs u more
  attach-closes u a c more = closed a more ∙ rw c refl

  -- all elements are there, and make none
  pub attach-refused : {B : Type 0} (m : Machine B) (e : ReadError) → f.after ≡ 0
      → Computes (Err e) (elements_value f.kind vs) → Ends (place d gs w) m (Err e)
  attach-refused m Memory a c = tt
  attach-refused m (Fault g) a c = λ more. closed a more ∙ rw c refl

-- the least bytes and the potential of the aggregates, where the innermost has one element more
module _ (now : List OpenAggregate) (f : OpenAggregate) (fs : List OpenAggregate) (now_is : now ≡ f ∷ fs) (v : Value)
    (vs : List Value) (vs_is : vs ≡ f.seen ++ (v ∷ [])) where
  pub elements-more : length vs ≡ suc (length f.seen)
  elements-more = ap length vs_is ∙ grind (arith, common_steps)

  pub built-more : built_of vs ≡ built_of f.seen + built v
  built-more =
      let one : sum_by built (v ∷ []) ≡ built v + sum_by built [] = sum_by-cons built v [] in
      let both : sum_by built (f.seen ++ (v ∷ []))
      ≡ sum_by built f.seen + sum_by built (v ∷ []) = sum_by-append built f.seen (v ∷ []) in ap built_of vs_is
      ∙ omega (arith, one, both)

  pub least_bytes-now : aggregates_least_bytes now ≡ 3 + 3 * built_of f.seen + aggregates_least_bytes fs
  least_bytes-now = ap aggregates_least_bytes now_is

  pub potential-now : aggregates_potential now ≡ 1 + aggregates_potential fs
  potential-now = ap aggregates_potential now_is

  -- all elements are there
  pub closes-least_bytes : (u : Value) → Computes (Ok u) (elements_value f.kind vs)
      → aggregates_least_bytes fs + 3 * built u ≤ aggregates_least_bytes now + 3 * built v
  closes-least_bytes u c =
      let small : built u ≤ suc (built_of vs) = elements-small f.kind vs u (omega (arith, elements-more)) c in
      omega (arith, small, built-more, least_bytes-now)

  pub closes-potential : aggregates_potential fs + 1 ≤ aggregates_potential now
  closes-potential = omega (arith, potential-now)

-- what an open aggregate that a value was put in has become
module _ (d : ℕ) (gs : List OpenAggregate) (w : Value) (now : List OpenAggregate) (v : Value)
    (same : (more : List ℕ) → place d gs w more ≡ place d now v more) where
  pub added-outermost : {B : Type 0} (m : Machine B) (u : Value) → Adds now v m.open_aggregates added.Outermost → u ≡ v
      → m.body ≡ None → Ends (place d gs w) m (Ok (Some u))
  added-outermost m u a e b = ((λ more. same more ∙ rw (a.0, e) refl), rw (b, a.1) refl)

  pub added-kept : {B : Type 0} (m : Machine B) → m.depth ≡ d → KeptIn now v m.open_aggregates → m.body ≡ None
      → Ends (place d gs w) m (Ok None)
  added-kept m l a b = attach-keeps d gs w now v same a.aggregate a.outer a.old_is (a.aggregate.seen ++ (v ∷ [])) refl m
      a.after _ a.after_is refl refl refl l a.new_is b

  module _ (fs : List OpenAggregate) (f : OpenAggregate) (a : ClosedBy now v fs f) where
    kind-is : f.kind ≡ a.aggregate.kind
    kind-is = ap (λ (g : OpenAggregate). g.kind) a.closed_is

    seen-is : f.seen ≡ a.aggregate.seen ++ (v ∷ [])
    seen-is = ap (λ (g : OpenAggregate). g.seen) a.closed_is

    pub added-closed : (u : Value) → Computes (Ok u) (elements_value f.kind f.seen) → (more : List ℕ)
        → place d gs w more ≡ place d fs u more
    added-closed u c = attach-closes d gs w now v same a.aggregate fs a.old_is f.seen seen-is u a.last
        (rw (← kind-is) c)

    pub added-refused : {B : Type 0} (m : Machine B) (e : ReadError) → Computes (Err e) (elements_value f.kind f.seen)
        → Ends (place d gs w) m (Err e)
    added-refused m e c = attach-refused d gs w now v same a.aggregate fs a.old_is f.seen seen-is m e a.last
        (subst (λ (k : ElementsKind). Computes (Err e) (elements_value k f.seen)) kind-is c)

    pub closed-least_bytes : (u : Value) → Computes (Ok u) (elements_value f.kind f.seen)
        → aggregates_least_bytes fs + 3 * built u ≤ aggregates_least_bytes now + 3 * built v
    closed-least_bytes u c = closes-least_bytes now a.aggregate fs a.old_is v f.seen seen-is u (rw (← kind-is) c)

    pub closed-potential : aggregates_potential fs + 1 ≤ aggregates_potential now
    closed-potential = closes-potential now a.aggregate fs a.old_is v f.seen seen-is

    pub closed-shorter : length now ≡ suc (length fs)
    closed-shorter = ap (λ (x : List OpenAggregate). length x) a.old_is

-- what a builder holds then
module _ {B : Type 0} (S : Stands B) (b : B) (now : List OpenAggregate) (w : Value) (new : List OpenAggregate)
    (h : S b now (whole w)) where
  -- of an element that isn't the last
  pub builds-kept : (c : B) → KeptIn now w new
      → ((f : OpenAggregate) (fs : List OpenAggregate) (u : Value) (k : ℕ) → f.after ≡ suc k → S b (f ∷ fs) (whole u)
      → S c (counted_down k (with_element f u) ∷ fs) nothing) → S c new nothing
  builds-kept c a keeps = subst (λ fs. S c fs nothing) (sym a.new_is)
      (keeps a.aggregate a.outer w a.after a.after_is (subst (λ fs. S b fs (whole w)) a.old_is h))

  -- what was known before of the closed one
  pub builds-closed : (f : OpenAggregate) (a : ClosedBy now w new f) → S b (a.aggregate ∷ new) (whole w)
  builds-closed f a = subst (λ fs. S b fs (whole w)) a.old_is h

  pub builds-outermost : now ≡ [] → new ≡ [] → S b new (whole w)
  builds-outermost e f = subst (λ fs. S b fs (whole w)) (e ∙ sym f) h
