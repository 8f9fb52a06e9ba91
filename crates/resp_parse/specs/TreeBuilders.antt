-- A value that is built as a tree.
use Rattle.std.specs.Prelude.{◌≡◌, ℕ, suc, ◌+◌, ◌*◌, ◌≤◌, List, [], ◌∷◌, ◌++◌, Option, None, Some}
use Rattle.std.specs.List.{sum_by}
use Rattle.std.proofs.Common.{ap, sym, ◌∙◌, arith}
use Rattle.std.proofs.lemmas.List.Sums.{sum_by-cons, sum_by_push}
use Rattle.resp_value.specs.declared.value.Value.{Value, Nil, fold-roll-Value}
use Rattle.resp_value.specs.declared.value.Value.TheVariants.{rolls-Nil}
use Rattle.resp_value.specs.declared.value.Value.TheOpen.{Value-F}
use Rattle.resp_parse.specs.declared.open_aggregates.OpenAggregate.{OpenAggregate}
use Rattle.resp_parse.specs.declared.body.Body.{Body}
use Rattle.resp_parse.specs.declared.elements.Elements.{Elements}
use Rattle.resp_parse.specs.declared.elements.Elements.TheVariants.{Values, Pairs}
use Rattle.resp_parse.specs.declared.shape.ElementsKind.{ElementsKind}
use Rattle.resp_parse.specs.declared.shape.ElementsKind.TheVariants as elements_kind
use Rattle.resp_parse.specs.Building.{Progress, nothing, filling, whole, progress_of}
use Rattle.resp_parse.specs.Built.{built, built_step}
use Rattle.resp_parse.specs.Costs.{built_of, aggregates_least_bytes, PaidFor}
use Rattle.resp_parse.specs.KeptElements.{padded, kept_as}
use Rattle.resp_parse.specs.OpenAggregates.{with_element}

-- the elements of open aggregates, the outermost first
abbrev pub elements_of : List OpenAggregate → List Elements
elements_of [] = []
elements_of (f ∷ fs) = elements_of fs ++ (kept_as f.kind f.seen ∷ [])

-- the elements are those of the innermost aggregate, and the others those of the others, after none
abbrev pub HoldsElements : List Elements → Elements → List OpenAggregate → Type 0
HoldsElements outer elements [] = (outer ≡ []) × (elements ≡ Values [])
HoldsElements outer elements (f ∷ fs) =
    (outer ≡ Values [] ∷ elements_of fs) × (elements ≡ kept_as f.kind f.seen)

-- the same, and one value after them, alone where no aggregate is open
abbrev pub HoldsWhole : List Elements → Elements → List OpenAggregate → Value → Type 0
HoldsWhole outer elements [] v = (outer ≡ []) × (elements ≡ Values (v ∷ []))
HoldsWhole outer elements (f ∷ fs) v = HoldsElements outer elements (with_element f v ∷ fs)

-- these elements, and these bytes of a body, are what was built
abbrev pub BuildsTree : List Elements → Elements → List ℕ → List OpenAggregate →
    Progress → Type 0
BuildsTree outer elements bytes fs nothing = HoldsElements outer elements fs
BuildsTree outer elements bytes fs (filling x) = HoldsElements outer elements fs × (bytes ≡ x)
BuildsTree outer elements bytes fs (whole v) = HoldsWhole outer elements fs v

-- how many values stand in elements, those inside others too, and nil beside a key
abbrev pub built_of_pair : Value × Value → ℕ
built_of_pair p = built p.0 + built p.1

abbrev pub built_as : Elements → ℕ
built_as (Values vs) = built_of vs
built_as (Pairs ps waits) = sum_by built_of_pair ps

abbrev pub values_in : List Elements → Elements → ℕ
values_in outer elements = sum_by built_as outer + built_as elements

-- ---- they were paid for by bytes: a nil beside a key by the header of its aggregate

built-Nil : built Nil ≡ 1
built-Nil = ap built (sym rolls-Nil) ∙ fold-roll-Value ℕ built_step Value-F.Nil

padded-built : (vs : List Value) → sum_by built_of_pair (padded vs) ≤ suc (built_of vs)
padded-built [] = omega arith
padded-built (key ∷ []) =
    let p = sum_by-cons built_of_pair (key, Nil) [] in
    let s = sum_by-cons built key [] in
    omega (arith, p, s, built-Nil)
padded-built (key ∷ value ∷ rest) =
    let p = sum_by-cons built_of_pair (key, value) (padded rest) in
    let s = sum_by-cons built key (value ∷ rest) in
    let t = sum_by-cons built value rest in
    let h : sum_by built_of_pair (padded rest) ≤ suc (built_of rest) = padded-built rest in
    omega (arith, p, s, t, h)

kept-built : (kind : ElementsKind) (vs : List Value) → built_as (kept_as kind vs) ≤ suc (built_of vs)
kept-built elements_kind.Array vs = omega arith
kept-built elements_kind.Set vs = omega arith
kept-built elements_kind.Map vs = padded-built vs
kept-built elements_kind.Attribute vs = padded-built vs
kept-built elements_kind.Push vs = omega arith

elements-paid_for : (fs : List OpenAggregate) →
    3 * sum_by built_as (elements_of fs) ≤ aggregates_least_bytes fs
elements-paid_for [] = omega arith
elements-paid_for (f ∷ fs) =
    let e = sum_by_push built_as (elements_of fs) (kept_as f.kind f.seen) in
    omega (arith, e, kept-built f.kind f.seen, elements-paid_for fs)

held-paid_for : (outer : List Elements) (elements : Elements) (fs : List OpenAggregate) →
    HoldsElements outer elements fs → 3 * values_in outer elements ≤ aggregates_least_bytes fs
held-paid_for outer elements [] h =
    omega (arith, ap (sum_by built_as) h.0, ap built_as h.1)
held-paid_for outer elements (f ∷ fs) h =
    let z = sum_by-cons built_as (Values []) (elements_of fs) in
    omega (
      arith,
      ap (sum_by built_as) h.0,
      ap built_as h.1,
      z,
      kept-built f.kind f.seen,
      elements-paid_for fs,
    )

pub tree-paid_for : (outer : List Elements) (elements : Elements) (bytes : List ℕ)
    (fs : List OpenAggregate) (body : Option Body) →
    BuildsTree outer elements bytes fs (progress_of body) → PaidFor (values_in outer elements) 0 fs
tree-paid_for outer elements bytes fs None h =
    record { values = held-paid_for outer elements fs h; tokens = omega arith }
tree-paid_for outer elements bytes fs (Some b) h =
    record { values = held-paid_for outer elements fs h.0; tokens = omega arith }
