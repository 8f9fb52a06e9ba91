-- The aggregates that are open, and what becomes of a value that is put in the innermost.
use Rattle.std.specs.Prelude.{◌≡◌, ℕ, zero, suc, Bool, false, nat_lt, List, [], ◌∷◌, ◌++◌, length, reverse}
use Rattle.resp_value.specs.declared.value.Value.{Value}
use Rattle.resp_parse.specs.declared.open_aggregates.OpenAggregate.{OpenAggregate}
use Rattle.resp_parse.specs.declared.open_aggregates.Added.{Added}
use Rattle.resp_parse.specs.declared.open_aggregates.Added.TheVariants as added

-- where n aggregates are open, the innermost and then the others, from the innermost on
abbrev pub innermost_first : ℕ → OpenAggregate → List OpenAggregate → List OpenAggregate
innermost_first zero f outer = []
innermost_first (suc n) f outer = f ∷ reverse outer

abbrev pub IsLength : ℕ → List OpenAggregate → Type 0
IsLength zero outer = outer ≡ []
IsLength (suc n) outer = n ≡ length outer

-- the innermost is closed, if one is open
abbrev pub ClosesInnermost : List OpenAggregate → List OpenAggregate → OpenAggregate → Type 0
ClosesInnermost [] new closed = new ≡ []
ClosesInnermost (f ∷ fs) new closed = (new ≡ fs) × (closed ≡ f)

-- the innermost lacks more elements than the one in progress
abbrev pub lacks_more : List OpenAggregate → Bool
lacks_more [] = false
lacks_more (f ∷ fs) = nat_lt 0 f.after

-- with one element more, and as many to come
abbrev pub with_element : OpenAggregate → Value → OpenAggregate
with_element f v = record f { seen = f.seen ++ (v ∷ []) }

abbrev pub counted_down : ℕ → OpenAggregate → OpenAggregate
counted_down k f = record f { after = k }

-- more elements are to come
pub record KeptIn (old : List OpenAggregate) (v : Value) (new : List OpenAggregate) : Type 0 where
  pub aggregate : OpenAggregate
  pub outer : List OpenAggregate
  pub after : ℕ
  pub old_is : old ≡ aggregate ∷ outer
  pub after_is : aggregate.after ≡ suc after
  pub new_is : new ≡ counted_down after (with_element aggregate v) ∷ outer

-- all elements are there
pub record ClosedBy (old : List OpenAggregate) (v : Value) (new : List OpenAggregate)
    (closed : OpenAggregate) : Type 0 where
  pub aggregate : OpenAggregate
  pub old_is : old ≡ aggregate ∷ new
  pub last : aggregate.after ≡ 0
  pub closed_is : closed ≡ with_element aggregate v

abbrev pub Adds : List OpenAggregate → Value → List OpenAggregate → Added → Type 0
Adds old v new added.Outermost = (old ≡ []) × (new ≡ [])
Adds old v new added.StillOpen = KeptIn old v new
Adds old v new (added.Closed closed) = ClosedBy old v new closed
