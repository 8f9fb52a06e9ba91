-- What is built of a value that is read: how far the value in progress is, and what a builder says of
-- it.
use Rattle.std.specs.Prelude.{◌≡◌, ℕ, List, [], Option, None, Some}
use Rattle.resp_value.specs.declared.value.Value.{Value}
use Rattle.resp_parse.specs.declared.shape.BodyKind.{BodyKind}
use Rattle.resp_parse.specs.declared.shape.ElementsKind.{ElementsKind}
use Rattle.resp_parse.specs.declared.open_aggregates.OpenAggregate.{OpenAggregate}
use Rattle.resp_parse.specs.declared.body.Body.{Body}

-- inside the open aggregates no value is begun; or a body is, of which these bytes are there; or a
-- value is whole
pub data Progress : Type 0 where
  nothing : Progress
  filling : List ℕ → Progress
  whole : Value → Progress

-- what a builder holds is that of these open aggregates, the innermost first, and of what is in
-- progress inside them
abbrev pub Stands : Type 0 → Type 1
Stands B = B → List OpenAggregate → Progress → Type 0

-- of the body that is open, if one is
abbrev pub progress_of : Option Body → Progress
progress_of None = nothing
progress_of (Some b) = filling b.seen

-- a body and an aggregate that have nothing yet
pub record BeginsBody (kind : BodyKind) (missing : ℕ) (body : Body) : Type 0 where
  pub kind_is : body.kind ≡ kind
  pub missing_is : body.missing ≡ missing
  pub none : body.seen ≡ []

pub record BeginsAggregate (kind : ElementsKind) (size after : ℕ) (f : OpenAggregate) : Type 0 where
  pub kind_is : f.kind ≡ kind
  pub size_is : f.size ≡ size
  pub after_is : f.after ≡ after
  pub none : f.seen ≡ []
