-- What writing arguments leaves as it is.
use Rattle.std.specs.Prelude.{◌≡◌}

-- a part of a value
pub record Kept (X : Type 0) : Type 1 where
  pub What : Type 0
  pub of : X → What

-- a part that says nothing
abbrev pub nothing : {X : Type 0} → Kept X
nothing = record { What = Unit {0}; of = λ _. tt }

-- this part is as it was
abbrev pub Stays : {X : Type 0} → Kept X → X → X → Type 0
Stays kept old new = kept.of new ≡ kept.of old
