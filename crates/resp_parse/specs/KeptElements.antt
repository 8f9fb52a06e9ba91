-- The elements of an open aggregate, as they are kept: in the form in which its value has them.
use Rattle.std.specs.Prelude.{List, [], ◌∷◌}
use Rattle.resp_value.specs.declared.value.Value.{Value, Nil}
use Rattle.resp_parse.specs.declared.elements.Elements.{Elements}
use Rattle.resp_parse.specs.declared.elements.Elements.TheVariants.{Values, Pairs}
use Rattle.resp_parse.specs.declared.elements.Waits.{Waits}
use Rattle.resp_parse.specs.declared.elements.Waits.TheVariants.{Nothing, Key}
use Rattle.resp_parse.specs.declared.shape.ElementsKind.{ElementsKind}
use Rattle.resp_parse.specs.declared.shape.ElementsKind.TheVariants as elements_kind

-- a list two by two; beside an odd last one stands nil
abbrev pub padded : List Value → List (Value × Value)
padded [] = []
padded (key ∷ []) = (key, Nil) ∷ []
padded (key ∷ value ∷ rest) = (key, value) ∷ padded rest

-- the last of an odd number waits for its value
abbrev pub waits_in : List Value → Waits
waits_in [] = Nothing
waits_in (key ∷ []) = Key
waits_in (key ∷ value ∷ rest) = waits_in rest

-- these elements, of an aggregate of this kind
abbrev pub kept_as : ElementsKind → List Value → Elements
kept_as elements_kind.Array vs = Values vs
kept_as elements_kind.Set vs = Values vs
kept_as elements_kind.Map vs = Pairs (padded vs) (waits_in vs)
kept_as elements_kind.Attribute vs = Pairs (padded vs) (waits_in vs)
kept_as elements_kind.Push vs = Values vs
