-- Texts of doubles (RESP3, "Doubles").
use Rattle.std.specs.Prelude.{◌≡◌, ◌⊎◌, ℕ, List, true}
use Rattle.resp_value.specs.declared.value.Value.{Value, Double}
use Rattle.resp_parse.specs.Double.{is_double}
use Rattle.resp_from.specs.Attributes.{stripped}
use Rattle.resp_from.specs.Texts.{OfText}

-- the text spells a double, and this is it
pub record SpellsDouble (text double : List ℕ) : Type 0 where
  pub is_one : is_double text ≡ true
  pub same : double ≡ text

-- the reply is a double of this text, or this text
abbrev pub IsDoubleOf : Value → List ℕ → Type 0
IsDoubleOf reply text = (reply ≡ Double text) ⊎ OfText reply text

-- the reply without an attribute is this double, or its text
pub record OfDouble (reply : Value) (double : List ℕ) : Type 0 where
  pub is_one : is_double double ≡ true
  pub text : IsDoubleOf (stripped reply) double
