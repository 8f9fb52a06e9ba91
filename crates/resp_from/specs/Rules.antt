-- The rules by which a list of replies, or a bulk string, is many values of one type (RESP,
-- "Arrays", "Bulk strings"; RESP3, "Maps", "Sets").
use Rattle.std.specs.Prelude.{◌≡◌, ℕ, ◌*◌, ◌==◌, ◌||◌, ◌⊎◌, pos, Bool, false, cond, List, [], ◌∷◌, length, map, Result}
use Rattle.std.specs.Prelude.{Err}
use Rattle.std.specs.Bool.{MatchBool}
use Rattle.std.specs.List.{AllZip, AllByRecursion, flat_map, list_all}
use Rattle.resp_errors.specs.declared.parsing_error.ParsingError.{ParsingError}
use Rattle.resp_value.specs.declared.value.Value.{Value, Array, BulkString, Int, out-Value}
use Rattle.resp_value.specs.declared.value.Value.TheOpen.{Value-F}
use Rattle.resp_from.specs.Conversion.{Decides, IsDescribed}

-- an array or a set of n values, or a map of half as many pairs
abbrev pub has_values : ℕ → Value-F Value → Bool
has_values n (Value-F.Array items) = length items == n
has_values n (Value-F.Set items) = length items == n
has_values n (Value-F.Map pairs) = 2 * length pairs == n
has_values n _ = false

-- each reply stands for one value: the type is no tuple, or all replies have as many values as the
-- tuple has elements
abbrev pub is_one_each : ℕ → List Value → Bool
is_one_each n replies = (n == 0) || list_all (λ reply. has_values n (out-Value reply)) replies

-- the pieces are the arrays of the list's groups of n
pub record AreGroups (n : ℕ) (replies pieces : List Value) : Type 0 where
  pub groups : List (List Value)
  pub whole : flat_map (λ group. group) groups ≡ replies
  pub each : AllByRecursion (λ group. length group ≡ n) groups
  pub made : pieces ≡ map Array groups

-- the pieces of the list stand for one value each, of a type of width n
abbrev pub ArePieces : ℕ → List Value → List Value → Type 0
ArePieces n replies pieces =
    MatchBool (is_one_each n replies) (pieces ≡ replies) (AreGroups n replies pieces)

-- the list rule: each piece of the list is a value
pub record OfList {X : Type 0} (n : ℕ) (Of : Value → X → Type 0) (replies : List Value)
    (xs : List X) : Type 0 where
  pub pieces : List Value
  pub cut : ArePieces n replies pieces
  pub each : AllZip Of pieces xs

-- each group of n is a value
pub record OfGroups {X : Type 0} (n : ℕ) (Of : Value → X → Type 0) (replies : List Value)
    (xs : List X) : Type 0 where
  pub pieces : List Value
  pub cut : AreGroups n replies pieces
  pub each : AllZip Of pieces xs

-- an answer for each piece of the list
pub record AnswersEach {X : Type 0} (n : ℕ) (Of : Value → X → Type 0) (replies : List Value)
    (answers : List (Result X ParsingError)) : Type 0 where
  pub pieces : List Value
  pub cut : ArePieces n replies pieces
  pub each : AllZip (λ piece r. Decides (Of piece) r) pieces answers

-- one refusal for a list that has no pieces
pub record RefusesUncut {X : Type 0} (n : ℕ) (replies : List Value)
    (answers : List (Result X ParsingError)) : Type 0 where
  pub none : (pieces : List Value) → ArePieces n replies pieces → ⊥
  pub error : ParsingError
  pub refusal : IsDescribed error
  pub only : answers ≡ Err error ∷ []

-- the list rule, answer by answer
abbrev pub OfEach : {X : Type 0} → ℕ → (Value → X → Type 0) → List Value
    → List (Result X ParsingError) → Type 0
OfEach n Of replies answers = AnswersEach n Of replies answers ⊎ RefusesUncut n replies answers

-- the replies that a bulk string's bytes stand for: a number each, or the one bulk string
abbrev pub byte_replies : Bool → List ℕ → List Value
byte_replies each bytes = cond each (map (λ byte. Int (pos byte)) bytes) (BulkString bytes ∷ [])

-- the byte rule: each of those replies is a value
abbrev pub OfBytes : {X : Type 0} → Bool → (Value → X → Type 0) → List ℕ → List X → Type 0
OfBytes each Of bytes xs = AllZip Of (byte_replies each bytes) xs
