-- A value inside a flat reply: which value it shows, and what its parts show.
use Rattle.std.specs.Prelude.{◌≡◌, ℕ, zero, suc, ◌+◌, ◌*◌, nat_le, ℤ, pos, Bool, true, false, cond, List, [], ◌∷◌, ◌++◌}
use Rattle.std.specs.Prelude.{length, take, drop, Option, None, Some}
use Rattle.std.specs.Ordering.{int_eq}
use Rattle.resp_value.specs.declared.value.Value.{Value, BulkString, out-Value}
use Rattle.resp_value.specs.declared.value.Value.TheOpen.{Value-F}
use Rattle.resp_value.specs.Names.{name_of_push_kind}
use Rattle.resp_errors.specs.ServerErrors.{text_of as error_text}
use Rattle.resp_flat.specs.declared.token.Token.{Token}
use Rattle.resp_flat.specs.declared.token.TokenKind.{TokenKind}
use Rattle.resp_flat.specs.declared.token.TokenKind.TheVariants as kind
use Rattle.resp_flat.specs.declared.flat_value.FlatValue.{FlatValue}
use Rattle.resp_flat.specs.declared.flat_iter.FlatElements.{FlatElements}
use Rattle.resp_flat.specs.declared.flat_iter.FlatPairs.{FlatPairs}
use Rattle.resp_flat.specs.FlatReplies.{placed, tokens_of, text_of, verbatim_text}

-- the tokens of a reply from some value's on, and the whole text of the reply
abbrev pub View : Type 0
View = List Token × List ℕ

-- the tokens begin with the value's, each at the place of its bytes in the text
pub record IsShownIn (view : View) (v : Value) : Type 0 where
  pub before : List ℕ
  pub after : List ℕ
  pub rest : List Token
  pub tokens : view.0 ≡ placed (length before) (tokens_of v) ++ rest
  pub text : view.1 ≡ before ++ (text_of v ++ after)

abbrev pub BothAreShownIn : View × View → Value × Value → Type 0
BothAreShownIn views p = IsShownIn views.0 p.0 × IsShownIn views.1 p.1

abbrev pub view_of : FlatValue → View
view_of c = (c.token.now ∷ c.others.now, c.text.now)

-- the kind of the token that a cursor stands at
abbrev pub kind_at : FlatValue → TokenKind
kind_at c = c.token.now.kind

-- the cursor stands at this value
abbrev pub Shows : FlatValue → Value → Type 0
Shows c v = IsShownIn (view_of c) v

-- a cursor stands at the value, if there is one, and else there is none
abbrev pub ShowsIf : Option FlatValue → Option Value → Type 0
ShowsIf (Some c) (Some v) = Shows c v
ShowsIf None None = Unit {0}
ShowsIf _ _ = ⊥

-- ---- what a value is

abbrev pub kind_in : Value-F Value → TokenKind
kind_in Value-F.Nil = kind.Nil
kind_in Value-F.Okay = kind.Okay
kind_in (Value-F.Int n) = kind.Int
kind_in (Value-F.SimpleString text) = kind.SimpleString
kind_in (Value-F.BulkString bytes) = kind.BulkString
kind_in (Value-F.Array elements) = kind.Array
kind_in (Value-F.Map pairs) = kind.Map
kind_in (Value-F.Attribute payload attributes) = kind.Attribute
kind_in (Value-F.ServerError error) = kind.ServerError
kind_in (Value-F.Boolean truth) = kind.Boolean
kind_in (Value-F.Double text) = kind.Double
kind_in (Value-F.BigNumber bytes) = kind.BigNumber
kind_in (Value-F.Set elements) = kind.Set
kind_in (Value-F.VerbatimString format text) = kind.VerbatimString
kind_in (Value-F.Push k payload) = kind.Push

abbrev pub kind_of : Value → TokenKind
kind_of v = kind_in (out-Value v)

abbrev pub int_in : Value-F Value → Option ℤ
int_in (Value-F.Int n) = Some n
int_in _ = None

abbrev pub int_of : Value → Option ℤ
int_of v = int_in (out-Value v)

abbrev pub truth_in : Value-F Value → Option Bool
truth_in (Value-F.Boolean truth) = Some truth
truth_in _ = None

abbrev pub truth_of : Value → Option Bool
truth_of v = truth_in (out-Value v)

-- the bytes of a value of a kind that has text
abbrev pub bytes_in : Value-F Value → Option (List ℕ)
bytes_in (Value-F.SimpleString text) = Some text
bytes_in (Value-F.BulkString bytes) = Some bytes
bytes_in (Value-F.ServerError error) = Some (error_text error)
bytes_in (Value-F.Double text) = Some text
bytes_in (Value-F.BigNumber bytes) = Some bytes
bytes_in (Value-F.VerbatimString format text) = Some (verbatim_text format text)
bytes_in _ = None

abbrev pub leaf_bytes : Value → Option (List ℕ)
leaf_bytes v = bytes_in (out-Value v)

-- the values of an array, a set or a push, which begins with the name of its kind
abbrev pub elements_in : Value-F Value → List Value
elements_in (Value-F.Array elements) = elements
elements_in (Value-F.Set elements) = elements
elements_in (Value-F.Push k payload) = BulkString (name_of_push_kind k) ∷ payload
elements_in _ = []

abbrev pub elements_of : Value → List Value
elements_of v = elements_in (out-Value v)

-- the pairs of a map or an attribute
abbrev pub pairs_in : Value-F Value → List (Value × Value)
pairs_in (Value-F.Map pairs) = pairs
pairs_in (Value-F.Attribute payload attributes) = attributes
pairs_in _ = []

abbrev pub pairs_of : Value → List (Value × Value)
pairs_of v = pairs_in (out-Value v)

-- how many elements or pairs a value has
abbrev pub count_of : Value → ℕ
count_of v = length (elements_of v) + length (pairs_of v)

abbrev pub described_in : Value-F Value → Option Value
described_in (Value-F.Attribute payload attributes) = Some payload
described_in _ = None

-- the value that an attribute describes
abbrev pub described_by : Value → Option Value
described_by v = described_in (out-Value v)

-- ---- what a token says of its value

abbrev pub int_at : TokenKind → ℤ → Option ℤ
int_at kind.Int z = Some z
int_at _ z = None

abbrev pub truth_at : TokenKind → ℤ → Option Bool
truth_at kind.Boolean z = Some (int_eq z (pos 1))
truth_at _ z = None

abbrev pub bytes_at : List ℕ → ℕ → ℕ → Option (List ℕ)
bytes_at x at n = cond (nat_le (at + n) (length x)) (Some (take n (drop at x))) None

abbrev pub element_count : TokenKind → ℕ → ℕ
element_count kind.Array n = n
element_count kind.Set n = n
element_count kind.Push n = n
element_count _ n = 0

abbrev pub pair_count : TokenKind → ℕ → ℕ
pair_count kind.Map n = n
pair_count kind.Attribute n = n
pair_count _ n = 0

abbrev pub is_attribute : TokenKind → Bool
is_attribute kind.Attribute = true
is_attribute _ = false

-- ---- the parts of a value

-- how many values come after a token of this kind and size as parts of its value
abbrev pub part_count : TokenKind → ℕ → ℕ
part_count kind.Array n = n
part_count kind.Set n = n
part_count kind.Push n = n
part_count kind.Map n = 2 * n
part_count kind.Attribute n = 2 * n + 1
part_count _ n = 0

-- the tokens after so many values
abbrev pub after_values : ℕ → List Token → List Token
after_values zero ts = ts
after_values (suc n) [] = []
after_values (suc n) (t ∷ ts) = after_values (n + part_count t.kind t.size) ts

-- so many values, one after another
abbrev pub views_from : ℕ → List Token → List ℕ → List View
views_from zero ts x = []
views_from (suc n) [] x = []
views_from (suc n) (t ∷ ts) x = (t ∷ ts, x) ∷ views_from n (after_values (part_count t.kind t.size) ts) x

-- the elements that are left
abbrev pub elements_left : FlatElements → List View
elements_left it = views_from it.left it.tokens.now it.text.now

-- no tokens are missing of the elements that are left
pub record HasAllElements (it : FlatElements) : Type 0 where
  pub all : length (elements_left it) ≡ it.left

abbrev pub two_by_two : {A : Type 0} → List A → List (A × A)
two_by_two [] = []
two_by_two (key ∷ []) = []
two_by_two (key ∷ value ∷ rest) = (key, value) ∷ two_by_two rest

-- the pairs that are left
abbrev pub pairs_left : FlatPairs → List (View × View)
pairs_left it = two_by_two (elements_left it.parts)

-- no tokens are missing of the pairs that are left
abbrev pub HasAllPairs : FlatPairs → Type 0
HasAllPairs it = HasAllElements it.parts

abbrev pub views_of : FlatValue × FlatValue → View × View
views_of p = (view_of p.0, view_of p.1)
