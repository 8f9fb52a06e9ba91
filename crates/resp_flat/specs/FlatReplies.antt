-- A reply without a tree: tokens in preorder, and the bytes of the leaves one after another.
use Rattle.std.specs.Prelude.{◌≡◌, ℕ, suc, ◌+◌, ℤ, pos, Bool, true, false, cond, List, [], ◌∷◌, ◌++◌, length, map, take}
use Rattle.resp_value.specs.declared.value.Value.{Value, fold-Value}
use Rattle.resp_value.specs.declared.value.Value.TheOpen.{Value-F}
use Rattle.resp_value.specs.declared.names.VerbatimFormat.{VerbatimFormat}
use Rattle.resp_value.specs.Names.{name_of_push_kind, name_of_format}
use Rattle.resp_errors.specs.ServerErrors.{text_of as error_text}
use Rattle.resp_flat.specs.declared.token.Token.{Token}
use Rattle.resp_flat.specs.declared.flat_reply.FlatReply.{FlatReply}
use Rattle.resp_flat.specs.declared.token.TokenKind.{TokenKind}
use Rattle.resp_flat.specs.declared.token.TokenKind.TheVariants as kind

-- a token of a size, and one of a number; where they begin is said by `placed`
abbrev pub sized : TokenKind → ℕ → Token
sized k n = record { kind = k; size = n; number = pos 0; start = 0 }

abbrev pub numbered : TokenKind → ℤ → Token
numbered k n = record { kind = k; size = 0; number = n; start = 0 }

-- a kind whose size counts bytes of the text
abbrev pub has_text : TokenKind → Bool
has_text kind.SimpleString = true
has_text kind.BulkString = true
has_text kind.ServerError = true
has_text kind.Double = true
has_text kind.BigNumber = true
has_text kind.VerbatimString = true
has_text _ = false

-- how many bytes of the text belong to the token alone
abbrev pub bytes_of : Token → ℕ
bytes_of t = cond (has_text t.kind) t.size 0

-- each token begins where the bytes of those before it end
abbrev pub placed : ℕ → List Token → List Token
placed at [] = []
placed at (t ∷ ts) = record t { start = at } ∷ placed (at + bytes_of t) ts

-- what was there comes first
abbrev pub Keeps : {A : Type 0} → List A → List A → Type 0
Keeps old new = take (length old) new ≡ old

abbrev pub joined : {A : Type 0} → List (List A) → List A
joined [] = []
joined (x ∷ xs) = x ++ joined xs

abbrev pub joined_pairs : {A : Type 0} → List (List A × List A) → List A
joined_pairs [] = []
joined_pairs (p ∷ ps) = p.0 ++ (p.1 ++ joined_pairs ps)

-- a format, a colon and a text
abbrev pub verbatim_text : VerbatimFormat → List ℕ → List ℕ
verbatim_text format text = name_of_format format ++ (58 ∷ text)

-- 1 for true
abbrev pub truth_number : Bool → ℤ
truth_number true = pos 1
truth_number false = pos 0

-- the tokens of a value whose elements have these
abbrev pub tokens_step : Value-F (List Token) → List Token
tokens_step Value-F.Nil = sized kind.Nil 0 ∷ []
tokens_step Value-F.Okay = sized kind.Okay 0 ∷ []
tokens_step (Value-F.Int n) = numbered kind.Int n ∷ []
tokens_step (Value-F.SimpleString text) = sized kind.SimpleString (length text) ∷ []
tokens_step (Value-F.BulkString bytes) = sized kind.BulkString (length bytes) ∷ []
tokens_step (Value-F.Array elements) = sized kind.Array (length elements) ∷ joined elements
tokens_step (Value-F.Map pairs) = sized kind.Map (length pairs) ∷ joined_pairs pairs
tokens_step (Value-F.Attribute payload attributes) =
    sized kind.Attribute (length attributes) ∷ (joined_pairs attributes ++ payload)
tokens_step (Value-F.ServerError error) = sized kind.ServerError (length (error_text error)) ∷ []
tokens_step (Value-F.Boolean truth) = numbered kind.Boolean (truth_number truth) ∷ []
tokens_step (Value-F.Double text) = sized kind.Double (length text) ∷ []
tokens_step (Value-F.BigNumber bytes) = sized kind.BigNumber (length bytes) ∷ []
tokens_step (Value-F.Set elements) = sized kind.Set (length elements) ∷ joined elements
tokens_step (Value-F.VerbatimString format text) =
    sized kind.VerbatimString (length (verbatim_text format text)) ∷ []
tokens_step (Value-F.Push k payload) =
    sized kind.Push (suc (length payload)) ∷ (sized kind.BulkString (length (name_of_push_kind k)) ∷ joined payload)

-- the tokens of a value, before they are placed
abbrev pub tokens_of : Value → List Token
tokens_of = fold-Value (List Token) tokens_step

-- the bytes of a value whose elements have these
abbrev pub text_step : Value-F (List ℕ) → List ℕ
text_step (Value-F.SimpleString text) = text
text_step (Value-F.BulkString bytes) = bytes
text_step (Value-F.Array elements) = joined elements
text_step (Value-F.Map pairs) = joined_pairs pairs
text_step (Value-F.Attribute payload attributes) = joined_pairs attributes ++ payload
text_step (Value-F.ServerError error) = error_text error
text_step (Value-F.Double text) = text
text_step (Value-F.BigNumber bytes) = bytes
text_step (Value-F.Set elements) = joined elements
text_step (Value-F.VerbatimString format text) = verbatim_text format text
text_step (Value-F.Push k payload) = name_of_push_kind k ++ joined payload
text_step _ = []

-- the bytes of a value's leaves
abbrev pub text_of : Value → List ℕ
text_of = fold-Value (List ℕ) text_step

abbrev pub tokens_of_pair : Value × Value → List Token × List Token
tokens_of_pair p = (tokens_of p.0, tokens_of p.1)

abbrev pub text_of_pair : Value × Value → List ℕ × List ℕ
text_of_pair p = (text_of p.0, text_of p.1)

-- those of a list, of a map or an attribute's pairs, and of a push
abbrev pub list_tokens : TokenKind → List Value → List Token
list_tokens k vs = sized k (length vs) ∷ joined (map tokens_of vs)

abbrev pub pairs_tokens : TokenKind → List (Value × Value) → List Token
pairs_tokens k ps = sized k (length ps) ∷ joined_pairs (map tokens_of_pair ps)

abbrev pub push_tokens : List ℕ → List Value → List Token
push_tokens name vs =
    sized kind.Push (suc (length vs)) ∷ (sized kind.BulkString (length name) ∷ joined (map tokens_of vs))

-- the reply holds the tokens and the text of the value
pub record IsFlatOf (reply : FlatReply) (v : Value) : Type 0 where
  pub tokens : reply.tokens.items ≡ placed 0 (tokens_of v)
  pub text : reply.text.items ≡ text_of v
