-- A value that is built as a flat reply.
use Rattle.std.specs.Prelude.{◌≡◌, ℕ, suc, ◌+◌, ◌*◌, ◌≤◌, Bool, true, false, List, [], ◌∷◌, ◌++◌, length, map, take}
use Rattle.std.specs.Prelude.{drop, Option, None, Some}
use Rattle.std.proofs.Common.{arith}
use Rattle.std.specs.Str.{is_utf8}
use Rattle.resp_flat.specs.declared.token.Token.{Token}
use Rattle.resp_flat.specs.declared.token.TokenKind.{TokenKind}
use Rattle.resp_flat.specs.declared.token.TokenKind.TheVariants as token
use Rattle.resp_flat.specs.declared.flat_reply.FlatReply.{FlatReply}
use Rattle.resp_flat.specs.FlatReplies.{sized, placed, joined, tokens_of, text_of}
use Rattle.resp_parse.specs.declared.open_aggregates.OpenAggregate.{OpenAggregate}
use Rattle.resp_parse.specs.declared.body.Body.{Body}
use Rattle.resp_parse.specs.Building.{Progress, nothing, filling, whole, progress_of}
use Rattle.resp_parse.specs.Costs.{aggregates_least_bytes, PaidFor}
use Rattle.resp_parse.specs.Shapes.{count_of, token_kind}

-- the token of an open aggregate
abbrev pub opening : OpenAggregate → Token
opening f = sized (token_kind f.kind) f.size

-- the tokens and the text of open aggregates, the innermost first, and of their elements so far
abbrev pub tokens_in : List OpenAggregate → List Token
tokens_in [] = []
tokens_in (f ∷ fs) = tokens_in fs ++ (opening f ∷ joined (map tokens_of f.seen))

abbrev pub text_in : List OpenAggregate → List ℕ
text_in [] = []
text_in (f ∷ fs) = text_in fs ++ joined (map text_of f.seen)

-- where their own tokens stand, the outermost first
abbrev pub places_of : List OpenAggregate → List ℕ
places_of [] = []
places_of (f ∷ fs) = places_of fs ++ (length (tokens_in fs) ∷ [])

-- they have as many elements as announced, with the one in progress and those to come
abbrev pub AreCounted : List OpenAggregate → Type 0
AreCounted [] = Unit {0}
AreCounted (f ∷ fs) = (count_of f.kind f.size ≡ length f.seen + suc f.after) × AreCounted fs

-- a flat reply holds open aggregates, and then these tokens and this text
pub record HoldsFlat (reply : FlatReply) (opens : List ℕ) (fs : List OpenAggregate) (ts : List Token)
    (x : List ℕ) : Type 0 where
  pub tokens : reply.tokens.items ≡ placed 0 (tokens_in fs ++ ts)
  pub text : reply.text.items ≡ text_in fs ++ x
  pub places : opens ≡ places_of fs
  pub counts : AreCounted fs

-- its tokens were paid for by the bytes of the open aggregates
abbrev pub IsPaidFor : FlatReply → List OpenAggregate → Type 0
IsPaidFor reply fs = 3 * length reply.tokens.items ≤ 2 * aggregates_least_bytes fs

-- this reply, the places of the tokens of open aggregates, and where the bytes of a body begin are
-- what was built
abbrev pub BuildsFlat : FlatReply → List ℕ → ℕ → List OpenAggregate → Progress → Type 0
BuildsFlat reply opens start fs nothing = HoldsFlat reply opens fs [] [] × IsPaidFor reply fs
BuildsFlat reply opens start fs (filling x) =
    (HoldsFlat reply opens fs [] x × IsPaidFor reply fs) × (start ≡ length (text_in fs))
BuildsFlat reply opens start fs (whole v) = HoldsFlat reply opens fs (tokens_of v) (text_of v)

tokens-paid_for : (reply : FlatReply) (opens : List ℕ) (start : ℕ) (fs : List OpenAggregate)
    (body : Option Body) → BuildsFlat reply opens start fs (progress_of body) → IsPaidFor reply fs
tokens-paid_for reply opens start fs None h = h.1
tokens-paid_for reply opens start fs (Some b) h = h.0.1

pub flat-paid_for : (reply : FlatReply) (opens : List ℕ) (start : ℕ) (fs : List OpenAggregate)
    (body : Option Body) → BuildsFlat reply opens start fs (progress_of body) →
    PaidFor 0 (length reply.tokens.items) fs
flat-paid_for reply opens start fs body h = record {
  values = omega arith;
  tokens = tokens-paid_for reply opens start fs body h;
}

-- all elements of an aggregate are there, whose token stands at this place, and which is no longer
-- open
pub record HoldsAll (reply : FlatReply) (opens : List ℕ) (place : ℕ) (fs : List OpenAggregate)
    (f : OpenAggregate) : Type 0 where
  pub tokens : reply.tokens.items ≡ placed 0 (tokens_in (f ∷ fs))
  pub text : reply.text.items ≡ text_in (f ∷ fs)
  pub place_is : place ≡ length (tokens_in fs)
  pub count : count_of f.kind f.size ≡ length f.seen
  pub places : opens ≡ places_of fs
  pub counts : AreCounted fs

-- whether the first of these tokens names the kind of a push, in this text
abbrev pub names_kind_as : TokenKind → List ℕ → Bool
names_kind_as token.SimpleString name = true
names_kind_as token.BulkString name = is_utf8 name
names_kind_as _ name = false

abbrev pub names_kind : List Token → List ℕ → Bool
names_kind [] text = false
names_kind (t ∷ ts) text = names_kind_as t.kind (take t.size (drop t.start text))

-- where it is a simple string, it is a bulk string then
abbrev pub name_token : TokenKind → TokenKind
name_token token.SimpleString = token.BulkString
name_token k = k

abbrev pub with_name : List Token → List Token
with_name [] = []
with_name (t ∷ ts) = record t { kind = name_token t.kind } ∷ ts
