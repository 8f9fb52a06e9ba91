-- The tokens that C gives, as they are read.
use Rattle.std.specs.Prelude.{nat_lt, Bool, cond, List, [], ◌∷◌, get_or}
use Rattle.resp_flat.specs.declared.token.Token.{Token}
use Rattle.resp_flat.specs.declared.token.TokenKind.{TokenKind}
use Rattle.resp_flat.specs.declared.token.TokenKind.TheVariants as kind
use Rattle.resp_c.specs.declared.token.RespToken.{RespToken}

-- the kinds, in the order of their numbers
abbrev pub kinds : List TokenKind
kinds = kind.Nil ∷ kind.Okay ∷ kind.Int ∷ kind.SimpleString ∷ kind.BulkString ∷ kind.Array ∷ kind.Map ∷ kind.Attribute
    ∷ kind.ServerError ∷ kind.Boolean ∷ kind.Double ∷ kind.BigNumber ∷ kind.Set ∷ kind.VerbatimString ∷ kind.Push ∷ []

-- its kind is one
abbrev pub is_known : RespToken → Bool
is_known r = nat_lt r.kind 15

-- the token of that kind
abbrev pub from_c : RespToken → Token
from_c r = record { kind = get_or kinds r.kind kind.Nil; size = r.size; number = r.number; start = r.start }

-- the tokens before the first whose kind is none
abbrev pub known_tokens : List RespToken → List Token
known_tokens [] = []
known_tokens (r ∷ rs) = cond (is_known r) (from_c r ∷ known_tokens rs) []
