-- Where the errors MOVED and ASK send a client (Redis cluster specification, "MOVED Redirection",
-- "ASK redirection").
use Rattle.std.specs.Prelude.{◌≡◌, ℕ, nat_lt, Bool, true, false, List, ◌∷◌, length, Some}
use Rattle.std.specs.Char.{is_ascii_whitespace}
use Rattle.std.specs.List.{filter, slice_split}
use Rattle.resp_errors.specs.declared.kinds.ServerErrorKind.TheVariants.{Moved, Ask}
use Rattle.resp_errors.specs.declared.kinds.ErrorKind.{ErrorKind}
use Rattle.resp_errors.specs.declared.kinds.ErrorKind.TheVariants as kind
use Rattle.resp_errors.specs.declared.redis_error.RedisError.{RedisError}
use Rattle.resp_errors.specs.Errors.{kind_of, detail_of}
use Rattle.resp_errors.specs.Numerals.{UnsignedText}

-- the words of a text: its parts between ASCII white space, but for the empty ones
abbrev pub words : List ℕ → List (List ℕ)
words text = filter (λ part. nat_lt 0 (length part)) (slice_split is_ascii_whitespace text)

-- the first word is the slot, and the second the address of a node
abbrev pub NamesNode : List (List ℕ) → List ℕ → ℕ → Type 0
NamesNode (first ∷ second ∷ more) address slot = UnsignedText 16 first slot × (address ≡ second)
NamesNode _ address slot = ⊥

abbrev pub is_redirect : ErrorKind → Bool
is_redirect (kind.Server Moved) = true
is_redirect (kind.Server Ask) = true
is_redirect _ = false

-- the error sends to the node at this address, for the keys of this slot
pub record RedirectsTo (e : RedisError) (address : List ℕ) (slot : ℕ) : Type 0 where
  pub detail : List ℕ
  pub redirects : is_redirect (kind_of e) ≡ true
  pub said : detail_of e ≡ Some detail
  pub named : NamesNode (words detail) address slot
