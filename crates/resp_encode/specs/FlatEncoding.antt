-- What is sent for a reply that stands as tokens and a text.
use Rattle.std.specs.Prelude.{◌≡◌, ℕ, zero, suc, ◌*◌, List, [], ◌++◌, length, codes, Option, None, Some, Result, Ok}
use Rattle.std.specs.Prelude.{Err}
use Rattle.std.specs.Prelude.{option_and_then}
use Rattle.std.specs.Fmt.{◌++?◌}
use Rattle.resp_value.specs.declared.value.Value.{Value, BulkString}
use Rattle.resp_args.specs.declared.options.ProtocolVersion.{ProtocolVersion}
use Rattle.resp_args.specs.declared.options.ProtocolVersion.TheVariants.{RESP2, RESP3}
use Rattle.resp_flat.specs.declared.token.Token.{Token}
use Rattle.resp_flat.specs.declared.token.TokenKind.{TokenKind}
use Rattle.resp_flat.specs.FlatReplies.{placed, tokens_of, text_of}
use Rattle.resp_flat.specs.Readable.{IsReadable}
use Rattle.resp_flat.specs.Reading.{Read, refused, got, then, made_of, leaf_of, next_values, next_pairs, next_value}
use Rattle.resp_flat.specs.Reading.{whole}
use Rattle.resp_encode.specs.Resp2.{flat}
use Rattle.resp_encode.specs.declared.write_error.WriteError.{WriteError}
use Rattle.resp_encode.specs.declared.write_error.WriteError.TheVariants.{Memory, NoSpelling}
use Rattle.resp_encode.specs.Encoding.{joined}
use Rattle.resp_encode.specs.Encodings.{encoding_in}
use Rattle.resp_encode.specs.Appending.{Keeps, counted, marked}

-- the bytes for what these tokens and this text are read as, all of them, at d levels
abbrev pub flat_encoding : ProtocolVersion → ℕ → List Token → List ℕ → Option (List ℕ)
flat_encoding p d ts x = option_and_then (encoding_in p d) (whole (length x) (next_value x d ts 0))

-- the tokens and the text are those of a value that is read back, of at most d levels, and the bytes
-- are the ones for it
pub record SendsReply (p : ProtocolVersion) (d : ℕ) (ts : List Token) (x bytes : List ℕ) : Type 0 where
  pub value : Value
  pub tokens : ts ≡ placed 0 (tokens_of value)
  pub text : x ≡ text_of value
  pub readable : IsReadable d value
  pub encoded : encoding_in p d value ≡ Some bytes

-- the bytes for a value; none of a value that is read and not sent
abbrev pub spelled_in : Option ProtocolVersion → ℕ → Value → Option (List ℕ)
spelled_in (Some p) = encoding_in p
spelled_in None = λ d v. Some []

-- the line of a count, where a value is sent
abbrev pub counted_in : Option ProtocolVersion → ℕ → ℕ → Option (List ℕ)
counted_in (Some p) mark n = counted mark n
counted_in None mark n = Some []

-- the lines of a set's and of a map's count
abbrev pub set_count : Option ProtocolVersion → ℕ → Option (List ℕ)
set_count (Some RESP3) n = counted 126 n
set_count p n = counted_in p 42 n

abbrev pub map_count : Option ProtocolVersion → ℕ → Option (List ℕ)
map_count (Some RESP3) n = counted 37 n
map_count p n = counted_in p 42 (2 * n)

-- what comes before the n values of a push that has this name
abbrev pub push_head : Option ProtocolVersion → ℕ → List ℕ → ℕ → Option (List ℕ)
push_head None d name n = Some []
push_head (Some RESP2) d name n = counted 42 (suc n) ++? encoding_in RESP2 d (BulkString name)
push_head (Some RESP3) d [] zero = Some (marked 62 (codes "0"))
push_head (Some RESP3) d name n = counted 62 (suc n) ++? encoding_in RESP3 d (BulkString name)

-- the bytes for the leaf of this kind that has these
abbrev pub leaf_in : Option ProtocolVersion → ℕ → TokenKind → List ℕ → Option (List ℕ)
leaf_in p d kind bytes = option_and_then (spelled_in p d) (leaf_of kind bytes)

-- the bytes for what is read
abbrev pub spelled : {A : Type 0} → (A → Option (List ℕ)) → Read A → Read (List ℕ)
spelled spell r = then r (λ a. made_of (spell a))

-- what was there, and the bytes of what is read
abbrev pub after : List ℕ → Read (List ℕ) → Read (List ℕ)
after old r = then r (λ bytes. got (old ++ bytes))

-- one after another
abbrev pub both : Read (List ℕ) → (List Token → ℕ → Read (List ℕ)) → Read (List ℕ)
both r next = then r (λ bytes ts at. after bytes (next ts at))

-- the bytes for the next value
abbrev pub next_in : Option ProtocolVersion → ℕ → List ℕ → List Token → ℕ → Read (List ℕ)
next_in p d x ts at = spelled (spelled_in p d) (next_value x d ts at)

-- those for as many values
abbrev pub values_in : Option ProtocolVersion → ℕ → List ℕ → ℕ → List Token → ℕ → Read (List ℕ)
values_in p d x n ts at = spelled (joined (spelled_in p d)) (next_values (next_value x d) n ts at)

-- those for as many keys and values
abbrev pub pairs_in : Option ProtocolVersion → ℕ → List ℕ → ℕ → List Token → ℕ → Read (List ℕ)
pairs_in p d x n ts at = spelled (λ ps. joined (spelled_in p d) (flat ps)) (next_pairs (next_value x d) n ts at)

-- those for the pairs of an attribute, which only RESP3 has
abbrev pub attributes_in : Option ProtocolVersion → ℕ → List ℕ → ℕ → List Token → ℕ → Read (List ℕ)
attributes_in (Some RESP3) d x n ts at = both (made_of (counted 124 n) ts at) (pairs_in (Some RESP3) d x n)
attributes_in _ d x n ts at = pairs_in None d x n ts at

-- what is read was given, as it is shown, and reading goes on there; or there is none
abbrev pub GivesRead : {A B : Type 0} → (A → B) → Read B → Result A WriteError → List Token → ℕ → Type 0
GivesRead shown r (Ok a) ts at = r ≡ got (shown a) ts at
GivesRead shown r (Err e) ts at = (e ≡ NoSpelling) × (r ≡ refused)

-- the bytes for what is read were appended, and reading goes on there; or there are none, or memory
-- ran out, and the bytes that were there come first
unfoldable pub AppendsRead : Result (Unit {0}) WriteError → Read (List ℕ) → List ℕ → List ℕ → List Token → ℕ → Type 0
AppendsRead (Ok done) r old new ts at = after old r ≡ got new ts at
AppendsRead (Err NoSpelling) r old new ts at = (r ≡ refused) × Keeps old new
AppendsRead (Err Memory) r old new ts at = Keeps old new
