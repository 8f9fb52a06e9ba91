-- The query of a URL.
use Rattle.std.specs.Prelude.{ℕ, List, [], ◌∷◌, map, Bool, ◌||◌, codes, bytes_eq, Option, None, Some, is_some, Ok, Err, unwrap_or, if◌then◌else◌}
use Rattle.std.specs.List.{list_all}
use Rattle.std.specs.Option.{option_or}
use Rattle.std.specs.Str.Lossy.{utf8_lossy}
use Rattle.form_urlencoded.specs.Form.{raw_pairs, decode}
use Rattle.url.specs.Parts.{Parts}
use Rattle.resp_connect.specs.declared.address.refusal.Refusal.TheVariants.{Fragment, Parameter}
use Rattle.resp_connect.specs.declared.address.transport.Transport.{Transport}
use Rattle.resp_connect.specs.declared.address.transport.Transport.TheVariants.{Tcp, Tls, Unix}
use Rattle.resp_connect.specs.Answers.{Read}

-- names and values
abbrev pub Pairs : Type 0
Pairs = List (List ℕ × List ℕ)

-- a name or a value as text: `+` is a space, escapes are decoded, and what is no UTF-8 becomes
-- U+FFFD
unfoldable pub form_text : List ℕ → List ℕ
form_text bytes = utf8_lossy (decode bytes)

abbrev pub pair_text : List ℕ × List ℕ → List ℕ × List ℕ
pair_text pair = (form_text pair.0, form_text pair.1)

-- the pairs of a URL
unfoldable pub pairs_of : Parts → Pairs
pairs_of url = map pair_text (raw_pairs (unwrap_or url.query []))

-- the value of the last pair of this name
unfoldable pub value_of : List ℕ → Pairs → Option (List ℕ)
value_of name [] = None
value_of name (pair ∷ later) =
    option_or (value_of name later) (if bytes_eq pair.0 name then Some pair.1 else None)

abbrev pub is_common : List ℕ → Bool
is_common name = bytes_eq name (codes "protocol") || bytes_eq name (codes "client_name")

-- a URL of this kind has a parameter of this name
unfoldable pub takes : Transport → List ℕ → Bool
takes Tcp name = is_common name
takes Tls name = is_common name
takes Unix name = is_common name || bytes_eq name (codes "db") || bytes_eq name (codes "user")
    || bytes_eq name (codes "pass")

-- the pairs of a URL without a fragment, all of whose parameters are known
abbrev pub parameters : Transport → Parts → Read Pairs
parameters transport url =
    if is_some url.fragment then Err Fragment
    else (if list_all (λ pair. takes transport pair.0) (pairs_of url) then Ok (pairs_of url)
    else Err Parameter)
