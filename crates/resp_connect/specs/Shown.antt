-- What addresses and settings show of themselves.
use Rattle.std.specs.Prelude.{ℕ, List, ◌++◌, codes, decimal, Option, None, Some}
use Rattle.std.specs.Fmt.{debug_option, debug_str, signed_decimal, ◌++?◌}
use Rattle.resp_connect.specs.declared.address.ConnectionAddr.{ConnectionAddr}
use Rattle.resp_connect.specs.declared.address.ConnectionAddr.TheVariants.{Tcp, Unix}
use Rattle.resp_connect.specs.declared.protocol.ProtocolChoice.{ProtocolChoice}
use Rattle.resp_connect.specs.declared.protocol.ProtocolChoice.TheVariants.{RESP2, RESP3, PreferRESP3}
use Rattle.resp_connect.specs.Targets.{Settings, Target}

-- an address as text: `host:port`, or a path
abbrev pub address_text : ConnectionAddr → List ℕ
address_text (Tcp host port) = host ++ codes ":" ++ decimal port
address_text (Unix path) = path

abbrev pub choice_text : ProtocolChoice → List ℕ
choice_text RESP2 = codes "RESP2"
choice_text RESP3 = codes "RESP3"
choice_text PreferRESP3 = codes "PreferRESP3"

-- a secret shows no more than whether there is one
abbrev pub hidden : Option (List ℕ) → List ℕ
hidden (Some secret) = codes "Some(***)"
hidden None = codes "None"

-- what settings show, where the user and the name are ASCII
abbrev pub settings_text : Settings → Option (List ℕ)
settings_text s =
    Some (codes "RedisConnectionInfo { db: ") ++? Some (signed_decimal s.db)
    ++? Some (codes ", username: ") ++? debug_option debug_str s.username
    ++? Some (codes ", password: ") ++? Some (hidden s.password)
    ++? Some (codes ", protocol: ") ++? Some (choice_text s.protocol)
    ++? Some (codes ", client_name: ") ++? debug_option debug_str s.client_name
    ++? Some (codes " }")

abbrev pub target_text : Target → Option (List ℕ)
target_text t =
    Some (codes "ConnectionInfo { addr: ") ++? Some (address_text t.addr)
    ++? Some (codes ", redis: ") ++? settings_text t.redis ++? Some (codes " }")
