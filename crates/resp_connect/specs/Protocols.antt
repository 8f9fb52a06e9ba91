-- Versions of the protocol that a client asks for.
use Rattle.std.specs.Prelude.{ℕ, ◌||◌, List, codes, bytes_eq, Option, Some, None, if◌then◌else◌}
use Rattle.resp_args.specs.declared.options.ProtocolVersion.{ProtocolVersion}
use Rattle.resp_args.specs.declared.options.ProtocolVersion.TheVariants as version
use Rattle.resp_connect.specs.declared.protocol.ProtocolChoice.{ProtocolChoice}
use Rattle.resp_connect.specs.declared.protocol.ProtocolChoice.TheVariants.{RESP2, RESP3, PreferRESP3}

-- a version is chosen exactly
abbrev pub choice_of_version : ProtocolVersion → ProtocolChoice
choice_of_version version.RESP2 = RESP2
choice_of_version version.RESP3 = RESP3

-- the choice of this name in a URL
unfoldable pub protocol_named : List ℕ → Option ProtocolChoice
protocol_named name =
    if bytes_eq name (codes "2") || bytes_eq name (codes "resp2") then Some RESP2
    else (if bytes_eq name (codes "3") || bytes_eq name (codes "resp3") then Some RESP3
    else (if bytes_eq name (codes "prefer-resp3") then Some PreferRESP3
    else None))
