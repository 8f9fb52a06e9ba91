-- What the URL of a server says.
use Rattle.std.specs.Prelude.{ℕ, ℤ, pos, List, [], ◌∷◌, reverse, slice_index, Bool, ◌&&◌, ◌||◌, ◌==◌, codes, bytes_eq, Option, None, Some, is_some, unwrap_or, Ok, Err, if◌then◌else◌}
use Rattle.std.specs.Net.Addr.{ipv4_octets, ipv6_segments}
use Rattle.std.specs.Net.Text.{ipv4_text, ipv6_text}
use Rattle.std.specs.Str.{is_utf8}
use Rattle.percent_encoding.specs.Percent.{percent_decode}
use Rattle.url.specs.declared.host.Host.{Host}
use Rattle.url.specs.declared.host.Host.TheVariants.{Domain, Ipv4, Ipv6}
use Rattle.url.specs.declared.slicing.Position.TheVariants.{BeforeUsername, AfterPort}
use Rattle.url.specs.Input.{is_empty}
use Rattle.url.specs.Parts.{Parts, nonempty_host, text_between}
use Rattle.url.specs.Parser.{parse_url}
use Rattle.resp_parse.specs.Number.{plain_number}
use Rattle.resp_connect.specs.declared.address.ConnectionAddr.{ConnectionAddr}
use Rattle.resp_connect.specs.declared.address.ConnectionAddr.TheVariants as at
use Rattle.resp_connect.specs.declared.address.refusal.Refusal.{Refusal}
use Rattle.resp_connect.specs.declared.address.refusal.Refusal.TheVariants as refused
use Rattle.resp_connect.specs.declared.address.transport.Transport.{Transport}
use Rattle.resp_connect.specs.declared.address.transport.Transport.TheVariants as by
use Rattle.resp_connect.specs.declared.protocol.ProtocolChoice.{ProtocolChoice}
use Rattle.resp_connect.specs.declared.protocol.ProtocolChoice.TheVariants.{RESP2}
use Rattle.resp_connect.specs.Answers.{Read, and_then}
use Rattle.resp_connect.specs.Protocols.{protocol_named}
use Rattle.resp_connect.specs.Queries.{Pairs, parameters, value_of}
use Rattle.resp_connect.specs.Schemes.{transport_of}
use Rattle.resp_connect.specs.Targets.{Settings, Target}

-- ---- parts

-- a host as a name, or as an address without brackets
abbrev pub host_name : Host (List ℕ) → List ℕ
host_name (Domain name) = name
host_name (Ipv4 address) = ipv4_text (ipv4_octets address)
host_name (Ipv6 address) = ipv6_text (ipv6_segments address)

-- the host stands for every address
abbrev pub is_wildcard : List ℕ → Bool
is_wildcard host = bytes_eq host (codes "0.0.0.0") || bytes_eq host (codes "::")

abbrev pub address_of : Option (Host (List ℕ)) → ℕ → Read ConnectionAddr
address_of None port = Err refused.Hostname
address_of (Some host) port =
    if is_wildcard (host_name host) then Err refused.Wildcard else Ok (at.Tcp (host_name host) port)

-- the address over TCP: the host, and the port or 6379
unfoldable pub tcp_address : Parts → Read ConnectionAddr
tcp_address url = address_of (nonempty_host url) (unwrap_or url.port 6379)

-- a part without its escapes
unfoldable pub unescaped : Refusal → List ℕ → Read (List ℕ)
unescaped refusal part =
    if is_utf8 (percent_decode part) then Ok (percent_decode part) else Err refusal

-- a user or a password, if the part isn't empty
unfoldable pub credential : Refusal → List ℕ → Read (Option (List ℕ))
credential refusal part =
    if is_empty part then Ok None else and_then (unescaped refusal part) (λ text. Ok (Some text))

-- between the slashes and the path stands nothing, or `localhost`
abbrev pub is_local : Parts → Bool
is_local url =
    let authority = text_between url BeforeUsername AfterPort in
    is_empty authority || bytes_eq authority (codes "localhost")

abbrev pub has_path : Parts → Bool
has_path url = slice_index url.path 0 == 47

-- the address of a Unix socket: the path
unfoldable pub unix_address : Parts → Read ConnectionAddr
unix_address url =
    if is_local url && has_path url
    then and_then (unescaped refused.PathText url.path) (λ path. Ok (at.Unix path))
    else Err refused.Path

-- a text without the slashes at its front, and at its end
unfoldable pub after_slashes : List ℕ → List ℕ
after_slashes [] = []
after_slashes (b ∷ bytes) = if b == 47 then after_slashes bytes else b ∷ bytes

abbrev pub before_slashes : List ℕ → List ℕ
before_slashes bytes = reverse (after_slashes (reverse bytes))

-- what stands in a path between the slashes at its ends, if anything does
abbrev pub between_slashes : List ℕ → Option (List ℕ)
between_slashes path =
    let text = before_slashes (after_slashes path) in if is_empty text then None else Some text

-- a database by its number; none is database 0
unfoldable pub database : Option (List ℕ) → Read ℤ
database None = Ok (pos 0)
database (Some text) = elim (plain_number text) [ Some n ↦ Ok n | None ↦ Err refused.Database ]

-- a protocol by its name; none is RESP2
unfoldable pub protocol : Option (List ℕ) → Read ProtocolChoice
protocol None = Ok RESP2
protocol (Some name) = elim (protocol_named name) [ Some c ↦ Ok c | None ↦ Err refused.Protocol ]

-- ---- the whole

-- how a server is greeted over TCP
unfoldable pub tcp_settings : Parts → Pairs → Read Settings
tcp_settings url pairs =
    and_then (database (between_slashes url.path)) (λ db.
    and_then (protocol (value_of (codes "protocol") pairs)) (λ choice.
    and_then (credential refused.Username url.username) (λ username.
    and_then (credential refused.Password url.password) (λ password.
    Ok (record {
      db = db;
      username = username;
      password = password;
      protocol = choice;
      client_name = value_of (codes "client_name") pairs;
    })))))

-- how a server is greeted over a Unix socket
unfoldable pub unix_settings : Pairs → Read Settings
unix_settings pairs =
    and_then (database (value_of (codes "db") pairs)) (λ db.
    and_then (protocol (value_of (codes "protocol") pairs)) (λ choice.
    Ok (record {
      db = db;
      username = value_of (codes "user") pairs;
      password = value_of (codes "pass") pairs;
      protocol = choice;
      client_name = value_of (codes "client_name") pairs;
    })))

-- `redis://[user[:password]@]host[:port][/db][?protocol=..][&client_name=..]`
unfoldable pub tcp_target : Parts → Read Target
tcp_target url =
    and_then (parameters by.Tcp url) (λ pairs.
    and_then (tcp_address url) (λ addr.
    and_then (tcp_settings url pairs) (λ redis.
    Ok (record { addr = addr; redis = redis }))))

-- `unix:///path[?db=..][&user=..][&pass=..][&protocol=..][&client_name=..]`
unfoldable pub unix_target : Parts → Read Target
unix_target url =
    and_then (parameters by.Unix url) (λ pairs.
    and_then (unix_address url) (λ addr.
    and_then (unix_settings pairs) (λ redis.
    Ok (record { addr = addr; redis = redis }))))

abbrev pub target_by : Option Transport → Parts → Read Target
target_by (Some by.Tcp) url = tcp_target url
target_by (Some by.Tls) url = Err refused.NoTls
target_by (Some by.Unix) url = unix_target url
target_by None url = Err refused.NotRedis

-- what a URL says, or why it is refused
unfoldable pub target_of : Parts → Read Target
target_of url = target_by (transport_of url.scheme) url

abbrev pub if_redis : Parts → Option Parts
if_redis url = if is_some (transport_of url.scheme) then Some url else None

-- a text as a URL, if it is one with a scheme of a server
unfoldable pub redis_url : List ℕ → Option Parts
redis_url text = elim (parse_url None text) [ Ok url ↦ if_redis url | Err e ↦ None ]

-- what a text says as a URL, or why it is refused
unfoldable pub target_of_text : List ℕ → Read Target
target_of_text text = elim (redis_url text) [ Some url ↦ target_of url | None ↦ Err refused.NotUrl ]
