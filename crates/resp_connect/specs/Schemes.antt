-- The schemes of a URL.
use Rattle.std.specs.Prelude.{ℕ, List, ◌||◌, codes, bytes_eq, Option, None, Some, if◌then◌else◌}
use Rattle.resp_connect.specs.declared.address.transport.Transport.{Transport}
use Rattle.resp_connect.specs.declared.address.transport.Transport.TheVariants.{Tcp, Tls, Unix}

-- how a server is reached by a URL of this scheme
unfoldable pub transport_of : List ℕ → Option Transport
transport_of scheme =
    if bytes_eq scheme (codes "redis") || bytes_eq scheme (codes "valkey") then Some Tcp
    else (if bytes_eq scheme (codes "rediss") || bytes_eq scheme (codes "valkeys") then Some Tls
    else (if bytes_eq scheme (codes "unix") || bytes_eq scheme (codes "redis+unix")
    || bytes_eq scheme (codes "valkey+unix") then Some Unix
    else None))
