-- What a URL says of the settings, once each of its parts is read.
use Rattle.std.proofs.Common.{◌≡◌, ℕ, ℤ, List, Option, Ok, codes, refl}
use Rattle.url.specs.Parts.{Parts}
use Rattle.resp_connect.specs.declared.address.refusal.Refusal.TheVariants as refused
use Rattle.resp_connect.specs.declared.protocol.ProtocolChoice.{ProtocolChoice}
use Rattle.resp_connect.specs.Addresses.{between_slashes, credential, database, protocol}
use Rattle.resp_connect.specs.Addresses.{tcp_settings, unix_settings}
use Rattle.resp_connect.specs.Queries.{Pairs, value_of}

pub tcp_settings-read : (url : Parts) (pairs : Pairs) (db : ℤ) (choice : ProtocolChoice)
    (username password : Option (List ℕ))
    → database (between_slashes url.path) ≡ Ok db
    → protocol (value_of (codes "protocol") pairs) ≡ Ok choice
    → credential refused.Username url.username ≡ Ok username
    → credential refused.Password url.password ≡ Ok password
    → tcp_settings url pairs ≡ Ok (record {
      db = db;
      username = username;
      password = password;
      protocol = choice;
      client_name = value_of (codes "client_name") pairs;
    })
unfolding tcp_settings
tcp_settings-read url pairs db choice username password d c u w = rw (d, c, u, w) refl

pub unix_settings-read : (pairs : Pairs) (db : ℤ) (choice : ProtocolChoice)
    → database (value_of (codes "db") pairs) ≡ Ok db
    → protocol (value_of (codes "protocol") pairs) ≡ Ok choice
    → unix_settings pairs ≡ Ok (record {
      db = db;
      username = value_of (codes "user") pairs;
      password = value_of (codes "pass") pairs;
      protocol = choice;
      client_name = value_of (codes "client_name") pairs;
    })
unfolding unix_settings
unix_settings-read pairs db choice d c = rw (d, c) refl
