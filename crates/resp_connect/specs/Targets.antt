-- Where a client connects to, and how it greets the server.
use Rattle.std.specs.Prelude.{ℕ, ℤ, pos, List, Option, None}
use Rattle.resp_connect.specs.declared.address.ConnectionAddr.{ConnectionAddr}
use Rattle.resp_connect.specs.declared.protocol.ProtocolChoice.{ProtocolChoice}
use Rattle.resp_connect.specs.declared.protocol.ProtocolChoice.TheVariants.{RESP2}

-- how a client greets the server
pub record Settings : Type 0 where
  pub db : ℤ
  pub username : Option (List ℕ)
  pub password : Option (List ℕ)
  pub protocol : ProtocolChoice
  pub client_name : Option (List ℕ)

-- where the server is, and how a client greets it
pub record Target : Type 0 where
  pub addr : ConnectionAddr
  pub redis : Settings

-- database 0, RESP2, and no names
abbrev pub default_settings : Settings
default_settings = record {
  db = pos 0;
  username = None;
  password = None;
  protocol = RESP2;
  client_name = None;
}

-- a server at this address, greeted with the default settings
abbrev pub target_at : ConnectionAddr → Target
target_at addr = record { addr = addr; redis = default_settings }
