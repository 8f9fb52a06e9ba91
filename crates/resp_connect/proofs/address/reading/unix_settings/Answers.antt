use Rattle.std.proofs.Common.{◌≡◌, Ok, codes, rules, to_z-of_z}
use Rattle.resp_connect.specs.Addresses.{database, protocol}
use Rattle.resp_connect.specs.Queries.{value_of}
use Rattle.resp_connect.proofs.ReadSettings.{unix_settings-read}
use Rattle.resp_connect.proofs.address.reading.unix_settings.Goals as goal

pub returns : goal.returns
returns c =
    let pairs = c.args.pairs.now in
    let db : database (value_of (codes "db") pairs) ≡ Ok c.in_ok-db.db = search rules in
    let choice : protocol (value_of (codes "protocol") pairs) ≡ Ok c.in_ok-protocol.protocol = search rules in
    let username : c.in_ok-username.username ≡ value_of (codes "user") pairs = search rules in
    let password : c.in_ok-password.password ≡ value_of (codes "pass") pairs = search rules in
    let name : c.in_ok-client_name.client_name ≡ value_of (codes "client_name") pairs = search rules in
    rw (c.of.ensures, to_z-of_z c.in_ok-db.ensures.fits, username, password, name)
    (unix_settings-read pairs _ _ db choice)
