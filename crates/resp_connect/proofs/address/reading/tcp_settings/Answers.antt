use Rattle.std.proofs.Common.{◌≡◌, Ok, codes, rules, to_z-of_z}
use Rattle.resp_connect.specs.Addresses.{between_slashes, credential, database, protocol}
use Rattle.resp_connect.specs.declared.address.refusal.Refusal.TheVariants as refused
use Rattle.resp_connect.specs.Queries.{value_of}
use Rattle.resp_connect.proofs.ReadSettings.{tcp_settings-read}
use Rattle.resp_connect.proofs.address.reading.tcp_settings.Goals as goal

pub returns : goal.returns
returns c =
    let url = c.args.url.now in
    let pairs = c.args.pairs.now in
    let db : database (between_slashes url.path) ≡ Ok c.in_ok-db.db = search rules in
    let choice : protocol (value_of (codes "protocol") pairs) ≡ Ok c.in_ok-protocol.protocol = search rules in
    let username : credential refused.Username url.username ≡ Ok c.in_ok-username.username = search rules in
    let password : credential refused.Password url.password ≡ Ok c.in_ok-password.password = search rules in
    let name : c.in_ok-client_name.client_name ≡ value_of (codes "client_name") pairs = search rules in
    rw (c.of.ensures, to_z-of_z c.in_ok-db.ensures.fits, name)
    (tcp_settings-read url pairs _ _ _ _ db choice username password)
