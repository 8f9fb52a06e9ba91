use Rattle.std.proofs.Common.{rules, ◌≡◌, true}
use Rattle.std.specs.Str.{is_utf8}
use Rattle.std.proofs.lemmas.Str.{is_utf8-from_IsUtf8}
use Rattle.resp_value.specs.declared.value.Value.{ServerError}
use Rattle.resp_value.specs.declared.value.Value.TheVariants.{rolls-ServerError}
use Rattle.resp_value.specs.declared.value.Value.TheOpen.{Value-F}
use Rattle.resp_errors.specs.ServerErrors.{server_error}
use Rattle.resp_encode.proofs.FlatLeaves.{appends_as, error2, error3, in_resp2, in_resp3, unsent}
use Rattle.resp_encode.proofs.leaves.write_error_in.Goals as goal

pub returns-in-Some-RESP2 : goal.returns-in-Some-RESP2
returns-in-Some-RESP2 c = λ d.
    let e = server_error c.args.text.now in
    in_resp2 _ _ d (Value-F.ServerError e) (ServerError e) _ _ (rolls-ServerError e) (search rules)
    (appends_as _ _ _ _ _ (error2 c.args.text.now) (search rules))

pub returns-in-Some-RESP3 : goal.returns-in-Some-RESP3
returns-in-Some-RESP3 c = λ d.
    let e = server_error c.args.text.now in
    let utf8 : is_utf8 c.args.text.now ≡ true = is_utf8-from_IsUtf8 _ c.utf8.text in
    in_resp3 _ _ d (Value-F.ServerError e) (ServerError e) _ _ (rolls-ServerError e) (search rules)
    (appends_as _ _ _ _ _ (error3 c.args.text.now utf8) (search rules))

pub returns-in-None : goal.returns-in-None
returns-in-None c = λ d. unsent _ d (ServerError (server_error c.args.text.now)) _ c.in-None.is
