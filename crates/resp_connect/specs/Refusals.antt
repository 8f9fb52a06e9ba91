-- Why a URL is refused, and with which error.
use Rattle.std.specs.Prelude.{ℕ, List, codes, None}
use Rattle.resp_errors.specs.declared.kinds.ErrorKind.TheVariants as kind
use Rattle.resp_errors.specs.declared.redis_error.RedisError.{RedisError}
use Rattle.resp_errors.specs.declared.redis_error.RedisError.TheVariants as form
use Rattle.resp_connect.specs.declared.address.refusal.Refusal.{Refusal}
use Rattle.resp_connect.specs.declared.address.refusal.Refusal.TheVariants as refused

abbrev pub refusal_text : Refusal → List ℕ
refusal_text refused.NotUrl = codes "Redis URL did not parse"
refusal_text refused.NotRedis = codes "URL provided is not a redis URL"
refusal_text refused.NoTls = codes "can't connect with TLS, the feature is not enabled"
refusal_text refused.Fragment = codes "Redis URL has a fragment"
refusal_text refused.Parameter = codes "Redis URL has an unknown parameter"
refusal_text refused.Hostname = codes "Missing hostname"
refusal_text refused.Wildcard = codes "Cannot connect to a wildcard address (0.0.0.0 or ::)"
refusal_text refused.Path = codes "Missing path"
refusal_text refused.PathText = codes "Path is not valid UTF-8 string"
refusal_text refused.Database = codes "Invalid database number"
refusal_text refused.Protocol = codes "Invalid protocol version"
refusal_text refused.Username = codes "Username is not valid UTF-8 string"
refusal_text refused.Password = codes "Password is not valid UTF-8 string"
refusal_text refused.OutOfMemory = codes "out of memory"

-- the error of a refusal: its kind and its text, and nothing of the URL
abbrev pub error_of : Refusal → RedisError
error_of refused.OutOfMemory = form.OutOfMemory
error_of refusal = form.General kind.InvalidClientConfig (refusal_text refusal) None
