-- A packed command is read as the request of its arguments, and as nothing else.
use Rattle.std.specs.Prelude.{◌≡◌, ◌≢◌, ◌<◌, ◌^◌, true, [], ◌∷◌, length}
use Rattle.resp_args.specs.Args.{Args}
use Rattle.resp_command.specs.Packed.{packed, as_value}
use Rattle.resp_command.specs.PackingLaw.{ReadsOnly}
use Rattle.resp_server.specs.Requests.{is_request}

pub record LawOfReading (args : Args) : Type 0 where
  -- up to 2^63 - 1 bytes are read as one value
  pub read : length (packed args) < 2 ^ 63 → ReadsOnly (packed args) (as_value args ∷ [])
  -- it is a request, where there is an argument
  pub request : args ≢ [] → is_request (as_value args) ≡ true
  -- and has no other arguments
  pub only : (others : Args) → as_value others ≡ as_value args → others ≡ args
