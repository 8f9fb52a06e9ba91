-- What a client says first over a connection, and what becomes of it (RESP, "Client handshake").
use Rattle.std.specs.Prelude.{◌≡◌, ◌≢◌, ◌⊎◌, ℕ, ℤ, nat_abs, nat_eq, List, [], ◌∷◌, ◌++◌, length, map, Option, None, Some}
use Rattle.std.specs.Prelude.{true, false, Result, Ok, Err, codes, if◌then◌else◌, IsSomeAnd}
use Rattle.std.specs.Fmt.{signed_decimal}
use Rattle.std.specs.List.{flat_map, starts_with}
use Rattle.resp_errors.specs.ServerErrors.{server_code_of, server_details_of}
use Rattle.resp_errors.specs.declared.redis_error.RedisError.{RedisError}
use Rattle.resp_errors.specs.declared.redis_error.RedisError.TheVariants.{Server, OutOfMemory}
use Rattle.resp_errors.specs.declared.server_error.ServerError.{ServerError}
use Rattle.resp_value.specs.declared.value.Value.{Value, out-Value}
use Rattle.resp_value.specs.declared.value.Value.TheOpen.{Value-F}
use Rattle.resp_args.specs.Args.{Args}
use Rattle.resp_args.specs.declared.options.ProtocolVersion.{ProtocolVersion}
use Rattle.resp_args.specs.declared.options.ProtocolVersion.TheVariants as version
use Rattle.resp_command.specs.Call.{Call}
use Rattle.resp_command.specs.Connection.{Connection}
use Rattle.resp_command.specs.Packed.{packed}
use Rattle.resp_connect.specs.Targets.{Settings}
use Rattle.resp_connect.specs.declared.protocol.ProtocolChoice.{ProtocolChoice}
use Rattle.resp_connect.specs.declared.protocol.ProtocolChoice.TheVariants as choice
use Rattle.resp_connect.specs.declared.greeting.GreetingStep.{GreetingStep}
use Rattle.resp_connect.specs.declared.greeting.GreetingStep.TheVariants.{Hello, Auth, SetName, Select, SetInfo}
use Rattle.resp_connect.specs.declared.greeting.GreetingError.{GreetingError}
use Rattle.resp_connect.specs.declared.greeting.GreetingError.TheVariants.{Refused, Failed}

-- a command of a greeting, and the step that it makes
pub record Said : Type 0 where
  pub step : GreetingStep
  pub args : Args

-- the bytes of commands that are sent at once
abbrev pub request : List Said → List ℕ
request = flat_map (λ s. packed s.args)

abbrev pub steps_of : List Said → List GreetingStep
steps_of = map (λ s. s.step)

-- a word, and the name after it, where there is one
abbrev pub named : List ℕ → Option (List ℕ) → Args
named word None = []
named word (Some name) = word ∷ name ∷ []

-- the user of HELLO's AUTH, which wants one
abbrev pub user_or_default : Option (List ℕ) → List ℕ
user_or_default None = codes "default"
user_or_default (Some user) = user

abbrev pub hello_auth : Option (List ℕ) → Option (List ℕ) → Args
hello_auth user None = []
hello_auth user (Some password) = codes "AUTH" ∷ user_or_default user ∷ password ∷ []

-- HELLO 3 [AUTH user password] [SETNAME name]
abbrev pub hello : Settings → List Said
hello s = record {
  step = Hello;
  args = (codes "HELLO" ∷ codes "3" ∷ []) ++ (hello_auth s.username s.password ++ named (codes "SETNAME") s.client_name);
} ∷ []

abbrev pub credentials : Option (List ℕ) → List ℕ → Args
credentials None password = password ∷ []
credentials (Some user) password = user ∷ password ∷ []

-- AUTH [user] password, where there is a password
abbrev pub auth : Option (List ℕ) → Option (List ℕ) → List Said
auth user None = []
auth user (Some password) = record { step = Auth; args = codes "AUTH" ∷ credentials user password } ∷ []

-- CLIENT SETNAME name, where there is a name
abbrev pub set_name : Option (List ℕ) → List Said
set_name None = []
set_name (Some name) =
    record { step = SetName; args = codes "CLIENT" ∷ codes "SETNAME" ∷ name ∷ [] } ∷ []

-- SELECT db, unless it is 0
abbrev pub select : ℤ → List Said
select db = if nat_eq (nat_abs db) 0 then []
    else (record { step = Select; args = codes "SELECT" ∷ signed_decimal db ∷ [] } ∷ [])

-- CLIENT SETINFO, of the name of this library
abbrev pub set_info : List Said
set_info = record {
  step = SetInfo;
  args = codes "CLIENT" ∷ codes "SETINFO" ∷ codes "LIB-NAME" ∷ codes "resp_core" ∷ [];
} ∷ []

-- what is said after HELLO, and what is said in RESP2
abbrev pub after_hello : Settings → List Said
after_hello s = select s.db ++ set_info

abbrev pub in_resp2 : Settings → List Said
in_resp2 s = auth s.username s.password ++ (set_name s.client_name ++ after_hello s)

-- ---- replies

-- a refused command of a greeting
pub record Refusal : Type 0 where
  pub step : GreetingStep
  pub error : ServerError

abbrev pub refusal_in : GreetingStep → Value-F Value → List Refusal
refusal_in SetInfo reply = []
refusal_in step (Value-F.ServerError e) = record { step = step; error = e } ∷ []
refusal_in step reply = []

-- the replies that refuse a step; SETINFO may be refused, as by a server that doesn't have it
abbrev pub refusals : List GreetingStep → List Value → List Refusal
refusals (step ∷ steps) (reply ∷ replies) =
    refusal_in step (out-Value reply) ++ refusals steps replies
refusals steps replies = []

-- no step is refused, or the first of them that is
abbrev pub verdict : {A : Type 0} → A → List Refusal → Result A GreetingError
verdict done [] = Ok done
verdict done (refusal ∷ later) = Err (Refused refusal.step refusal.error)

abbrev pub IsVerdict : {A : Type 0} → List Said → A → Result (List Value) RedisError →
    Result A GreetingError → Type 0
IsVerdict said done (Ok replies) r = r ≡ verdict done (refusals (steps_of said) replies)
IsVerdict said done (Err e) r = r ≡ Err (Failed e)

-- these commands were sent at once; the answer is what their replies determine, or the failure
pub record Says {A : Type 0} (old new : Connection) (said : List Said) (done : A)
    (r : Result A GreetingError) : Type 0 where
  pub replies : Result (List Value) RedisError
  pub call : Call old new ⊥ ⊥ (request said) (length said) replies (λ all. replies ≡ Ok all)
  pub answer : IsVerdict said done replies r

-- as an error of the crate
abbrev pub error_of : GreetingError → RedisError
error_of (Refused step e) = Server e
error_of (Failed e) = e

-- ---- greetings

-- an error that says that the server has no HELLO, or no RESP3
abbrev pub LacksHello : ServerError → Type 0
LacksHello e = (server_code_of e ≡ codes "NOPROTO")
    ⊎ ((server_code_of e ≡ codes "ERR")
    × IsSomeAnd (server_details_of e) (λ details. starts_with nat_eq details (codes "unknown command") ≡ true))

abbrev pub IsLackOfHello : GreetingError → Type 0
IsLackOfHello (Refused step e) = LacksHello e
IsLackOfHello (Failed e) = ⊥

-- a client that was refused with this speaks RESP2 instead
abbrev pub FallsBack : ProtocolChoice → GreetingError → Type 0
FallsBack protocol e = (protocol ≡ choice.PreferRESP3) × IsLackOfHello e

-- what a greeting does by these settings
pub data Greets (old new : Connection) (s : Settings) (r : Result ProtocolVersion GreetingError)
    : Type 0 where
  -- in RESP2
  in_old : s.protocol ≡ choice.RESP2 → Says old new (in_resp2 s) version.RESP2 r → Greets old new s r
  -- the server took HELLO
  in_new : s.protocol ≢ choice.RESP2 → (between : Connection) → Says old between (hello s) (tt {0}) (Ok tt)
      → Says between new (after_hello s) version.RESP3 r → Greets old new s r
  -- it has none, and RESP2 is allowed
  fell_back : (between : Connection) → (e : GreetingError)
      → Says old between (hello s) (tt {0}) (Err e) → FallsBack s.protocol e
      → Says between new (in_resp2 s) version.RESP2 r → Greets old new s r
  -- HELLO failed
  no_hello : s.protocol ≢ choice.RESP2 → (e : GreetingError) → Says old new (hello s) (tt {0}) (Err e)
      → (FallsBack s.protocol e → ⊥) → r ≡ Err e → Greets old new s r
  -- memory ran out before anything was sent
  not_begun : r ≡ Err (Failed OutOfMemory) → new ≡ old → Greets old new s r

-- what may have been said by a client that is greeted in this version
abbrev pub MayHaveSaid : Settings → ProtocolVersion → List Said → Type 0
MayHaveSaid s version.RESP3 said = (s.protocol ≢ choice.RESP2) × (said ≡ hello s ++ after_hello s)
MayHaveSaid s version.RESP2 said = ((s.protocol ≡ choice.RESP2) × (said ≡ in_resp2 s))
    ⊎ ((s.protocol ≡ choice.PreferRESP3) × (said ≡ hello s ++ in_resp2 s))

-- a connection that worked was greeted: exactly this was sent, all of it was answered, none of it
-- waits, and the connection works
pub record Greeted (old new : Connection) (s : Settings) (v : ProtocolVersion) : Type 0 where
  pub said : List Said
  pub allowed : MayHaveSaid s v said
  pub sent : new.sent ≡ old.sent ++ request said
  pub flushed : new.unflushed ≡ false
  pub works : new.broken ≡ false
