-- What a conversion of a reply answers.
use Rattle.std.specs.Prelude.{◌≡◌, ◌≢◌, ◌⊎◌, List, Result, Ok, Err, Option, None, Some}
use Rattle.std.specs.declared.alloc.Global.{Global}
use Rattle.std.specs.declared.vec.Vec.{Vec}
use Rattle.resp_errors.specs.declared.parsing_error.ParsingError.{ParsingError}
use Rattle.resp_errors.specs.declared.parsing_error.ParsingError.TheVariants as parsing
use Rattle.resp_errors.specs.declared.redis_error.RedisError.{RedisError}
use Rattle.resp_errors.specs.declared.redis_error.RedisError.TheVariants as form
use Rattle.resp_value.specs.declared.value.Value.{Value}

-- the error may be answered where the fact holds: a refusal needs it, out of memory doesn't, and a
-- fault of framing is never answered
abbrev pub RefusesIf : ParsingError → Type 0 → Type 0
RefusesIf (parsing.Described text) P = P
RefusesIf (parsing.Fault fault) P = ⊥
RefusesIf parsing.OutOfMemory P = Unit {0}

-- memory aside, the answer is a value that fits, and a refusal exactly where none fits
abbrev pub Converts : {X : Type 0} → (X → Type 0) → Result X ParsingError → Type 0
Converts Fits (Ok x) = Fits x
Converts {X} Fits (Err e) = RefusesIf e ((x : X) → Fits x → ⊥)

-- the same of a list
abbrev pub ConvertsList : {X : Type 0} → (List X → Type 0) → Result (Vec X Global) ParsingError
    → Type 0
ConvertsList Fits (Ok v) = Fits v.items
ConvertsList {X} Fits (Err e) = RefusesIf e ((xs : List X) → Fits xs → ⊥)

-- the same, where a refusal is no error of the call
abbrev pub ConvertsMaybe : {X : Type 0} → (List X → Type 0)
    → Result (Option (Vec X Global)) ParsingError → Type 0
ConvertsMaybe Fits (Ok (Some v)) = Fits v.items
ConvertsMaybe {X} Fits (Ok None) = (xs : List X) → Fits xs → ⊥
ConvertsMaybe Fits (Err e) = e ≡ parsing.OutOfMemory

-- the reply is a value of one type, and the other value may be made of it
pub record OfVia {T X : Type 0} (Of : Value → T → Type 0) (FromGives : T → X → Type 0)
    (reply : Value) (x : X) : Type 0 where
  pub via : T
  pub fits : Of reply via
  pub from_gives : FromGives via x

-- what a conversion may answer that may take memory
abbrev pub AnyError : Value → ParsingError → Type 0
AnyError reply e = Unit {0}

-- what a conversion may answer that takes no memory
abbrev pub AnyButMemory : Value → ParsingError → Type 0
AnyButMemory reply e = e ≢ parsing.OutOfMemory

-- what a conversion of a reply that isn't moved may answer: `OutOfMemory` for a copy, or what the
-- conversion of the copy answers
abbrev pub OrMemory : (ParsingError → Type 0) → ParsingError → Type 0
OrMemory Allows e = (e ≡ parsing.OutOfMemory) ⊎ Allows e

-- the error describes a refusal: it is neither out of memory nor a fault of framing
abbrev pub IsDescribed : ParsingError → Type 0
IsDescribed (parsing.Described text) = Unit {0}
IsDescribed (parsing.Fault fault) = ⊥
IsDescribed parsing.OutOfMemory = ⊥

-- the value fits, or it is a refusal and none fits
abbrev pub Decides : {X : Type 0} → (X → Type 0) → Result X ParsingError → Type 0
Decides Fits (Ok x) = Fits x
Decides {X} Fits (Err e) = IsDescribed e × ((x : X) → Fits x → ⊥)

-- the error of a whole call may be answered where the fact holds; out of memory in a call is
-- `OutOfMemory` alone
abbrev pub CallRefusesIf : RedisError → Type 0 → Type 0
CallRefusesIf (form.Parse e) P = IsDescribed e × P
CallRefusesIf form.OutOfMemory P = Unit {0}
CallRefusesIf _ P = ⊥

-- what a whole call answers that ends in a conversion
abbrev pub ConvertsCall : {X : Type 0} → (X → Type 0) → Result X RedisError → Type 0
ConvertsCall Fits (Ok x) = Fits x
ConvertsCall {X} Fits (Err e) = CallRefusesIf e ((x : X) → Fits x → ⊥)
