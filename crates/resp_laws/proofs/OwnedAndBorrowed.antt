-- Two conversions of one reply agree.
use Rattle.std.proofs.Common.{Result, Ok, Err, refl}
use Rattle.resp_errors.specs.declared.parsing_error.ParsingError.{ParsingError}
use Rattle.resp_errors.specs.declared.parsing_error.ParsingError.TheVariants as parsing
use Rattle.resp_from.specs.Conversion.{Converts}
use Rattle.resp_laws.specs.Laws.{Agree, AgreeBy}

pub agreeing_by : {X : Type 0} (Fits : X → Type 0) (Alike : X → X → Type 0)
    → ((x y : X) → Fits x → Fits y → Alike x y) → (r s : Result X ParsingError) → Converts Fits r
    → Converts Fits s → AgreeBy Alike r s
agreeing_by Fits Alike f (Ok x) (Ok y) h k = f x y h k
agreeing_by Fits Alike f (Ok x) (Err parsing.OutOfMemory) h k = refl
agreeing_by Fits Alike f (Ok x) (Err (parsing.Described text)) h k = absurd (k x h)
agreeing_by Fits Alike f (Ok x) (Err (parsing.Fault fault)) h k = absurd k
agreeing_by Fits Alike f (Err parsing.OutOfMemory) (Ok y) h k = refl
agreeing_by Fits Alike f (Err (parsing.Described text)) (Ok y) h k = absurd (h y k)
agreeing_by Fits Alike f (Err (parsing.Fault fault)) (Ok y) h k = absurd h
agreeing_by Fits Alike f (Err d) (Err e) h k = tt

pub agreeing : {X : Type 0} (Fits : X → Type 0) (r s : Result X ParsingError) → Converts Fits r → Converts Fits s
    → Agree Fits r s
agreeing Fits r s h k = agreeing_by Fits (λ x y. Fits x × Fits y) (λ x y p q. (p, q)) r s h k
