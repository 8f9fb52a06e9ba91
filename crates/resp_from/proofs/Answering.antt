-- Answers of conversions.
use Rattle.std.proofs.Common.{◌↔◌, List, Vec, Global, Result, Ok, Err}
use Rattle.resp_errors.specs.declared.parsing_error.ParsingError.{ParsingError}
use Rattle.resp_errors.specs.declared.parsing_error.ParsingError.TheVariants as parsing
use Rattle.resp_from.specs.Conversion.{Converts, ConvertsList, Decides}
use Rattle.resp_from.proofs.Conversions.{RefusesIf-along}

-- what is decided by one fact is converted by another that holds of the same values
pub converts_alike : {X : Type 0} (Fits Alike : X → Type 0) (r : Result X ParsingError) → ((x : X) → Fits x ↔ Alike x)
    → Decides Alike r → Converts Fits r
converts_alike Fits Alike (Ok x) alike h = (alike x).1 h
converts_alike Fits Alike (Err (parsing.Described text)) alike h = λ x fits. h.1 x ((alike x).0 fits)
converts_alike Fits Alike (Err (parsing.Fault fault)) alike h = absurd h.0
converts_alike Fits Alike (Err parsing.OutOfMemory) alike h = tt

-- the same of a list
pub lists_alike : {X : Type 0} (Fits Alike : List X → Type 0) (r : Result (Vec X Global) ParsingError)
    → ((xs : List X) → Fits xs ↔ Alike xs) → ConvertsList Alike r → ConvertsList Fits r
lists_alike Fits Alike (Ok v) alike h = (alike v.items).1 h
lists_alike Fits Alike (Err e) alike h = RefusesIf-along e (λ none xs fits. none xs ((alike xs).0 fits)) h
