-- The layer at the top of a reply.
use Rattle.std.proofs.Common.{◌≡◌, ℕ, Bool, List, Vec, Global, rules, sym, subst, Result}
use Rattle.resp_value.specs.declared.value.Value.{Value, Array, BulkString, ServerError, Set, out-Value, the_lemmas}
use Rattle.resp_value.specs.declared.value.Value.TheOpen.{Value-F}
use Rattle.resp_errors.specs.declared.parsing_error.ParsingError.{ParsingError}
use Rattle.resp_errors.specs.declared.server_error.ServerError.{ServerError as Failure}
use Rattle.resp_from.specs.Conversion.{ConvertsList}
use Rattle.resp_from.specs.Lists.{IsVec, OfVec}

pub out-Array : (items : List Value) → out-Value (Array items) ≡ Value-F.Array items
out-Array items = search (rules, the_lemmas)

pub out-Set : (items : List Value) → out-Value (Set items) ≡ Value-F.Set items
out-Set items = search (rules, the_lemmas)

pub out-BulkString : (bytes : List ℕ) → out-Value (BulkString bytes) ≡ Value-F.BulkString bytes
out-BulkString bytes = search (rules, the_lemmas)

pub out-ServerError : (error : Failure) → out-Value (ServerError error) ≡ Value-F.ServerError error
out-ServerError error = search (rules, the_lemmas)

-- a conversion to a list of what a reply's top shows is one of the reply
pub OfVec-layer : {X : Type 0} (n : ℕ) (each : Bool) (Of : Value → X → Type 0) (reply : Value) (layer : Value-F Value)
    (r : Result (Vec X Global) ParsingError) → out-Value reply ≡ layer → ConvertsList (IsVec n each Of layer) r
    → ConvertsList (OfVec n each Of reply) r
OfVec-layer n each Of reply layer r e h = subst (λ w. ConvertsList (IsVec n each Of w) r) (sym e) h
