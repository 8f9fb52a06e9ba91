-- How many values a value of each form is built of.
use Rattle.std.proofs.Common.{◌≡◌, ℕ, suc, ◌+◌, List, Bool, sum, map, ap, sym, ◌∙◌, ℤ}
use Rattle.resp_value.specs.declared.value.Value.{Value, Nil, Okay, Int, SimpleString, BulkString, Array, Map}
use Rattle.resp_value.specs.declared.value.Value.{Attribute, ServerError, Boolean, Double, BigNumber, Set}
use Rattle.resp_value.specs.declared.value.Value.{VerbatimString, Push, fold-roll-Value}
use Rattle.resp_value.specs.declared.value.Value.TheVariants.{rolls-Nil, rolls-Okay, rolls-Int, rolls-SimpleString}
use Rattle.resp_value.specs.declared.value.Value.TheVariants.{rolls-BulkString, rolls-Array, rolls-Map, rolls-Attribute}
use Rattle.resp_value.specs.declared.value.Value.TheVariants.{rolls-ServerError, rolls-Boolean, rolls-Double}
use Rattle.resp_value.specs.declared.value.Value.TheVariants.{rolls-BigNumber, rolls-Set, rolls-VerbatimString}
use Rattle.resp_value.specs.declared.value.Value.TheVariants.{rolls-Push}
use Rattle.resp_value.specs.declared.value.Value.TheOpen.{Value-F}
use Rattle.resp_value.specs.declared.names.PushKind.{PushKind}
use Rattle.resp_value.specs.declared.names.VerbatimFormat.{VerbatimFormat}
use Rattle.resp_errors.specs.declared.server_error.ServerError.{ServerError as Error}
use Rattle.resp_parse.specs.Built.{sum_of_pairs, first_built, built_step, built}

abbrev pub built_pair : Value × Value → ℕ × ℕ
built_pair p = (built p.0, built p.1)

pub built-Nil : built Nil ≡ 1
built-Nil = ap built (sym rolls-Nil) ∙ fold-roll-Value ℕ built_step Value-F.Nil

pub built-Okay : built Okay ≡ 1
built-Okay = ap built (sym rolls-Okay) ∙ fold-roll-Value ℕ built_step Value-F.Okay

pub built-Int : (n : ℤ) → built (Int n) ≡ 1
built-Int n = ap built (sym (rolls-Int n)) ∙ fold-roll-Value ℕ built_step (Value-F.Int n)

pub built-SimpleString : (text : List ℕ) → built (SimpleString text) ≡ 1
built-SimpleString text = ap built (sym (rolls-SimpleString text))
    ∙ fold-roll-Value ℕ built_step (Value-F.SimpleString text)

pub built-BulkString : (bytes : List ℕ) → built (BulkString bytes) ≡ 1
built-BulkString bytes = ap built (sym (rolls-BulkString bytes))
    ∙ fold-roll-Value ℕ built_step (Value-F.BulkString bytes)

pub built-ServerError : (e : Error) → built (ServerError e) ≡ 1
built-ServerError e = ap built (sym (rolls-ServerError e)) ∙ fold-roll-Value ℕ built_step (Value-F.ServerError e)

pub built-Boolean : (b : Bool) → built (Boolean b) ≡ 1
built-Boolean b = ap built (sym (rolls-Boolean b)) ∙ fold-roll-Value ℕ built_step (Value-F.Boolean b)

pub built-Double : (text : List ℕ) → built (Double text) ≡ 1
built-Double text = ap built (sym (rolls-Double text)) ∙ fold-roll-Value ℕ built_step (Value-F.Double text)

pub built-BigNumber : (bytes : List ℕ) → built (BigNumber bytes) ≡ 1
built-BigNumber bytes = ap built (sym (rolls-BigNumber bytes)) ∙ fold-roll-Value ℕ built_step (Value-F.BigNumber bytes)

pub built-VerbatimString : (f : VerbatimFormat) (text : List ℕ) → built (VerbatimString f text) ≡ 1
built-VerbatimString f text = ap built (sym (rolls-VerbatimString f text))
    ∙ fold-roll-Value ℕ built_step (Value-F.VerbatimString f text)

pub built-Array : (vs : List Value) → built (Array vs) ≡ suc (sum (map built vs))
built-Array vs = ap built (sym (rolls-Array vs)) ∙ fold-roll-Value ℕ built_step (Value-F.Array vs)

pub built-Set : (vs : List Value) → built (Set vs) ≡ suc (sum (map built vs))
built-Set vs = ap built (sym (rolls-Set vs)) ∙ fold-roll-Value ℕ built_step (Value-F.Set vs)

pub built-Push : (k : PushKind) (vs : List Value) → built (Push k vs)
    ≡ suc (first_built k (map built vs) + sum (map built vs))
built-Push k vs = ap built (sym (rolls-Push k vs)) ∙ fold-roll-Value ℕ built_step (Value-F.Push k vs)

pub built-Map : (ps : List (Value × Value)) → built (Map ps) ≡ suc (sum_of_pairs (map built_pair ps))
built-Map ps = ap built (sym (rolls-Map ps)) ∙ fold-roll-Value ℕ built_step (Value-F.Map ps)

pub built-Attribute : (v : Value) (ps : List (Value × Value)) → built (Attribute v ps)
    ≡ suc (built v + sum_of_pairs (map built_pair ps))
built-Attribute v ps = ap built (sym (rolls-Attribute v ps)) ∙ fold-roll-Value ℕ built_step (Value-F.Attribute v ps)
