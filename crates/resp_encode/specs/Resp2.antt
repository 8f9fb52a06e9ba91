-- What a client of RESP2 is sent for a value ("RESP protocol description"; RESP3 names what each of
-- its own types stands for).
use Rattle.std.specs.Prelude.{◌≡◌, Bool, true, false, cond, List, [], ◌∷◌, pos}
use Rattle.std.specs.List.{list_all}
use Rattle.resp_value.specs.declared.value.Value.{Value, Nil, Okay, Int, SimpleString, BulkString, Array, ServerError}
use Rattle.resp_value.specs.declared.value.Value.{fold-Value}
use Rattle.resp_value.specs.declared.value.Value.TheOpen.{Value-F}
use Rattle.resp_value.specs.Names.{name_of_push_kind}

-- the keys and values of pairs, in order
abbrev pub flat : List (Value × Value) → List Value
flat [] = []
flat (p ∷ ps) = p.0 ∷ p.1 ∷ flat ps

-- the form of a value, whose elements are in their form
abbrev pub resp2_step : Value-F Value → Value
resp2_step Value-F.Nil = Nil
resp2_step Value-F.Okay = Okay
resp2_step (Value-F.Int n) = Int n
resp2_step (Value-F.SimpleString text) = SimpleString text
resp2_step (Value-F.BulkString bytes) = BulkString bytes
resp2_step (Value-F.Array elements) = Array elements
resp2_step (Value-F.Map pairs) = Array (flat pairs)
resp2_step (Value-F.Attribute payload attributes) = payload
resp2_step (Value-F.ServerError error) = ServerError error
resp2_step (Value-F.Boolean truth) = Int (pos (cond truth 1 0))
resp2_step (Value-F.Double text) = BulkString text
resp2_step (Value-F.BigNumber bytes) = BulkString bytes
resp2_step (Value-F.Set elements) = Array elements
resp2_step (Value-F.VerbatimString format text) = BulkString text
resp2_step (Value-F.Push kind payload) = Array (BulkString (name_of_push_kind kind) ∷ payload)

-- the value in the types of RESP2
abbrev pub resp2_of : Value → Value
resp2_of = fold-Value Value resp2_step

abbrev pub is_resp2_step : Value-F Bool → Bool
is_resp2_step Value-F.Nil = true
is_resp2_step Value-F.Okay = true
is_resp2_step (Value-F.Int n) = true
is_resp2_step (Value-F.SimpleString text) = true
is_resp2_step (Value-F.BulkString bytes) = true
is_resp2_step (Value-F.Array elements) = list_all (λ b. b) elements
is_resp2_step (Value-F.ServerError error) = true
is_resp2_step _ = false

abbrev pub is_resp2 : Value → Bool
is_resp2 = fold-Value Bool is_resp2_step

-- the value and all in it are of RESP2's types
abbrev pub IsResp2 : Value → Type 0
IsResp2 v = is_resp2 v ≡ true
