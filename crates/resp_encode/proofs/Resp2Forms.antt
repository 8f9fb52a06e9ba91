-- The RESP2 form of a value is of RESP2's types, and a value of these is its own form.
use Rattle.std.proofs.Common.{◌≡◌, Bool, true, cond, List, [], ◌∷◌, map, refl, ap, sym, subst, ◌∙◌, ℤ, pos, ℕ}
use Rattle.std.proofs.lemmas.Bool.{and_parts, and_from}
use Rattle.std.specs.List.{list_all}
use Rattle.resp_value.specs.declared.value.Value.{Value, Nil, Okay, Int, SimpleString, BulkString, Array, ServerError}
use Rattle.resp_value.specs.declared.value.Value.{roll-Value, map-Value, ind-Value, fold-roll-Value}
use Rattle.resp_value.specs.declared.value.Value.TheVariants.{rolls-Nil, rolls-Okay, rolls-Int, rolls-SimpleString}
use Rattle.resp_value.specs.declared.value.Value.TheVariants.{rolls-BulkString, rolls-Array, rolls-ServerError}
use Rattle.resp_value.specs.declared.value.Value.TheOpen.{Value-F}
use Rattle.resp_value.specs.Names.{name_of_push_kind}
use Rattle.resp_errors.specs.declared.server_error.ServerError.{ServerError as Error}
use Rattle.resp_encode.specs.Resp2.{flat, resp2_step, resp2_of, is_resp2_step, is_resp2, IsResp2}

-- the RESP2 form of a layer, and whether its type is one of RESP2's
abbrev pub form : Value-F Value → Value
form x = resp2_step (map-Value Value Value resp2_of x)

abbrev is_typed : Value-F Value → Bool
is_typed x = is_resp2_step (map-Value Value Bool is_resp2 x)

rolled-typed : (x : Value-F Value) → is_resp2 (roll-Value x) ≡ is_typed x
rolled-typed x = fold-roll-Value Bool is_resp2_step x

rolled-form : (x : Value-F Value) → resp2_of (roll-Value x) ≡ form x
rolled-form x = fold-roll-Value Value resp2_step x

is_resp2-Nil : is_resp2 Nil ≡ true
is_resp2-Nil = ap is_resp2 (sym rolls-Nil) ∙ rolled-typed Value-F.Nil

is_resp2-Okay : is_resp2 Okay ≡ true
is_resp2-Okay = ap is_resp2 (sym rolls-Okay) ∙ rolled-typed Value-F.Okay

is_resp2-Int : (n : ℤ) → is_resp2 (Int n) ≡ true
is_resp2-Int n = ap is_resp2 (sym (rolls-Int n)) ∙ rolled-typed (Value-F.Int n)

is_resp2-SimpleString : (text : List ℕ) → is_resp2 (SimpleString text) ≡ true
is_resp2-SimpleString text = ap is_resp2 (sym (rolls-SimpleString text)) ∙ rolled-typed (Value-F.SimpleString text)

is_resp2-BulkString : (bytes : List ℕ) → is_resp2 (BulkString bytes) ≡ true
is_resp2-BulkString bytes = ap is_resp2 (sym (rolls-BulkString bytes)) ∙ rolled-typed (Value-F.BulkString bytes)

is_resp2-ServerError : (e : Error) → is_resp2 (ServerError e) ≡ true
is_resp2-ServerError e = ap is_resp2 (sym (rolls-ServerError e)) ∙ rolled-typed (Value-F.ServerError e)

is_resp2-Array : (vs : List Value) → list_all (λ b. b) (map is_resp2 vs) ≡ true → is_resp2 (Array vs) ≡ true
is_resp2-Array vs h = ap is_resp2 (sym (rolls-Array vs)) ∙ rolled-typed (Value-F.Array vs) ∙ h

-- a value whose form is of RESP2's types
abbrev Typed : Type 0
Typed = (v : Value) × IsResp2 (resp2_of v)

abbrev typed_value : Typed → Value
typed_value p = p.0

abbrev typed_pair : Typed × Typed → Value × Value
typed_pair p = (p.0.0, p.1.0)

abbrev pub pair_form : Value × Value → Value × Value
pair_form p = (resp2_of p.0, resp2_of p.1)

typed-elements : (ps : List Typed) → list_all (λ b. b) (map is_resp2 (map resp2_of (map typed_value ps))) ≡ true
typed-elements [] = refl
typed-elements (p ∷ ps) = and_from _ _ p.1 (typed-elements ps)

typed-pairs : (ps : List (Typed × Typed)) → list_all (λ b. b) (map is_resp2 (flat (map pair_form (map typed_pair ps))))
    ≡ true
typed-pairs [] = refl
typed-pairs (p ∷ ps) = and_from _ _ p.0.1 (and_from _ _ p.1.1 (typed-pairs ps))

typed-layer : (layer : Value-F Typed) → IsResp2 (form (map-Value Typed Value typed_value layer))
typed-layer Value-F.Nil = is_resp2-Nil
typed-layer Value-F.Okay = is_resp2-Okay
typed-layer (Value-F.Int n) = is_resp2-Int n
typed-layer (Value-F.SimpleString text) = is_resp2-SimpleString text
typed-layer (Value-F.BulkString bytes) = is_resp2-BulkString bytes
typed-layer (Value-F.Array ps) = is_resp2-Array _ (typed-elements ps)
typed-layer (Value-F.Map ps) = is_resp2-Array _ (typed-pairs ps)
typed-layer (Value-F.Attribute p ps) = p.1
typed-layer (Value-F.ServerError e) = is_resp2-ServerError e
typed-layer (Value-F.Boolean truth) = is_resp2-Int (pos (cond truth 1 0))
typed-layer (Value-F.Double text) = is_resp2-BulkString text
typed-layer (Value-F.BigNumber bytes) = is_resp2-BulkString bytes
typed-layer (Value-F.Set ps) = is_resp2-Array _ (typed-elements ps)
typed-layer (Value-F.VerbatimString format text) = is_resp2-BulkString text
typed-layer (Value-F.Push kind ps) = is_resp2-Array _
    (and_from _ _ (is_resp2-BulkString (name_of_push_kind kind)) (typed-elements ps))

pub typed : (v : Value) → IsResp2 (resp2_of v)
typed = ind-Value (λ v. IsResp2 (resp2_of v)) (λ x layer e.
    subst IsResp2 (sym (rolled-form x)) (subst (λ y. IsResp2 (form y)) e (typed-layer layer)))

-- a value that is its own form, if it is of RESP2's types
abbrev Own : Type 0
Own = (v : Value) × (IsResp2 v → resp2_of v ≡ v)

abbrev own_value : Own → Value
own_value p = p.0

own-elements : (ps : List Own) → list_all (λ b. b) (map is_resp2 (map own_value ps)) ≡ true
    → map resp2_of (map own_value ps) ≡ map own_value ps
own-elements [] h = refl
own-elements (p ∷ ps) h =
    let parts = and_parts _ _ h in
    let first : resp2_of p.0 ≡ p.0 = p.1 parts.0 in
    let later : map resp2_of (map own_value ps) ≡ map own_value ps = own-elements ps parts.1 in
    λ i. first i ∷ later i

own-layer : (layer : Value-F Own) → is_typed (map-Value Own Value own_value layer) ≡ true
    → form (map-Value Own Value own_value layer) ≡ roll-Value (map-Value Own Value own_value layer)
own-layer Value-F.Nil h = sym rolls-Nil
own-layer Value-F.Okay h = sym rolls-Okay
own-layer (Value-F.Int n) h = sym (rolls-Int n)
own-layer (Value-F.SimpleString text) h = sym (rolls-SimpleString text)
own-layer (Value-F.BulkString bytes) h = sym (rolls-BulkString bytes)
own-layer (Value-F.Array ps) h = ap Array (own-elements ps h) ∙ sym (rolls-Array (map own_value ps))
own-layer (Value-F.ServerError e) h = sym (rolls-ServerError e)
own-layer (Value-F.Map ps) h = absurd (cc)
own-layer (Value-F.Attribute p ps) h = absurd (cc)
own-layer (Value-F.Boolean truth) h = absurd (cc)
own-layer (Value-F.Double text) h = absurd (cc)
own-layer (Value-F.BigNumber bytes) h = absurd (cc)
own-layer (Value-F.Set ps) h = absurd (cc)
own-layer (Value-F.VerbatimString format text) h = absurd (cc)
own-layer (Value-F.Push kind ps) h = absurd (cc)

pub unchanged : (v : Value) → IsResp2 v → resp2_of v ≡ v
unchanged = ind-Value (λ v. IsResp2 v → resp2_of v ≡ v) (λ x layer e h.
    rolled-form x ∙ subst (λ y. is_typed y ≡ true → form y ≡ roll-Value y) e (own-layer layer)
    (sym (rolled-typed x) ∙ h))

pub idempotent : (v : Value) → resp2_of (resp2_of v) ≡ resp2_of v
idempotent v = unchanged (resp2_of v) (typed v)
