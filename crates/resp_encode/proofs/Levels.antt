-- What is sent for a value with so many levels left.
use Rattle.std.proofs.Common.{◌≡◌, ℕ, zero, suc, ◌-◌, ◌<◌, List, [], ◌∷◌, ◌++◌, length, Option, Result, Err, sym, ap}
use Rattle.std.proofs.Common.{subst, ◌∙◌, inl, inr, arith}
use Rattle.std.specs.Fmt.{◌++?◌}
use Rattle.resp_value.specs.declared.value.Value.{Value, Attribute, BulkString, out-Value, out-roll-Value}
use Rattle.resp_value.specs.declared.value.Value.TheOpen.{Value-F}
use Rattle.resp_value.specs.declared.value.Value.TheVariants.{rolls-Attribute, rolls-BulkString}
use Rattle.resp_args.specs.declared.options.ProtocolVersion.{ProtocolVersion}
use Rattle.resp_args.specs.declared.options.ProtocolVersion.TheVariants.{RESP2, RESP3}
use Rattle.resp_parse.specs.declared.type_byte.TypeByte.TheVariants as type_byte
use Rattle.resp_encode.specs.declared.write_error.WriteError.{WriteError}
use Rattle.resp_encode.specs.declared.write_error.WriteError.TheVariants.{Memory, NoSpelling}
use Rattle.resp_encode.specs.Encoding.{joined, spelling, body_of}
use Rattle.resp_encode.specs.Resp2.{flat}
use Rattle.resp_encode.specs.Resp2Encoding.{resp2_spelling}
use Rattle.resp_errors.specs.declared.redis_error.RedisError.{RedisError}
use Rattle.resp_encode.specs.Encodings.{encoding_in, RefusalFor, RefusesValue}
use Rattle.resp_encode.specs.Appending.{AppendsText, counted}
use Rattle.resp_encode.proofs.AppendedTexts.{appends_refused}

pub no_level : (p : ProtocolVersion) (d : ℕ) (v : Value) (a : List ℕ) → d ≡ 0
    → AppendsText (Err NoSpelling) (encoding_in p d v) a a
no_level RESP2 d v a e = appends_refused (encoding_in RESP2 d v) a (ap (λ k. encoding_in RESP2 k v) e)
no_level RESP3 d v a e = appends_refused (encoding_in RESP3 d v) a (ap (λ k. encoding_in RESP3 k v) e)

pub resp3_level : (r : Result (Unit {0}) WriteError) (d : ℕ) (v : Value) (a b : List ℕ) → 0 < d
    → AppendsText r (spelling (encoding_in RESP3 (d - 1)) (out-Value v)) a b → AppendsText r (encoding_in RESP3 d v) a b
resp3_level r zero v a b l h = absurd (omega arith)
resp3_level r (suc d) v a b l h = let e : suc d - 1 ≡ d = omega arith in
    subst (λ k. AppendsText r (spelling (encoding_in RESP3 k) (out-Value v)) a b) e h

bulk_string : (name : List ℕ) → out-Value (BulkString name) ≡ Value-F.BulkString name
bulk_string name = ap out-Value (sym (rolls-BulkString name)) ∙ out-roll-Value (Value-F.BulkString name)

-- a name is a bulk string in either version
name_is : (p : ProtocolVersion) (d : ℕ) (name : List ℕ) → encoding_in p (suc d) (BulkString name)
    ≡ body_of type_byte.BulkString name
name_is RESP2 d name = ap (resp2_spelling (encoding_in RESP2 d)) (bulk_string name)
name_is RESP3 d name = ap (spelling (encoding_in RESP3 d)) (bulk_string name)

pub name_level : (r : Result (Unit {0}) WriteError) (p : ProtocolVersion) (d : ℕ) (name : List ℕ) (a b : List ℕ) → 0 < d
    → AppendsText r (body_of type_byte.BulkString name) a b → AppendsText r (encoding_in p d (BulkString name)) a b
name_level r p zero name a b l h = absurd (omega arith)
name_level r p (suc d) name a b l h = subst (λ t. AppendsText r t a b) (sym (name_is p d name)) h

-- what is answered for a value that isn't written
pub refusal_of : (e : WriteError) (t : Option (List ℕ)) (a b : List ℕ) (error : RedisError) → AppendsText (Err e) t a b
    → RefusalFor e error → RefusesValue t error
unfolding AppendsText
refusal_of Memory t a b error h k = inl k
refusal_of NoSpelling t a b error h k = inr (h.0, k)

-- an attribute's pairs and its data
pub attribute_is : (spell : Value → Option (List ℕ)) (v w : Value) (ps : List (Value × Value)) → v ≡ Attribute w ps
    → spelling spell (out-Value v) ≡ (counted 124 (length ps) ++? joined spell (flat ps ++ w ∷ []))
attribute_is spell v w ps e =
    ap (λ x. spelling spell (out-Value x)) e
    ∙ ap (λ x. spelling spell (out-Value x)) (sym (rolls-Attribute w ps))
    ∙ ap (spelling spell) (out-roll-Value (Value-F.Attribute w ps))
