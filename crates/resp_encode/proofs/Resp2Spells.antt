-- What is sent for a value in RESP2 spells the value's RESP2 form.
use Rattle.std.proofs.Common.{◌≡◌, ℕ, zero, suc, ◌*◌, ◌^◌, Bool, true, false, cond, nat_lt, List, [], ◌∷◌, ◌++◌, length}
use Rattle.std.proofs.Common.{map, codes, Option, Some, Ok, pos, negsuc, refl, sym, ap, subst, ◌∙◌, arith}
use Rattle.std.proofs.lemmas.Fmt.{decimal_digit}
use Rattle.std.proofs.lemmas.List.{length-map}
use Rattle.std.specs.Fmt.{◌++?◌, decimal}
use Rattle.resp_value.specs.declared.value.Value.{Value, Nil, Okay, Int, BulkString, Array, ServerError, out-Value}
use Rattle.resp_value.specs.declared.value.Value.{roll-out-Value, fold-roll-Value}
use Rattle.resp_value.specs.declared.value.Value.TheOpen.{Value-F}
use Rattle.resp_value.specs.declared.value.Value.TheVariants.{rolls-BulkString}
use Rattle.resp_value.specs.Names.{name_of_push_kind}
use Rattle.resp_errors.specs.declared.server_error.ServerError.{ServerError as Error}
use Rattle.resp_errors.specs.ServerErrors.{text_of}
use Rattle.resp_parse.specs.declared.type_byte.TypeByte.{TypeByte}
use Rattle.resp_parse.specs.declared.type_byte.TypeByte.TheVariants as type_byte
use Rattle.resp_parse.specs.TypeBytes.{byte_of}
use Rattle.resp_parse.specs.Number.{integer_in}
use Rattle.resp_parse.specs.Grammar.{Joined, WellFormed, complete, body, with_valid, or_nil}
use Rattle.resp_parse.proofs.MoreLevels.{law_of_levels}
use Rattle.resp_encode.specs.Resp2.{flat, resp2_step, resp2_of}
use Rattle.resp_encode.specs.Encoding.{given, is_line, line, length_line, joined, aggregate, is_own_code}
use Rattle.resp_encode.specs.Resp2Encoding.{resp2_error_of, resp2_spelling, resp2_encoding, is_resp2_byte}
use Rattle.resp_encode.specs.Resp2Encoding.{is_resp2_start}
use Rattle.resp_encode.proofs.OwnNames.{error-read}
use Rattle.resp_encode.proofs.Resp2Forms.{form, pair_form}
use Rattle.resp_encode.proofs.EncodedSpells.{given-parts, halves, kept, integer-signed, graphic-spells, text-spells}
use Rattle.resp_encode.proofs.EncodedSpells.{int-spells, simple-spells, bulk-spells, joined-spells, array-spells}
use Rattle.resp_encode.proofs.EncodedSpells.{length-flat}

flat-forms : (ps : List (Value × Value)) → map resp2_of (flat ps) ≡ flat (map pair_form ps)
flat-forms [] = refl
flat-forms (p ∷ ps) = ap (λ vs. resp2_of p.0 ∷ resp2_of p.1 ∷ vs) (flat-forms ps)

-- ---- values that are lines and bodies

minus_one : integer_in (codes "-1") ≡ Ok (negsuc 0)
minus_one = ap (λ s. integer_in (45 ∷ s)) (sym (decimal_digit 1 (omega arith))) ∙ integer-signed (negsuc 0) refl

nil-spells : (d : ℕ) (b : List ℕ) → Some (line type_byte.BulkString (codes "-1")) ≡ Some b → WellFormed (suc d) b Nil
nil-spells d b e = graphic-spells d type_byte.BulkString (codes "-1") b Nil e refl
    (ap (λ r. with_valid r (or_nil (λ k. body k (λ x. Ok (BulkString x))))) minus_one)

digit-spells : (d n : ℕ) (text b : List ℕ) → decimal n ≡ text → nat_lt n (2 ^ 63) ≡ true
    → Some (line type_byte.Integer text) ≡ Some b → WellFormed (suc d) b (Int (pos n))
digit-spells d n text b e small h = int-spells d (pos n) b (rw (small, e) h)

truth-spells : (d : ℕ) (truth : Bool) (b : List ℕ) → Some (line type_byte.Integer (cond truth (codes "1") (codes "0")))
    ≡ Some b → WellFormed (suc d) b (Int (pos (cond truth 1 0)))
truth-spells d true b e = digit-spells d 1 (codes "1") b (decimal_digit 1 (omega arith)) refl e
truth-spells d false b e = digit-spells d 0 (codes "0") b (decimal_digit 0 (omega arith)) refl e

error-spells : (d : ℕ) (error : Error) (b : List ℕ) → resp2_error_of error ≡ Some b
    → WellFormed (suc d) b (ServerError error)
error-spells d error b e =
    let p = kept (is_own_code error) _ b e in
    let q = given-parts (is_line (text_of error)) (line type_byte.SimpleError (text_of error)) b p.1 in
    text-spells d type_byte.SimpleError (text_of error) b (ServerError error) q.1 q.0
    (ap (λ x. complete (ServerError x)) (error-read error p.0))

-- ---- values with elements

module _ (d : ℕ) (spells : (b : List ℕ) (v : Value) → resp2_encoding d v ≡ Some b → WellFormed d b (resp2_of v)) where
  forms : (vs : List Value) (b : List ℕ) → joined (resp2_encoding d) vs ≡ Some b
      → Joined (WellFormed d) b (map resp2_of vs)
  forms vs b e = joined-spells (resp2_encoding d) (WellFormed d) resp2_of spells vs b e

  -- an array of the forms of values, with their number in its line
  forms-spell : (n : ℕ) (vs ws : List Value) (b : List ℕ) → map resp2_of vs ≡ ws → n ≡ length ws
      → aggregate (resp2_encoding d) type_byte.Array n vs ≡ Some b → WellFormed (suc d) b (Array ws)
  forms-spell n vs ws b same size e =
      array-spells d (resp2_encoding d) vs ws (λ c h. subst (Joined (WellFormed d) c) same (forms vs c h)) b
      (subst (λ k. aggregate (resp2_encoding d) type_byte.Array k vs ≡ Some b) size e)

  array-forms : (vs : List Value) (b : List ℕ) → aggregate (resp2_encoding d) type_byte.Array (length vs) vs ≡ Some b
      → WellFormed (suc d) b (Array (map resp2_of vs))
  array-forms vs b e = forms-spell (length vs) vs (map resp2_of vs) b refl (sym (length-map vs resp2_of)) e

  map-forms : (ps : List (Value × Value)) (b : List ℕ) → aggregate (resp2_encoding d) type_byte.Array (2 * length ps)
      (flat ps) ≡ Some b → WellFormed (suc d) b (Array (flat (map pair_form ps)))
  map-forms ps b e = forms-spell (2 * length ps) (flat ps) (flat (map pair_form ps)) b (flat-forms ps)
      (sym (length-flat ps) ∙ sym (length-map (flat ps) resp2_of) ∙ ap length (flat-forms ps)) e

  name-form : (name : List ℕ) → resp2_of (BulkString name) ≡ BulkString name
  name-form name = ap resp2_of (sym (rolls-BulkString name)) ∙ fold-roll-Value Value resp2_step
      (Value-F.BulkString name)

  push-forms : (name : List ℕ) (vs : List Value) (b : List ℕ)
      → aggregate (resp2_encoding d) type_byte.Array (suc (length vs)) (BulkString name ∷ vs) ≡ Some b
      → WellFormed (suc d) b (Array (BulkString name ∷ map resp2_of vs))
  push-forms name vs b e = forms-spell (suc (length vs)) (BulkString name ∷ vs) (BulkString name ∷ map resp2_of vs) b
      (ap (λ v. v ∷ map resp2_of vs) (name-form name)) (ap suc (sym (length-map vs resp2_of))) e

  layer-spells : (x : Value-F Value) (b : List ℕ) → resp2_spelling (resp2_encoding d) x ≡ Some b
      → WellFormed (suc d) b (form x)
  layer-spells Value-F.Nil b e = nil-spells d b e
  layer-spells Value-F.Okay b e = graphic-spells d type_byte.SimpleString (codes "OK") b Okay e refl refl
  layer-spells (Value-F.Int n) b e = int-spells d n b e
  layer-spells (Value-F.SimpleString text) b e = simple-spells d text b e
  layer-spells (Value-F.BulkString bytes) b e = bulk-spells d bytes b e
  layer-spells (Value-F.Array vs) b e = array-forms vs b e
  layer-spells (Value-F.Map ps) b e = map-forms ps b e
  layer-spells (Value-F.Attribute v ps) b e = (law_of_levels d (suc d) b (omega arith)).well_formed (resp2_of v)
      (spells b v e)
  layer-spells (Value-F.ServerError error) b e = error-spells d error b e
  layer-spells (Value-F.Boolean truth) b e = truth-spells d truth b e
  layer-spells (Value-F.Double text) b e = bulk-spells d text b e
  layer-spells (Value-F.BigNumber bytes) b e = bulk-spells d bytes b e
  layer-spells (Value-F.Set vs) b e = array-forms vs b e
  layer-spells (Value-F.VerbatimString format text) b e = bulk-spells d text b e
  layer-spells (Value-F.Push kind vs) b e = push-forms (name_of_push_kind kind) vs b e

form-is : (v : Value) → form (out-Value v) ≡ resp2_of v
form-is v = sym (fold-roll-Value Value resp2_step (out-Value v)) ∙ ap resp2_of (roll-out-Value v)

pub resp2-spells : (d : ℕ) (b : List ℕ) (v : Value) → resp2_encoding d v ≡ Some b → WellFormed d b (resp2_of v)
resp2-spells zero b v e = absurd (cc)
resp2-spells (suc d) b v e = subst (WellFormed (suc d) b) (form-is v)
    (layer-spells d (resp2-spells d) (out-Value v) b e)

-- ---- type bytes

line-starts : (kind : TypeByte) (text b : List ℕ) → is_resp2_byte (byte_of kind) ≡ true → line kind text ≡ b
    → is_resp2_start b ≡ true
line-starts kind text b t e = rw (← e) t

given-starts : (kind : TypeByte) (t : Bool) (text b : List ℕ) → is_resp2_byte (byte_of kind) ≡ true
    → given t (line kind text) ≡ Some b → is_resp2_start b ≡ true
given-starts kind t text b y e = line-starts kind text b y (given-parts t (line kind text) b e).1

-- a line, and what follows it
counted-starts : (kind : TypeByte) (n : ℕ) (u : Option (List ℕ)) (b : List ℕ) → is_resp2_byte (byte_of kind) ≡ true
    → (length_line kind n ++? u) ≡ Some b → is_resp2_start b ≡ true
counted-starts kind n u b y e =
    let p = halves (length_line kind n) u b e in
    let q = given-parts (nat_lt n (2 ^ 63)) (line kind (decimal n)) p.first p.first_is in
    let whole : line kind (decimal n) ++ p.second ≡ b = ap (λ s. s ++ p.second) q.1 ∙ sym p.whole in
    rw (← whole) y

starts-layer : (spell : Value → Option (List ℕ))
    → ((b : List ℕ) (v : Value) → spell v ≡ Some b → is_resp2_start b ≡ true) → (x : Value-F Value) (b : List ℕ)
    → resp2_spelling spell x ≡ Some b → is_resp2_start b ≡ true
starts-layer spell starts Value-F.Nil b e = line-starts type_byte.BulkString (codes "-1") b refl (cc)
starts-layer spell starts Value-F.Okay b e = line-starts type_byte.SimpleString (codes "OK") b refl (cc)
starts-layer spell starts (Value-F.Int n) b e = given-starts type_byte.Integer _ _ b refl e
starts-layer spell starts (Value-F.SimpleString text) b e = given-starts type_byte.SimpleString _ _ b refl e
starts-layer spell starts (Value-F.BulkString bytes) b e = counted-starts type_byte.BulkString _ _ b refl e
starts-layer spell starts (Value-F.Array vs) b e = counted-starts type_byte.Array _ _ b refl e
starts-layer spell starts (Value-F.Map ps) b e = counted-starts type_byte.Array _ _ b refl e
starts-layer spell starts (Value-F.Attribute v ps) b e = starts b v e
starts-layer spell starts (Value-F.ServerError error) b e = given-starts type_byte.SimpleError _ _ b refl
    (kept (is_own_code error) _ b e).1
starts-layer spell starts (Value-F.Boolean truth) b e = line-starts type_byte.Integer
    (cond truth (codes "1") (codes "0")) b refl (cc)
starts-layer spell starts (Value-F.Double text) b e = counted-starts type_byte.BulkString _ _ b refl e
starts-layer spell starts (Value-F.BigNumber bytes) b e = counted-starts type_byte.BulkString _ _ b refl e
starts-layer spell starts (Value-F.Set vs) b e = counted-starts type_byte.Array _ _ b refl e
starts-layer spell starts (Value-F.VerbatimString format text) b e = counted-starts type_byte.BulkString _ _ b refl e
starts-layer spell starts (Value-F.Push kind vs) b e = counted-starts type_byte.Array _ _ b refl e

pub resp2-starts : (d : ℕ) (b : List ℕ) (v : Value) → resp2_encoding d v ≡ Some b → is_resp2_start b ≡ true
resp2-starts zero b v e = absurd (cc)
resp2-starts (suc d) b v e = starts-layer (resp2_encoding d) (resp2-starts d) (out-Value v) b e
