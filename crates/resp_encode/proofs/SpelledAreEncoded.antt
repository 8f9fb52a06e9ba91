-- What bytes spell, has an encoding.
use Rattle.std.proofs.Common.{◌≡◌, ℕ, zero, suc, ◌+◌, ◌-◌, ◌*◌, ◌/◌, ◌<◌, ◌^◌, Bool, true, false, not, cond, ◌&&◌, ◌==◌}
use Rattle.std.proofs.Common.{nat_lt, List, [], ◌∷◌, ◌++◌, length, take, get_or, codes, map, is_some, Option, Some}
use Rattle.std.proofs.Common.{None, Result, Ok, Err, ℤ, pos, negsuc, refl, sym, ap, subst, ◌∙◌, arith}
use Rattle.std.proofs.lemmas.Bool.{and_parts, and_from, ltb-true, lt-ltb}
use Rattle.std.proofs.lemmas.Str.{is_utf8-from_IsUtf8}
use Rattle.std.specs.Fmt.{◌++?◌, decimal, signed_decimal}
use Rattle.std.specs.List.{list_all, position_or_len, before_first, after_first}
use Rattle.std.specs.Str.{IsUtf8, is_utf8, bytes_eq, trim}
use Rattle.resp_value.specs.declared.value.Value.{Value, Nil, Okay, Int, SimpleString, BulkString, Array, Map}
use Rattle.resp_value.specs.declared.value.Value.{Attribute, ServerError, Boolean, Double, BigNumber, Set}
use Rattle.resp_value.specs.declared.value.Value.{VerbatimString, Push, roll-Value, map-Value, out-Value}
use Rattle.resp_value.specs.declared.value.Value.{out-roll-Value, fold-roll-Value}
use Rattle.resp_value.specs.declared.value.Value.TheVariants.{rolls-Nil, rolls-Okay, rolls-Int, rolls-SimpleString}
use Rattle.resp_value.specs.declared.value.Value.TheVariants.{rolls-BulkString, rolls-Array, rolls-Map, rolls-Attribute}
use Rattle.resp_value.specs.declared.value.Value.TheVariants.{rolls-ServerError, rolls-Boolean, rolls-Double}
use Rattle.resp_value.specs.declared.value.Value.TheVariants.{rolls-BigNumber, rolls-Set, rolls-VerbatimString}
use Rattle.resp_value.specs.declared.value.Value.TheVariants.{rolls-Push}
use Rattle.resp_value.specs.declared.value.Value.TheOpen.{Value-F}
use Rattle.resp_value.specs.Views.{pairs}
use Rattle.resp_value.specs.Names.{kind_named, name_of_push_kind, format_named}
use Rattle.resp_value.specs.declared.names.PushKind.{PushKind}
use Rattle.resp_value.specs.declared.names.PushKind.TheVariants as push_kinds
use Rattle.resp_value.specs.declared.names.VerbatimFormat.{VerbatimFormat}
use Rattle.resp_errors.specs.ServerErrors.{server_error, text_of}
use Rattle.resp_errors.specs.declared.kinds.FrameFault.{FrameFault}
use Rattle.resp_errors.specs.declared.kinds.FrameFault.TheVariants.{NotBoolean, NotDouble, NoVerbatimFormat}
use Rattle.resp_errors.specs.declared.kinds.FrameFault.TheVariants.{BadPushKind}
use Rattle.resp_containers.specs.Lossy.{lossy}
use Rattle.resp_parse.specs.declared.type_byte.TypeByte.{TypeByte}
use Rattle.resp_parse.specs.declared.type_byte.TypeByte.TheVariants as type_byte
use Rattle.resp_parse.specs.Lines.{crlf, NoBreak}
use Rattle.resp_parse.specs.Number.{integer_in, length_in}
use Rattle.resp_parse.specs.Double.{double_in, is_double}
use Rattle.resp_parse.specs.Grammar.{Announcement, complete, body, elements, invalid, announced, with_valid, or_nil}
use Rattle.resp_parse.specs.Grammar.{or_empty_push, simple, boolean_in, bulk_error, verbatim, verbatim_text, is_colon}
use Rattle.resp_parse.specs.Grammar.{attribute, last_element, push, push_kind, empty_push, Joined, Follows, WellFormed}
use Rattle.resp_encode.specs.Resp2.{flat}
use Rattle.resp_encode.specs.Encoding.{given, has_break, is_line, line, length_line, body_of, joined, aggregate}
use Rattle.resp_encode.specs.Encoding.{fits_i64, is_own_code, is_own_format, verbatim_body, is_own_kind, push_of}
use Rattle.resp_encode.specs.Encoding.{spelling, encoding, both_true, is_short, is_short_step, IsShort}
use Rattle.std.proofs.lemmas.List.Sums.{split_at_first, passes_at_first, prefix_len-le-length}
use Rattle.std.proofs.lemmas.Bool.Decides.{Decides-eqb, nat_tests}
use Rattle.std.proofs.lemmas.List.{length-take-le}
use Rattle.resp_errors.proofs.ErrorTexts as error_texts
use Rattle.resp_value.proofs.PairsCounted.{pairs_counted}
use Rattle.resp_encode.proofs.CutTexts.{no_break-from, before-none}
use Rattle.resp_parse.proofs.LossyTexts.{lossy-utf8}
use Rattle.resp_encode.proofs.NumbersReadBack.{integer-fits, length-fits}
use Rattle.resp_encode.proofs.OwnNames.{read-error, read-format, read-kind}

-- ---- what is there

abbrev Has : Option (List ℕ) → Type 0
Has o = is_some o ≡ true

has-given : (t : Bool) (bytes : List ℕ) → t ≡ true → Has (given t bytes)
has-given true bytes h = refl
has-given false bytes h = absurd (cc)

has-both : (x y : Option (List ℕ)) → Has x → Has y → Has (x ++? y)
has-both (Some a) (Some b) h k = refl
has-both (Some a) None h k = absurd (cc)
has-both None y h k = absurd (cc)

has-length : (kind : TypeByte) (n : ℕ) → n < 2 ^ 63 → Has (length_line kind n)
has-length kind n small = has-given (nat_lt n (2 ^ 63)) (line kind (decimal n)) (lt-ltb n (2 ^ 63) small)

has-body : (kind : TypeByte) (bytes : List ℕ) → length bytes < 2 ^ 63 → Has (body_of kind bytes)
has-body kind bytes small = has-both (length_line kind (length bytes)) (Some (bytes ++ crlf))
    (has-length kind (length bytes) small) refl

has-line : (kind : TypeByte) (text : List ℕ) → IsUtf8 text → NoBreak text → Has (given (is_line text) (line kind text))
has-line kind text u n = has-given (is_line text) (line kind text)
    (and_from (is_utf8 text) (not (has_break text)) (is_utf8-from_IsUtf8 text u) (ap not (no_break-from text n)))

-- ---- elements

abbrev Each : (Value → Type 0) → List Value → Type 0
Each P [] = Unit {0}
Each P (v ∷ vs) = P v × Each P vs

has-joined : (spell : Value → Option (List ℕ)) (vs : List Value) → Each (λ v. Has (spell v)) vs → Has (joined spell vs)
has-joined spell [] h = refl
has-joined spell (v ∷ vs) h = has-both (spell v) (joined spell vs) h.0 (has-joined spell vs h.1)

has-aggregate : (spell : Value → Option (List ℕ)) (kind : TypeByte) (n : ℕ) (vs : List Value) → n < 2 ^ 63
    → Each (λ v. Has (spell v)) vs → Has (aggregate spell kind n vs)
has-aggregate spell kind n vs small h = has-both (length_line kind n) (joined spell vs) (has-length kind n small)
    (has-joined spell vs h)

joined-has : (d : ℕ) → ((b : List ℕ) (v : Value) → WellFormed d b v → IsShort v → Has (encoding d v))
    → (b : List ℕ) (vs : List Value) → Joined (WellFormed d) b vs → Each IsShort vs → Each (λ v. Has (encoding d v)) vs
joined-has d has b [] j s = tt
joined-has d has b (v ∷ vs) j s = (has j.first v j.first_is s.0, joined-has d has j.others vs j.others_are s.1)

-- ---- short values

short-layer : (x : Value-F Value) (v : Value) → roll-Value x ≡ v → IsShort v
    → is_short_step (map-Value Value Bool is_short x) ≡ true
short-layer x v e h = sym (fold-roll-Value Bool is_short_step x) ∙ ap is_short e ∙ h

each-short : (vs : List Value) → list_all (λ b. b) (map is_short vs) ≡ true → Each IsShort vs
each-short [] h = tt
each-short (v ∷ vs) h = let p = and_parts (is_short v) (list_all (λ b. b) (map is_short vs)) h in
    (p.0, each-short vs p.1)

pairs-short : (ps : List (Value × Value)) → both_true (map (λ p. (is_short p.0, is_short p.1)) ps) ≡ true
    → Each IsShort (flat ps)
pairs-short [] h = tt
pairs-short (p ∷ ps) h =
    let q = and_parts (is_short p.0 && is_short p.1) (both_true (map (λ p. (is_short p.0, is_short p.1)) ps)) h in
    let r = and_parts (is_short p.0) (is_short p.1) q.0 in
    (r.0, (r.1, pairs-short ps q.1))

flat-pairs : (n : ℕ) (vs : List Value) → length vs ≡ 2 * n → flat (pairs vs) ≡ vs
flat-pairs n [] e = refl
flat-pairs n (k ∷ []) e = absurd (omega arith)
flat-pairs zero (k ∷ v ∷ vs) e = absurd (omega arith)
flat-pairs (suc n) (k ∷ v ∷ vs) e = ap (λ rest. k ∷ v ∷ rest) (flat-pairs n vs (omega arith))

-- ---- what a header announces

-- of a value of this form
at : (spell : Value → Option (List ℕ)) (x : Value-F Value) (v : Value) → roll-Value x ≡ v → Has (spelling spell x)
    → Has (spelling spell (out-Value v))
at spell x v e h = subst (λ y. Has (spelling spell y)) (sym (ap out-Value (sym e) ∙ out-roll-Value x)) h

module _ (spell : Value → Option (List ℕ)) where
  abbrev Encoded : Value → Type 0
  Encoded v = Has (spelling spell (out-Value v))

  -- if its elements have a spelling, the value has one
  abbrev Spellable : Announcement → Type 0
  Spellable (complete v) = Encoded v
  Spellable (body n make) = (bytes : List ℕ) (v : Value) → length bytes ≡ n → make bytes ≡ Ok v → IsShort v → Encoded v
  Spellable (elements n make) = (vs : List Value) (v : Value) → length vs ≡ n → make vs ≡ Ok v
      → (Each IsShort vs → Each (λ w. Has (spell w)) vs) → IsShort v → Encoded v
  Spellable (invalid f) = Unit {0}

  of-valid : {A : Type 0} (r : Result A FrameFault) (follows : A → Announcement)
      → ((x : A) → r ≡ Ok x → Spellable (follows x)) → Spellable (with_valid r follows)
  of-valid (Ok x) follows h = h x refl
  of-valid (Err f) follows h = tt

  nil-encoded : Encoded Nil
  nil-encoded = at spell Value-F.Nil Nil rolls-Nil refl

  of-nil : (follows : ℕ → Announcement) (n : ℤ) → ((k : ℕ) → n ≡ pos k → Spellable (follows k))
      → Spellable (or_nil follows n)
  of-nil follows (pos k) h = h k refl
  of-nil follows (negsuc k) h = nil-encoded

  simple-encoded : (text : List ℕ) → IsUtf8 text → NoBreak text → Encoded (simple text)
  simple-encoded text u n = by (bytes_eq text (codes "OK")) refl
    where
      by : (b : Bool) → bytes_eq text (codes "OK") ≡ b → Encoded (cond b Okay (SimpleString text))
      by true e = at spell Value-F.Okay Okay rolls-Okay refl
      by false e = at spell (Value-F.SimpleString text) (SimpleString text) (rolls-SimpleString text)
          (has-given (is_line text && not (bytes_eq text (codes "OK"))) (line type_byte.SimpleString text)
          (and_from (is_line text) (not (bytes_eq text (codes "OK")))
          (and_from (is_utf8 text) (not (has_break text)) (is_utf8-from_IsUtf8 text u) (ap not (no_break-from text n)))
          (ap not e)))

  error-encoded : (text : List ℕ) → IsUtf8 text → (has_break text ≡ true → length text < 2 ^ 63)
      → Encoded (ServerError (server_error text))
  error-encoded text u small =
      let e = server_error text in
      let same : text_of e ≡ text = error_texts.joined text in
      at spell (Value-F.ServerError e) (ServerError e) (rolls-ServerError e)
      (by (is_own_code e && is_utf8 (text_of e)) (has_break (text_of e)) refl
      (and_from (is_own_code e) (is_utf8 (text_of e)) (read-error text) (ap is_utf8 same ∙ is_utf8-from_IsUtf8 text u))
      (λ broken. subst (λ t. length t < 2 ^ 63) (sym same) (small (ap has_break (sym same) ∙ broken))))
    where
      by : (t broken : Bool) → has_break (text_of (server_error text)) ≡ broken → t ≡ true
          → (has_break (text_of (server_error text)) ≡ true → length (text_of (server_error text)) < 2 ^ 63)
          → Has (cond t (cond broken (body_of type_byte.BulkError (text_of (server_error text)))
          (Some (line type_byte.SimpleError (text_of (server_error text))))) None)
      by true true h i s = has-body type_byte.BulkError (text_of (server_error text)) (s h)
      by true false h i s = refl
      by false broken h i s = absurd (cc)

  int-encoded : (n : ℤ) → fits_i64 n ≡ true → Encoded (Int n)
  int-encoded n h = at spell (Value-F.Int n) (Int n) (rolls-Int n)
      (has-given (fits_i64 n) (line type_byte.Integer (signed_decimal n)) h)

  bulk-encoded : (bytes : List ℕ) → length bytes < 2 ^ 63 → Encoded (BulkString bytes)
  bulk-encoded bytes small = at spell (Value-F.BulkString bytes) (BulkString bytes) (rolls-BulkString bytes)
      (has-body type_byte.BulkString bytes small)

  array-encoded : (vs : List Value) → length vs < 2 ^ 63 → (Each IsShort vs → Each (λ w. Has (spell w)) vs)
      → IsShort (Array vs) → Encoded (Array vs)
  array-encoded vs small has s = at spell (Value-F.Array vs) (Array vs) (rolls-Array vs)
      (has-aggregate spell type_byte.Array (length vs) vs small
      (has (each-short vs (short-layer (Value-F.Array vs) (Array vs) (rolls-Array vs) s))))

  set-encoded : (vs : List Value) → length vs < 2 ^ 63 → (Each IsShort vs → Each (λ w. Has (spell w)) vs)
      → IsShort (Set vs) → Encoded (Set vs)
  set-encoded vs small has s = at spell (Value-F.Set vs) (Set vs) (rolls-Set vs)
      (has-aggregate spell type_byte.Set (length vs) vs small
      (has (each-short vs (short-layer (Value-F.Set vs) (Set vs) (rolls-Set vs) s))))

  map-encoded : (n : ℕ) (vs : List Value) → length vs ≡ 2 * n → n < 2 ^ 63
      → (Each IsShort vs → Each (λ w. Has (spell w)) vs) → IsShort (Map (pairs vs)) → Encoded (Map (pairs vs))
  map-encoded n vs size small has s =
      let ps = pairs vs in
      let same : flat ps ≡ vs = flat-pairs n vs size in
      let count : length ps ≡ length vs / 2 = pairs_counted vs in
      let shorts = subst (Each IsShort) same (pairs-short ps
      (short-layer (Value-F.Map ps) (Map ps) (rolls-Map ps) s)) in
      at spell (Value-F.Map ps) (Map ps) (rolls-Map ps)
      (has-aggregate spell type_byte.Map (length ps) (flat ps) (omega arith)
      (subst (Each (λ w. Has (spell w))) (sym same) (has shorts)))

  big-encoded : (text : List ℕ) → IsUtf8 text → NoBreak text → Encoded (BigNumber text)
  big-encoded text u n = at spell (Value-F.BigNumber text) (BigNumber text) (rolls-BigNumber text)
      (has-line type_byte.BigNumber text u n)

  boolean-encoded : (b : Bool) → Encoded (Boolean b)
  boolean-encoded b = at spell (Value-F.Boolean b) (Boolean b) (rolls-Boolean b) refl

  of-boolean : (text : List ℕ) (v : Value) → boolean_in text ≡ Ok v → Encoded v
  of-boolean text v e = by (bytes_eq text (codes "t")) (bytes_eq text (codes "f")) e
    where
      by : (b c : Bool) → cond b (Ok (Boolean true)) (cond c (Ok (Boolean false)) (Err NotBoolean)) ≡ Ok v → Encoded v
      by true c i = let z : Boolean true ≡ v = cc in subst Encoded z (boolean-encoded true)
      by false true i = let z : Boolean false ≡ v = cc in subst Encoded z (boolean-encoded false)
      by false false i = absurd (cc)

  of-double : (text : List ℕ) (v : Value) → double_in text ≡ Ok v → Encoded v
  unfolding double_in
  of-double text v e = by (is_double (trim text)) refl e
    where
      by : (b : Bool) → is_double (trim text) ≡ b → cond b (Ok (Double (trim text))) (Err NotDouble) ≡ Ok v → Encoded v
      by true h i =
          let z : Double (trim text) ≡ v = cc in
          subst Encoded z (at spell (Value-F.Double (trim text)) (Double (trim text)) (rolls-Double (trim text))
          (has-given (is_double (trim text)) (line type_byte.Double (trim text)) h))
      by false h i = absurd (cc)

  -- a body that is an error, or a verbatim string
  of-bulk_error : (bytes : List ℕ) → IsShort (ServerError (server_error (lossy bytes)))
      → Encoded (ServerError (server_error (lossy bytes)))
  of-bulk_error bytes s =
      let text = lossy bytes in
      let e = server_error text in
      let small : nat_lt (length (text_of e)) (2 ^ 63) ≡ true = short-layer (Value-F.ServerError e) (ServerError e)
      (rolls-ServerError e) s in
      error-encoded text (lossy-utf8 bytes) (λ _. subst (λ t. length t < 2 ^ 63) (error_texts.joined text)
      (ltb-true (length (text_of e)) (2 ^ 63) small))

  verbatim-encoded : (fmt : VerbatimFormat) (text : List ℕ) → is_own_format fmt ≡ true
      → is_utf8 (verbatim_body fmt text) ≡ true → IsShort (VerbatimString fmt text) → Encoded (VerbatimString fmt text)
  verbatim-encoded fmt text own u s = at spell (Value-F.VerbatimString fmt text) (VerbatimString fmt text)
      (rolls-VerbatimString fmt text)
      (by (is_own_format fmt && is_utf8 (verbatim_body fmt text))
      (and_from (is_own_format fmt) (is_utf8 (verbatim_body fmt text)) own u)
      (has-body type_byte.VerbatimString (verbatim_body fmt text)
      (ltb-true (length (verbatim_body fmt text)) (2 ^ 63)
      (short-layer (Value-F.VerbatimString fmt text) (VerbatimString fmt text) (rolls-VerbatimString fmt text) s))))
    where
      by : (t : Bool) → t ≡ true → Has (body_of type_byte.VerbatimString (verbatim_body fmt text))
          → Has (cond t (body_of type_byte.VerbatimString (verbatim_body fmt text)) None)
      by true e h = h
      by false e h = absurd (cc)

  below : (text : List ℕ) → (position_or_len is_colon text == length text) ≡ false
      → position_or_len is_colon text < length text
  below text e = let most = prefix_len-le-length (λ byte. not (is_colon byte)) text in grind (arith, nat_tests, most, e)

  of-verbatim_text : (text : List ℕ) (v : Value) → IsUtf8 text → verbatim_text text ≡ Ok v → IsShort v → Encoded v
  of-verbatim_text text v u e s = by (position_or_len is_colon text == length text) refl e
    where
      by : (b : Bool) → (position_or_len is_colon text == length text) ≡ b
          → cond b (Err NoVerbatimFormat) (Ok (VerbatimString (format_named (before_first is_colon text))
          (after_first is_colon text))) ≡ Ok v → Encoded v
      by true h i = absurd (cc)
      by false h i =
          let name = before_first is_colon text in
          let fmt = format_named name in
          let z : VerbatimString fmt (after_first is_colon text) ≡ v = cc in
          let named = read-format name (before-none is_colon text) in
          let inside = below text h in
          let colon : get_or text (position_or_len is_colon text) 0
          ≡ 58 = (Decides-eqb (get_or text (position_or_len is_colon text) 0) 58).0
          (passes_at_first is_colon text 0 inside) in
          let whole : verbatim_body fmt (after_first is_colon text) ≡ text =
          ap (λ n. n ++ (58 ∷ after_first is_colon text)) named.0
          ∙ ap (λ c. name ++ (c ∷ after_first is_colon text)) (sym colon)
          ∙ sym (split_at_first is_colon text 0 inside) in
          subst Encoded z (verbatim-encoded fmt (after_first is_colon text) named.1
          (ap is_utf8 whole ∙ is_utf8-from_IsUtf8 text u) (subst IsShort (sym z) s))

  -- attributes
  each-append : (P : Value → Type 0) (vs ws : List Value) → Each P vs → Each P ws → Each P (vs ++ ws)
  each-append P [] ws h k = k
  each-append P (v ∷ vs) ws h k = (h.0, each-append P vs ws h.1 k)

  attribute-encoded : (v : Value) (ps : List (Value × Value)) → length ps < 2 ^ 63
      → (Each IsShort (flat ps ++ v ∷ []) → Each (λ w. Has (spell w)) (flat ps ++ v ∷ [])) → IsShort (Attribute v ps)
      → Encoded (Attribute v ps)
  attribute-encoded v ps small has s =
      let p = and_parts (is_short v) (both_true (map (λ p. (is_short p.0, is_short p.1)) ps))
      (short-layer (Value-F.Attribute v ps) (Attribute v ps) (rolls-Attribute v ps) s) in
      at spell (Value-F.Attribute v ps) (Attribute v ps) (rolls-Attribute v ps)
      (has-aggregate spell type_byte.Attribute (length ps) (flat ps ++ v ∷ []) small
      (has (each-append IsShort (flat ps) (v ∷ []) (pairs-short ps p.1) (p.0, tt))))

  -- a list that isn't empty is what stands before its last element, and that element
  split-last : (n : ℕ) (vs : List Value) → length vs ≡ n + 1 → vs ≡ take n vs ++ last_element vs ∷ []
  split-last n [] e = absurd (omega arith)
  split-last zero (v ∷ []) e = refl
  split-last (suc n) (v ∷ []) e = absurd (omega arith)
  split-last zero (v ∷ w ∷ vs) e = absurd (omega arith)
  split-last (suc n) (v ∷ w ∷ vs) e = ap (λ rest. v ∷ rest) (split-last n (w ∷ vs) (omega arith))

  of-attribute : (n : ℕ) (vs : List Value) → length vs ≡ 2 * n + 1 → n < 2 ^ 63
      → (Each IsShort vs → Each (λ w. Has (spell w)) vs) → IsShort (attribute vs) → Encoded (attribute vs)
  of-attribute n vs size small has s =
      let k : length vs - 1 ≡ 2 * n = omega arith in
      let front = take (length vs - 1) vs in
      let long : length front ≡ 2 * n = rw k (length-take-le (2 * n) vs (omega arith)) in
      let same : flat (pairs front) ≡ front = flat-pairs n front long in
      let count : length (pairs front) ≡ length front / 2 = pairs_counted front in
      let whole : vs ≡ flat (pairs front) ++ last_element vs ∷ [] = split-last (2 * n) vs size
      ∙ ap (λ j. take j vs ++ last_element vs ∷ []) (sym k) ∙ ap (λ x. x ++ last_element vs ∷ []) (sym same) in
      attribute-encoded (last_element vs) (pairs front) (omega arith)
      (subst (λ x. Each IsShort x → Each (λ w. Has (spell w)) x) whole has) s

  -- pushes
  full-has : (kind : PushKind) (payload : List Value) → is_own_kind kind ≡ true → suc (length payload) < 2 ^ 63
      → Has (spell (BulkString (name_of_push_kind kind))) → Each (λ w. Has (spell w)) payload
      → Has (cond (is_own_kind kind) (aggregate spell type_byte.Push (suc (length payload))
      (BulkString (name_of_push_kind kind) ∷ payload)) None)
  full-has kind payload own small first has = rw own
      (has-aggregate spell type_byte.Push (suc (length payload)) (BulkString (name_of_push_kind kind) ∷ payload) small
      (first, has))

  push-has : (kind : PushKind) (payload : List Value) → is_own_kind kind ≡ true → suc (length payload) < 2 ^ 63
      → Has (spell (BulkString (name_of_push_kind kind))) → Each (λ w. Has (spell w)) payload
      → Has (push_of spell kind payload)
  push-has (push_kinds.Other []) [] own small first has = refl
  push-has (push_kinds.Other []) (v ∷ vs) own small first has = full-has (push_kinds.Other []) (v ∷ vs) own small first
      has
  push-has (push_kinds.Other (c ∷ name)) payload own small first has = full-has (push_kinds.Other (c ∷ name)) payload
      own small first has
  push-has push_kinds.Disconnection payload own small first has = absurd (cc)
  push-has push_kinds.Invalidate payload own small first has = full-has push_kinds.Invalidate payload own small first
      has
  push-has push_kinds.Message payload own small first has = full-has push_kinds.Message payload own small first has
  push-has push_kinds.PMessage payload own small first has = full-has push_kinds.PMessage payload own small first has
  push-has push_kinds.SMessage payload own small first has = full-has push_kinds.SMessage payload own small first has
  push-has push_kinds.Unsubscribe payload own small first has = full-has push_kinds.Unsubscribe payload own small first
      has
  push-has push_kinds.PUnsubscribe payload own small first has = full-has push_kinds.PUnsubscribe payload own small
      first has
  push-has push_kinds.SUnsubscribe payload own small first has = full-has push_kinds.SUnsubscribe payload own small
      first has
  push-has push_kinds.Subscribe payload own small first has = full-has push_kinds.Subscribe payload own small first has
  push-has push_kinds.PSubscribe payload own small first has = full-has push_kinds.PSubscribe payload own small first
      has
  push-has push_kinds.SSubscribe payload own small first has = full-has push_kinds.SSubscribe payload own small first
      has

  push-encoded : (kind : PushKind) (payload : List Value) → Has (push_of spell kind payload)
      → Encoded (Push kind payload)
  push-encoded kind payload h = at spell (Value-F.Push kind payload) (Push kind payload) (rolls-Push kind payload) h

  empty_push-encoded : Encoded empty_push
  unfolding kind_named
  empty_push-encoded = push-encoded (kind_named []) [] refl

  of-empty_push : (follows : ℕ → Announcement) (n : ℤ) → ((k : ℕ) → n ≡ pos k → Spellable (follows k))
      → Spellable (or_empty_push follows n)
  of-empty_push follows (pos zero) h = empty_push-encoded
  of-empty_push follows (pos (suc k)) h = h (suc k) refl
  of-empty_push follows (negsuc k) h = empty_push-encoded

  simple-short : (text : List ℕ) → IsShort (SimpleString text)
  simple-short text = ap is_short (sym (rolls-SimpleString text)) ∙ fold-roll-Value Bool is_short_step
      (Value-F.SimpleString text)

  bulk-short : (bytes : List ℕ) → IsShort (BulkString bytes)
  bulk-short bytes = ap is_short (sym (rolls-BulkString bytes)) ∙ fold-roll-Value Bool is_short_step
      (Value-F.BulkString bytes)

  -- where a simple string has a spelling, its text is UTF-8, and where any value has one, a short
  -- bulk string has one
  module _ (is_text : (text : List ℕ) → Has (spell (SimpleString text)) → is_utf8 text ≡ true)
      (bulk_too : (bytes : List ℕ) (v : Value) → length bytes < 2 ^ 63 → Has (spell v) → Has (spell (BulkString bytes)))
    where
      named-has : (first : Value) (name : List ℕ) (payload : List Value) → IsShort first
          → (Has (spell first) → is_utf8 name ≡ true) → suc (length payload) < 2 ^ 63
          → (Each IsShort (first ∷ payload) → Each (λ w. Has (spell w)) (first ∷ payload))
          → IsShort (Push (kind_named name) payload) → Encoded (Push (kind_named name) payload)
      named-has first name payload fs text small has s =
          let kind = kind_named name in
          let p = and_parts (nat_lt (length (name_of_push_kind kind)) (2 ^ 63))
          (list_all (λ b. b) (map is_short payload))
          (short-layer (Value-F.Push kind payload) (Push kind payload) (rolls-Push kind payload) s) in
          let each = has (fs, each-short payload p.1) in
          push-encoded kind payload (push-has kind payload (read-kind name (text each.0)) small
          (bulk_too (name_of_push_kind kind) first (ltb-true (length (name_of_push_kind kind)) (2 ^ 63) p.0) each.0)
          each.1)

      of-kind : (first : Value) (payload : List Value) (kind : PushKind) → push_kind first ≡ Some kind
          → suc (length payload) < 2 ^ 63 →
          (Each IsShort (first ∷ payload) → Each (λ w. Has (spell w)) (first ∷ payload))
          → IsShort (Push kind payload) → Encoded (Push kind payload)
      of-kind (SimpleString name) payload kind e small has s =
          let z : kind_named name ≡ kind = cc in
          subst (λ k. Encoded (Push k payload)) z (named-has (SimpleString name) name payload (simple-short name)
          (is_text name) small has (subst (λ k. IsShort (Push k payload)) (sym z) s))
      of-kind (BulkString name) payload kind e small has s = by (is_utf8 name) refl e
        where
          by : (b : Bool) → is_utf8 name ≡ b → cond b (Some (kind_named name)) None ≡ Some kind
              → Encoded (Push kind payload)
          by true u i =
              let z : kind_named name ≡ kind = cc in
              subst (λ k. Encoded (Push k payload)) z
              (named-has (BulkString name) name payload (bulk-short name) (λ _. u) small has
              (subst (λ k. IsShort (Push k payload)) (sym z) s))
          by false u i = absurd (cc)
      of-kind _ payload kind e small has s = absurd (cc)

      of-push : (vs : List Value) (v : Value) → length vs < 2 ^ 63 → push vs ≡ Ok v
          → (Each IsShort vs → Each (λ w. Has (spell w)) vs) → IsShort v → Encoded v
      of-push [] v small e has s = absurd (cc)
      of-push (first ∷ payload) v small e has s = by (push_kind first) refl e
        where
          by : (k : Option PushKind) → push_kind first ≡ k
              → (elim k as (λ _. Result Value FrameFault)
              [ Some kind ↦ Ok (Push kind payload) | None ↦ Err BadPushKind ])
              ≡ Ok v → Encoded v
          by (Some kind) h i = let z : Push kind payload ≡ v = cc in
              subst Encoded z (of-kind first payload kind h small has (subst IsShort (sym z) s))
          by None h i = absurd (cc)

      -- what a line of each type announces
      announced-spellable : (kind : TypeByte) (text : List ℕ) → IsUtf8 text → NoBreak text
          → Spellable (announced kind text)
      announced-spellable type_byte.SimpleString text u n = simple-encoded text u n
      announced-spellable type_byte.SimpleError text u n = error-encoded text u
          (λ broken. absurd (let none = no_break-from text n in cc))
      announced-spellable type_byte.Integer text u n = of-valid (integer_in text) (λ k. complete (Int k))
          (λ k e. int-encoded k (integer-fits text k e))
      announced-spellable type_byte.BulkString text u n = of-valid (integer_in text)
          (or_nil (λ k. body k (λ bytes. Ok (BulkString bytes))))
          (λ k e. of-nil (λ k. body k (λ bytes. Ok (BulkString bytes))) k (λ j i bytes v size makes s.
          let z : BulkString bytes ≡ v = cc in
          let small : j < 2 ^ 63 = ltb-true j (2 ^ 63) (subst (λ x. fits_i64 x ≡ true) i (integer-fits text k e)) in
          subst Encoded z (bulk-encoded bytes (omega arith))))
      announced-spellable type_byte.Array text u n = of-valid (integer_in text)
          (or_nil (λ k. elements k (λ values. Ok (Array values))))
          (λ k e. of-nil (λ k. elements k (λ values. Ok (Array values))) k (λ j i vs v size makes has s.
          let z : Array vs ≡ v = cc in
          let small : j < 2 ^ 63 = ltb-true j (2 ^ 63) (subst (λ x. fits_i64 x ≡ true) i (integer-fits text k e)) in
          subst Encoded z (array-encoded vs (omega arith) has (subst IsShort (sym z) s))))
      announced-spellable type_byte.Null text u n = nil-encoded
      announced-spellable type_byte.Boolean text u n = of-valid (boolean_in text) complete (of-boolean text)
      announced-spellable type_byte.Double text u n = of-valid (double_in text) complete (of-double text)
      announced-spellable type_byte.BigNumber text u n = big-encoded text u n
      announced-spellable type_byte.BulkError text u n = of-valid (length_in text)
          (λ k. body k (λ bytes. Ok (bulk_error bytes)))
          (λ k e bytes v size makes s.
          let z : bulk_error bytes ≡ v = cc in
          subst Encoded z (of-bulk_error bytes (subst IsShort (sym z) s)))
      announced-spellable type_byte.VerbatimString text u n = of-valid (length_in text) (λ k. body k verbatim)
          (λ k e bytes v size makes s. of-verbatim_text (lossy bytes) v (lossy-utf8 bytes) makes s)
      announced-spellable type_byte.Map text u n = of-valid (length_in text)
          (λ k. elements (2 * k) (λ values. Ok (Map (pairs values))))
          (λ k e vs v size makes has s.
          let z : Map (pairs vs) ≡ v = cc in
          subst Encoded z (map-encoded k vs size (length-fits text k e) has (subst IsShort (sym z) s)))
      announced-spellable type_byte.Attribute text u n = of-valid (length_in text)
          (λ k. elements (2 * k + 1) (λ values. Ok (attribute values)))
          (λ k e vs v size makes has s.
          let z : attribute vs ≡ v = cc in
          subst Encoded z (of-attribute k vs size (length-fits text k e) has (subst IsShort (sym z) s)))
      announced-spellable type_byte.Set text u n = of-valid (integer_in text)
          (or_nil (λ k. elements k (λ values. Ok (Set values))))
          (λ k e. of-nil (λ k. elements k (λ values. Ok (Set values))) k (λ j i vs v size makes has s.
          let z : Set vs ≡ v = cc in
          let small : j < 2 ^ 63 = ltb-true j (2 ^ 63) (subst (λ x. fits_i64 x ≡ true) i (integer-fits text k e)) in
          subst Encoded z (set-encoded vs (omega arith) has (subst IsShort (sym z) s))))
      announced-spellable type_byte.Push text u n = of-valid (integer_in text) (or_empty_push (λ k. elements k push))
          (λ k e. of-empty_push (λ k. elements k push) k (λ j i vs v size makes has s.
          let small : j < 2 ^ 63 = ltb-true j (2 ^ 63) (subst (λ x. fits_i64 x ≡ true) i (integer-fits text k e)) in
          of-push vs v (omega arith) makes has s))

-- ---- all levels

has-in : (t : Bool) (bytes : List ℕ) → Has (given t bytes) → t ≡ true
has-in true bytes h = refl
has-in false bytes h = absurd (cc)

text-in : (d : ℕ) (text : List ℕ) → Has (encoding d (SimpleString text)) → is_utf8 text ≡ true
text-in zero text h = absurd (cc)
text-in (suc d) text h =
    let x : out-Value (SimpleString text) ≡ Value-F.SimpleString text = ap out-Value (sym (rolls-SimpleString text))
    ∙ out-roll-Value (Value-F.SimpleString text) in
    let k = has-in (is_line text && not (bytes_eq text (codes "OK"))) (line type_byte.SimpleString text)
    (subst (λ y. Has (spelling (encoding d) y)) x h) in
    (and_parts (is_utf8 text) (not (has_break text))
    (and_parts (is_line text) (not (bytes_eq text (codes "OK"))) k).0).0

bulk-in : (d : ℕ) (bytes : List ℕ) (v : Value) → length bytes < 2 ^ 63 → Has (encoding d v)
    → Has (encoding d (BulkString bytes))
bulk-in zero bytes v small h = absurd (cc)
bulk-in (suc d) bytes v small h = bulk-encoded (encoding d) bytes small

follows-encoded : (d : ℕ) → ((b : List ℕ) (v : Value) → WellFormed d b v → IsShort v → Has (encoding d v))
    → (a : Announcement) → Spellable (encoding d) a → (rest : List ℕ) (v : Value) → Follows (WellFormed d) a rest v
    → IsShort v → Has (encoding (suc d) v)
follows-encoded d has (complete w) h rest v f s = subst (λ x. Has (encoding (suc d) x)) (sym f.1) h
follows-encoded d has (body n make) h rest v f s = h f.content v f.size f.makes s
follows-encoded d has (elements n make) h rest v f s = h f.values v f.size f.makes
    (joined-has d has rest f.values f.joined) s
follows-encoded d has (invalid g) h rest v f s = absurd f

pub spelled-encoded : (d : ℕ) (b : List ℕ) (v : Value) → WellFormed d b v → IsShort v → Has (encoding d v)
spelled-encoded zero b v g s = absurd g
spelled-encoded (suc d) b v g s = follows-encoded d (spelled-encoded d) (announced g.kind g.text)
    (announced-spellable (encoding d) (text-in d) (bulk-in d) g.kind g.text g.text_is_utf8 g.header.unbroken) g.rest v
    g.follows s
