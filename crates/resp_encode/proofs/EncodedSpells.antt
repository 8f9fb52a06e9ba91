-- What is sent for a value spells it.
use Rattle.std.proofs.Common.{◌≡◌, ℕ, zero, suc, ◌+◌, ◌*◌, ◌<◌, ◌^◌, Bool, true, false, not, cond, ◌&&◌, nat_lt, List}
use Rattle.std.proofs.Common.{[], ◌∷◌, ◌++◌, length, map, codes, Option, Some, None, Result, Ok, Err, ℤ, pos, refl, sym}
use Rattle.std.proofs.Common.{ap, subst, ◌∙◌, append_assoc, arith}
use Rattle.std.proofs.lemmas.Bool.{and_parts, ltb-true}
use Rattle.std.proofs.lemmas.List.{map-id}
use Rattle.std.specs.Fmt.{◌++?◌, decimal, signed_decimal}
use Rattle.std.specs.Str.{IsUtf8, is_utf8}
use Rattle.resp_value.specs.declared.value.Value.{Value, Nil, Okay, Int, SimpleString, BulkString, Array, Map}
use Rattle.resp_value.specs.declared.value.Value.{Attribute, ServerError, Boolean, Double, BigNumber, Set}
use Rattle.resp_value.specs.declared.value.Value.{VerbatimString, Push, roll-Value, out-Value, roll-out-Value}
use Rattle.resp_value.specs.declared.value.Value.TheOpen.{Value-F}
use Rattle.resp_errors.specs.declared.kinds.FrameFault.{FrameFault}
use Rattle.resp_errors.specs.declared.kinds.FrameFault.TheVariants.{NotInteger}
use Rattle.resp_parse.specs.declared.type_byte.TypeByte.{TypeByte}
use Rattle.resp_parse.specs.declared.type_byte.TypeByte.TheVariants as type_byte
use Rattle.resp_parse.specs.TypeBytes.{byte_of}
use Rattle.resp_parse.specs.Lines.{crlf, NoBreak}
use Rattle.resp_parse.specs.Number.{integer_in, as_length, length_in}
use Rattle.resp_parse.specs.Grammar.{Announcement, complete, body, elements, announced, Header, Joined, Follows}
use Rattle.resp_parse.specs.Grammar.{WellFormed}
use Rattle.resp_parse.specs.Grammar.{with_valid, or_nil, or_empty_push, bulk_error, verbatim, attribute, push}
use Rattle.resp_parse.specs.Grammar.{push_kind}
use Rattle.resp_parse.proofs.PushesAndAttributes.{push_kind-text, attribute-popped}
use Rattle.resp_parse.specs.Double.{double_in, is_double}
use Rattle.resp_errors.specs.ServerErrors.{server_error, text_of}
use Rattle.resp_errors.specs.declared.server_error.ServerError.{ServerError as Error}
use Rattle.resp_value.specs.Names.{kind_named, name_of_push_kind}
use Rattle.resp_value.specs.Views.{pairs}
use Rattle.resp_value.specs.declared.names.PushKind.{PushKind}
use Rattle.resp_value.specs.declared.names.PushKind.TheVariants as push_kinds
use Rattle.resp_value.specs.declared.names.VerbatimFormat.{VerbatimFormat}
use Rattle.resp_value.specs.declared.value.Value.TheVariants.{rolls-Nil, rolls-Okay, rolls-Int, rolls-SimpleString}
use Rattle.resp_value.specs.declared.value.Value.TheVariants.{rolls-BulkString, rolls-Array, rolls-Map, rolls-Attribute}
use Rattle.resp_value.specs.declared.value.Value.TheVariants.{rolls-ServerError, rolls-Boolean, rolls-Double}
use Rattle.resp_value.specs.declared.value.Value.TheVariants.{rolls-BigNumber, rolls-Set, rolls-VerbatimString}
use Rattle.resp_value.specs.declared.value.Value.TheVariants.{rolls-Push}
use Rattle.std.proofs.lemmas.Fmt.{decimal_digit}
use Rattle.std.proofs.lemmas.Str.{IsUtf8-from_is_utf8}
use Rattle.std.specs.Str.{bytes_eq}
use Rattle.resp_encode.specs.Resp2.{flat}
use Rattle.resp_encode.specs.Encoding.{given, has_break, is_line, line, length_line, body_of, joined, aggregate}
use Rattle.resp_encode.specs.Encoding.{fits_i64, is_own_code, error_of, is_own_format, verbatim_body, verbatim_of}
use Rattle.resp_encode.specs.Encoding.{is_own_kind, push_of, spelling, encoding}
use Rattle.resp_encode.proofs.NumbersReadBack.{Graphic, number-decimal, number-signed, decimal-graphic, signed-graphic}
use Rattle.resp_encode.proofs.NumbersReadBack.{utf8-graphic, unbroken-graphic, trim-graphic}
use Rattle.resp_encode.proofs.CutTexts.{no_break}
use Rattle.resp_encode.proofs.DoublesReadBack.{double-graphic}
use Rattle.resp_encode.proofs.OwnNames.{lossy-text, error-read, verbatim-read, kind-read, kind-utf8}

-- ---- parts of what is there

pub given-parts : (t : Bool) (bytes b : List ℕ) → given t bytes ≡ Some b → (t ≡ true) × (bytes ≡ b)
given-parts true bytes b e = (refl, cc)
given-parts false bytes b e = absurd (cc)

-- two texts, of which the bytes are made
pub record Halves (x y : Option (List ℕ)) (b : List ℕ) : Type 0 where
  pub first : List ℕ
  pub second : List ℕ
  pub first_is : x ≡ Some first
  pub second_is : y ≡ Some second
  pub whole : b ≡ first ++ second

pub halves : (x y : Option (List ℕ)) (b : List ℕ) → (x ++? y) ≡ Some b → Halves x y b
halves (Some a) (Some c) b e = record { first = a; second = c; first_is = refl; second_is = refl; whole = cc }
halves (Some a) None b e = absurd (cc)
halves None y b e = absurd (cc)

-- ---- headers

pub integer-decimal : (n : ℕ) → n < 2 ^ 63 → integer_in (decimal n) ≡ Ok (pos n)
integer-decimal n small = ap (λ o. elim o as (λ _. Result ℤ FrameFault) [ Some k ↦ Ok k | None ↦ Err NotInteger ])
    (number-decimal n small)

pub length-decimal : (n : ℕ) → n < 2 ^ 63 → length_in (decimal n) ≡ Ok n
length-decimal n small = ap (λ r. elim r as (λ _. Result ℕ FrameFault) [ Ok k ↦ as_length k | Err f ↦ Err f ])
    (integer-decimal n small)

headed : (kind : TypeByte) (text rest : List ℕ) → NoBreak text → Header (line kind text ++ rest) kind text rest
headed kind text rest unbroken = record {
  bytes = ap (λ s. byte_of kind ∷ s) (append_assoc text crlf rest);
  unbroken = unbroken;
}

-- a value in a line
pub line-spells : (d : ℕ) (kind : TypeByte) (text : List ℕ) (v : Value) → IsUtf8 text → NoBreak text
    → announced kind text ≡ complete v → WellFormed (suc d) (line kind text) v
line-spells d kind text v utf8 unbroken e = record {
  kind = kind;
  text = text;
  rest = [];
  header = record { bytes = refl; unbroken = unbroken };
  text_is_utf8 = utf8;
  follows = rw e (refl, refl);
}

-- a value that follows the line of a length
counted-spells : (d : ℕ) (kind : TypeByte) (n : ℕ) (a : Announcement) (head rest b : List ℕ) (v : Value)
    → length_line kind n ≡ Some head → b ≡ head ++ rest → (n < 2 ^ 63 → announced kind (decimal n) ≡ a)
    → Follows (WellFormed d) a rest v → WellFormed (suc d) b v
counted-spells d kind n a head rest b v h whole e f =
    let p = given-parts (nat_lt n (2 ^ 63)) (line kind (decimal n)) head h in
    let small : n < 2 ^ 63 = ltb-true n (2 ^ 63) p.0 in
    let g = decimal-graphic n (omega arith) in
    record {
      kind = kind;
      text = decimal n;
      rest = rest;
      header = subst (λ s. Header s kind (decimal n) rest) (sym (whole ∙ ap (λ s. s ++ rest) (sym p.1)))
          (headed kind (decimal n) rest (unbroken-graphic (decimal n) g));
      text_is_utf8 = utf8-graphic (decimal n) g;
      follows = rw (e small) f;
    }

-- a value with a body
pub body-spells : (d : ℕ) (kind : TypeByte) (bytes b : List ℕ) (make : List ℕ → Result Value FrameFault) (v : Value)
    → body_of kind bytes ≡ Some b → ((n : ℕ) → n < 2 ^ 63 → announced kind (decimal n) ≡ body n make)
    → make bytes ≡ Ok v → WellFormed (suc d) b v
body-spells d kind bytes b make v h e makes =
    let p = halves (length_line kind (length bytes)) (Some (bytes ++ crlf)) b h in
    let rest : bytes ++ crlf ≡ p.second = (let i = p.second_is in cc) in
    counted-spells d kind (length bytes) (body (length bytes) make) p.first p.second b v p.first_is p.whole
    (e (length bytes)) (record { content = bytes; size = refl; whole = sym rest; makes = makes })

-- values one after another, each of which is read as another
pub joined-spells : (spell : Value → Option (List ℕ)) (P : List ℕ → Value → Type 0) (f : Value → Value)
    → ((b : List ℕ) (v : Value) → spell v ≡ Some b → P b (f v)) → (vs : List Value) (b : List ℕ)
    → joined spell vs ≡ Some b → Joined P b (map f vs)
joined-spells spell P f spells [] b e = cc
joined-spells spell P f spells (v ∷ vs) b e =
    let p = halves (spell v) (joined spell vs) b e in
    record {
      first = p.first;
      others = p.second;
      whole = p.whole;
      first_is = spells p.first v p.first_is;
      others_are = joined-spells spell P f spells vs p.second p.second_is;
    }

-- a value with elements
pub aggregate-spells : (d : ℕ) (spell : Value → Option (List ℕ)) (kind : TypeByte) (n m : ℕ) (vs ws : List Value)
    → ((b : List ℕ) → joined spell vs ≡ Some b → Joined (WellFormed d) b ws)
    → (make : List Value → Result Value FrameFault) (b : List ℕ) (v : Value) → aggregate spell kind n vs ≡ Some b
    → (n < 2 ^ 63 → announced kind (decimal n) ≡ elements m make) → length ws ≡ m → make ws ≡ Ok v
    → WellFormed (suc d) b v
aggregate-spells d spell kind n m vs ws reads make b v h e size makes =
    let p = halves (length_line kind n) (joined spell vs) b h in
    counted-spells d kind n (elements m make) p.first p.second b v p.first_is p.whole e
    (record { values = ws; size = size; joined = reads p.second p.second_is; makes = makes })

-- an array of values
pub array-spells : (d : ℕ) (spell : Value → Option (List ℕ)) (vs ws : List Value)
    → ((b : List ℕ) → joined spell vs ≡ Some b → Joined (WellFormed d) b ws) → (b : List ℕ)
    → aggregate spell type_byte.Array (length ws) vs ≡ Some b → WellFormed (suc d) b (Array ws)
array-spells d spell vs ws reads b e = aggregate-spells d spell type_byte.Array (length ws) (length ws) vs ws reads
    (λ values. Ok (Array values)) b (Array ws) e
    (λ small. ap (λ r. with_valid r (or_nil (λ k. elements k (λ values. Ok (Array values)))))
    (integer-decimal (length ws) small)) refl refl

-- ---- kind by kind

not-false : (b : Bool) → not b ≡ true → b ≡ false
not-false false h = refl
not-false true h = absurd (cc)

-- a choice that is there was made by the test
pub kept : (t : Bool) (o : Option (List ℕ)) (b : List ℕ) → cond t o None ≡ Some b → (t ≡ true) × (o ≡ Some b)
kept true o b e = (refl, e)
kept false o b e = absurd (cc)

pub graphic-spells : (d : ℕ) (kind : TypeByte) (text b : List ℕ) (v : Value) → Some (line kind text) ≡ Some b
    → Graphic text → announced kind text ≡ complete v → WellFormed (suc d) b v
graphic-spells d kind text b v e g a =
    let z : line kind text ≡ b = cc in
    subst (λ s. WellFormed (suc d) s v) z (line-spells d kind text v (utf8-graphic text g) (unbroken-graphic text g) a)

pub text-spells : (d : ℕ) (kind : TypeByte) (text b : List ℕ) (v : Value) → line kind text ≡ b → is_line text ≡ true
    → announced kind text ≡ complete v → WellFormed (suc d) b v
text-spells d kind text b v z h a =
    let p = and_parts (is_utf8 text) (not (has_break text)) h in
    subst (λ s. WellFormed (suc d) s v) z (line-spells d kind text v (IsUtf8-from_is_utf8 text p.0)
    (no_break text (not-false (has_break text) p.1)) a)

pub integer-signed : (n : ℤ) → fits_i64 n ≡ true → integer_in (signed_decimal n) ≡ Ok n
integer-signed n h = ap (λ o. elim o as (λ _. Result ℤ FrameFault) [ Some k ↦ Ok k | None ↦ Err NotInteger ])
    (number-signed n h)

pub int-spells : (d : ℕ) (n : ℤ) (b : List ℕ) → given (fits_i64 n) (line type_byte.Integer (signed_decimal n)) ≡ Some b
    → WellFormed (suc d) b (Int n)
int-spells d n b e =
    let p = given-parts (fits_i64 n) (line type_byte.Integer (signed_decimal n)) b e in
    graphic-spells d type_byte.Integer (signed_decimal n) b (Int n) (ap Some p.1) (signed-graphic n p.0)
    (ap (λ r. with_valid r (λ k. complete (Int k))) (integer-signed n p.0))

pub simple-spells : (d : ℕ) (text b : List ℕ) → given (is_line text && not (bytes_eq text (codes "OK")))
    (line type_byte.SimpleString text) ≡ Some b → WellFormed (suc d) b (SimpleString text)
simple-spells d text b e =
    let p = given-parts (is_line text && not (bytes_eq text (codes "OK"))) (line type_byte.SimpleString text) b e in
    let q = and_parts (is_line text) (not (bytes_eq text (codes "OK"))) p.0 in
    text-spells d type_byte.SimpleString text b (SimpleString text) p.1 q.0
    (rw (not-false (bytes_eq text (codes "OK")) q.1) refl)

pub bulk-spells : (d : ℕ) (bytes b : List ℕ) → body_of type_byte.BulkString bytes ≡ Some b
    → WellFormed (suc d) b (BulkString bytes)
bulk-spells d bytes b e = body-spells d type_byte.BulkString bytes b (λ x. Ok (BulkString x)) (BulkString bytes) e
    (λ n small. ap (λ r. with_valid r (or_nil (λ k. body k (λ x. Ok (BulkString x))))) (integer-decimal n small)) refl

error-spells : (d : ℕ) (error : Error) (b : List ℕ) → error_of error ≡ Some b → WellFormed (suc d) b (ServerError error)
error-spells d error b e =
    let p = kept (is_own_code error && is_utf8 (text_of error)) _ b e in
    let q = and_parts (is_own_code error) (is_utf8 (text_of error)) p.0 in
    by (has_break (text_of error)) refl q.0 q.1 p.1
  where
    by : (broken : Bool) → has_break (text_of error) ≡ broken → is_own_code error ≡ true
        → is_utf8 (text_of error) ≡ true → cond broken (body_of type_byte.BulkError (text_of error))
        (Some (line type_byte.SimpleError (text_of error))) ≡ Some b → WellFormed (suc d) b (ServerError error)
    by true h own u i = body-spells d type_byte.BulkError (text_of error) b (λ x. Ok (bulk_error x)) (ServerError error)
        i
        (λ n small. ap (λ r. with_valid r (λ k. body k (λ x. Ok (bulk_error x)))) (length-decimal n small))
        (ap (λ x. Ok (ServerError (server_error x))) (lossy-text (text_of error) u) ∙ ap (λ x. Ok (ServerError x))
        (error-read error own))
    by false h own u i =
        let z : line type_byte.SimpleError (text_of error) ≡ b = cc in
        subst (λ s. WellFormed (suc d) s (ServerError error)) z
        (line-spells d type_byte.SimpleError (text_of error) (ServerError error)
        (IsUtf8-from_is_utf8 (text_of error) u) (no_break (text_of error) h)
        (ap (λ x. complete (ServerError x)) (error-read error own)))

number-spells : (d : ℕ) (text b : List ℕ) → given (is_line text) (line type_byte.BigNumber text) ≡ Some b
    → WellFormed (suc d) b (BigNumber text)
number-spells d text b e = let p = given-parts (is_line text) (line type_byte.BigNumber text) b e in
    text-spells d type_byte.BigNumber text b (BigNumber text) p.1 p.0 refl

boolean-spells : (d : ℕ) (truth : Bool) (b : List ℕ)
    → Some (line type_byte.Boolean (cond truth (codes "t") (codes "f"))) ≡ Some b → WellFormed (suc d) b (Boolean truth)
boolean-spells d true b e = graphic-spells d type_byte.Boolean (codes "t") b (Boolean true) e refl refl
boolean-spells d false b e = graphic-spells d type_byte.Boolean (codes "f") b (Boolean false) e refl refl

verbatim-spells : (d : ℕ) (fmt : VerbatimFormat) (text b : List ℕ) → verbatim_of fmt text ≡ Some b
    → WellFormed (suc d) b (VerbatimString fmt text)
verbatim-spells d fmt text b e =
    let p = kept (is_own_format fmt && is_utf8 (verbatim_body fmt text)) _ b e in
    let q = and_parts (is_own_format fmt) (is_utf8 (verbatim_body fmt text)) p.0 in
    body-spells d type_byte.VerbatimString (verbatim_body fmt text) b verbatim (VerbatimString fmt text) p.1
    (λ n small. ap (λ r. with_valid r (λ k. body k verbatim)) (length-decimal n small))
    (rw (lossy-text (verbatim_body fmt text) q.1) (verbatim-read fmt text q.0))

double-spells : (d : ℕ) (text b : List ℕ) → given (is_double text) (line type_byte.Double text) ≡ Some b
    → WellFormed (suc d) b (Double text)
unfolding double_in
double-spells d text b e =
    let p = given-parts (is_double text) (line type_byte.Double text) b e in
    let g = double-graphic text p.0 in
    let t = trim-graphic text g in
    let read : double_in text ≡ Ok (Double text) = rw (t, p.0) refl in
    graphic-spells d type_byte.Double text b (Double text) (ap Some p.1) g (ap (λ r. with_valid r complete) read)

-- ---- aggregates

pub length-flat : (ps : List (Value × Value)) → length (flat ps) ≡ 2 * length ps
length-flat [] = refl
length-flat (p ∷ ps) = let later = length-flat ps in omega arith

pairs-flat : (ps : List (Value × Value)) → pairs (flat ps) ≡ ps
pairs-flat [] = refl
pairs-flat (p ∷ ps) = ap (λ rest. p ∷ rest) (pairs-flat ps)

length-pushed : (vs : List Value) (v : Value) → length (vs ++ v ∷ []) ≡ length vs + 1
length-pushed [] v = refl
length-pushed (w ∷ vs) v = let later = length-pushed vs v in omega arith

module _ (d : ℕ) (spells : (b : List ℕ) (v : Value) → encoding d v ≡ Some b → WellFormed d b v) where
  own : (vs : List Value) (b : List ℕ) → joined (encoding d) vs ≡ Some b → Joined (WellFormed d) b vs
  own vs b e = subst (Joined (WellFormed d) b) (map-id vs)
      (joined-spells (encoding d) (WellFormed d) (λ v. v) spells vs b e)

  set-spells : (vs : List Value) (b : List ℕ) → aggregate (encoding d) type_byte.Set (length vs) vs ≡ Some b
      → WellFormed (suc d) b (Set vs)
  set-spells vs b e = aggregate-spells d (encoding d) type_byte.Set (length vs) (length vs) vs vs (own vs)
      (λ values. Ok (Set values)) b (Set vs) e
      (λ small. ap (λ r. with_valid r (or_nil (λ k. elements k (λ values. Ok (Set values)))))
      (integer-decimal (length vs) small)) refl refl

  map-spells : (ps : List (Value × Value)) (b : List ℕ) → aggregate (encoding d) type_byte.Map (length ps) (flat ps)
      ≡ Some b → WellFormed (suc d) b (Map ps)
  map-spells ps b e = aggregate-spells d (encoding d) type_byte.Map (length ps) (2 * length ps) (flat ps) (flat ps)
      (own (flat ps)) (λ values. Ok (Map (pairs values))) b (Map ps) e
      (λ small. ap (λ r. with_valid r (λ k. elements (2 * k) (λ values. Ok (Map (pairs values)))))
      (length-decimal (length ps) small))
      (length-flat ps) (ap (λ x. Ok (Map x)) (pairs-flat ps))

  attribute-spells : (v : Value) (ps : List (Value × Value)) (b : List ℕ)
      → aggregate (encoding d) type_byte.Attribute (length ps) (flat ps ++ v ∷ []) ≡ Some b
      → WellFormed (suc d) b (Attribute v ps)
  attribute-spells v ps b e = aggregate-spells d (encoding d) type_byte.Attribute (length ps) (2 * length ps + 1)
      (flat ps ++ v ∷ []) (flat ps ++ v ∷ []) (own (flat ps ++ v ∷ [])) (λ values. Ok (attribute values)) b
      (Attribute v ps) e
      (λ small. ap (λ r. with_valid r (λ k. elements (2 * k + 1) (λ values. Ok (attribute values))))
      (length-decimal (length ps) small))
      (length-pushed (flat ps) v ∙ ap (λ k. k + 1) (length-flat ps))
      (ap (λ x. Ok x) (attribute-popped (flat ps ++ v ∷ []) (flat ps) v refl ∙ ap (Attribute v) (pairs-flat ps)))

  empty_push-spells : (b : List ℕ) → Some (line type_byte.Push (codes "0")) ≡ Some b
      → WellFormed (suc d) b (Push (push_kinds.Other []) [])
  unfolding kind_named
  empty_push-spells b e =
      let zero_is : decimal 0 ≡ codes "0" = decimal_digit 0 (omega arith) in
      let read : integer_in (codes "0") ≡ Ok (pos 0) = ap integer_in (sym zero_is) ∙ integer-decimal 0 (omega arith) in
      graphic-spells d type_byte.Push (codes "0") b (Push (push_kinds.Other []) []) e refl
      (ap (λ r. with_valid r (or_empty_push (λ k. elements k push))) read)

  full_push-spells : (kind : PushKind) (payload : List Value) (b : List ℕ)
      → cond (is_own_kind kind) (aggregate (encoding d) type_byte.Push (suc (length payload))
      (BulkString (name_of_push_kind kind) ∷ payload)) None ≡ Some b → WellFormed (suc d) b (Push kind payload)
  full_push-spells kind payload b e =
      let p = kept (is_own_kind kind) _ b e in
      let name = name_of_push_kind kind in
      let k : push_kind (BulkString name) ≡ Some kind = push_kind-text (BulkString name) name refl (kind-utf8 kind p.0)
      ∙ ap (λ x. Some x) (kind-read kind p.0) in
      aggregate-spells d (encoding d) type_byte.Push (suc (length payload)) (suc (length payload))
      (BulkString name ∷ payload) (BulkString name ∷ payload) (own (BulkString name ∷ payload)) push b
      (Push kind payload) p.1
      (λ small. ap (λ r. with_valid r (or_empty_push (λ n. elements n push)))
      (integer-decimal (suc (length payload)) small))
      refl (rw (k, push) refl)

  push-spells : (kind : PushKind) (payload : List Value) (b : List ℕ) → push_of (encoding d) kind payload ≡ Some b
      → WellFormed (suc d) b (Push kind payload)
  push-spells (push_kinds.Other []) [] b e = empty_push-spells b e
  push-spells (push_kinds.Other []) (v ∷ vs) b e = full_push-spells (push_kinds.Other []) (v ∷ vs) b e
  push-spells (push_kinds.Other (c ∷ name)) payload b e = full_push-spells (push_kinds.Other (c ∷ name)) payload b e
  push-spells push_kinds.Disconnection payload b e = full_push-spells push_kinds.Disconnection payload b e
  push-spells push_kinds.Invalidate payload b e = full_push-spells push_kinds.Invalidate payload b e
  push-spells push_kinds.Message payload b e = full_push-spells push_kinds.Message payload b e
  push-spells push_kinds.PMessage payload b e = full_push-spells push_kinds.PMessage payload b e
  push-spells push_kinds.SMessage payload b e = full_push-spells push_kinds.SMessage payload b e
  push-spells push_kinds.Unsubscribe payload b e = full_push-spells push_kinds.Unsubscribe payload b e
  push-spells push_kinds.PUnsubscribe payload b e = full_push-spells push_kinds.PUnsubscribe payload b e
  push-spells push_kinds.SUnsubscribe payload b e = full_push-spells push_kinds.SUnsubscribe payload b e
  push-spells push_kinds.Subscribe payload b e = full_push-spells push_kinds.Subscribe payload b e
  push-spells push_kinds.PSubscribe payload b e = full_push-spells push_kinds.PSubscribe payload b e
  push-spells push_kinds.SSubscribe payload b e = full_push-spells push_kinds.SSubscribe payload b e

  layer-spells : (x : Value-F Value) (b : List ℕ) → spelling (encoding d) x ≡ Some b
      → WellFormed (suc d) b (roll-Value x)
  layer-spells Value-F.Nil b e = subst (WellFormed (suc d) b) (sym rolls-Nil)
      (graphic-spells d type_byte.Null [] b Nil e refl refl)
  layer-spells Value-F.Okay b e = subst (WellFormed (suc d) b) (sym rolls-Okay)
      (graphic-spells d type_byte.SimpleString (codes "OK") b Okay e refl refl)
  layer-spells (Value-F.Int n) b e = subst (WellFormed (suc d) b) (sym (rolls-Int n)) (int-spells d n b e)
  layer-spells (Value-F.SimpleString text) b e = subst (WellFormed (suc d) b) (sym (rolls-SimpleString text))
      (simple-spells d text b e)
  layer-spells (Value-F.BulkString bytes) b e = subst (WellFormed (suc d) b) (sym (rolls-BulkString bytes))
      (bulk-spells d bytes b e)
  layer-spells (Value-F.Array vs) b e = subst (WellFormed (suc d) b) (sym (rolls-Array vs))
      (array-spells d (encoding d) vs vs (own vs) b e)
  layer-spells (Value-F.Map ps) b e = subst (WellFormed (suc d) b) (sym (rolls-Map ps)) (map-spells ps b e)
  layer-spells (Value-F.Attribute v ps) b e = subst (WellFormed (suc d) b) (sym (rolls-Attribute v ps))
      (attribute-spells v ps b e)
  layer-spells (Value-F.ServerError error) b e = subst (WellFormed (suc d) b) (sym (rolls-ServerError error))
      (error-spells d error b e)
  layer-spells (Value-F.Boolean truth) b e = subst (WellFormed (suc d) b) (sym (rolls-Boolean truth))
      (boolean-spells d truth b e)
  layer-spells (Value-F.Double text) b e = subst (WellFormed (suc d) b) (sym (rolls-Double text))
      (double-spells d text b e)
  layer-spells (Value-F.BigNumber bytes) b e = subst (WellFormed (suc d) b) (sym (rolls-BigNumber bytes))
      (number-spells d bytes b e)
  layer-spells (Value-F.Set vs) b e = subst (WellFormed (suc d) b) (sym (rolls-Set vs)) (set-spells vs b e)
  layer-spells (Value-F.VerbatimString fmt text) b e = subst (WellFormed (suc d) b)
      (sym (rolls-VerbatimString fmt text)) (verbatim-spells d fmt text b e)
  layer-spells (Value-F.Push kind payload) b e = subst (WellFormed (suc d) b) (sym (rolls-Push kind payload))
      (push-spells kind payload b e)

pub encoding-spells : (d : ℕ) (b : List ℕ) (v : Value) → encoding d v ≡ Some b → WellFormed d b v
encoding-spells zero b v e = absurd (cc)
encoding-spells (suc d) b v e = subst (WellFormed (suc d) b) (roll-out-Value v)
    (layer-spells d (encoding-spells d) (out-Value v) b e)
