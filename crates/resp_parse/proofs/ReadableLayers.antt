-- What a header announces can be read back from its tokens and its text, if its elements can.
use Rattle.std.proofs.Common.{◌≡◌, ℕ, zero, suc, ◌+◌, ◌-◌, ◌*◌, ◌<◌, ◌==◌, Bool, true, false, cond, List, [], ◌∷◌}
use Rattle.std.proofs.Common.{length, take, codes, refl, sym, ap, subst, ◌∙◌, arith, Option, None, Some, Result, Ok}
use Rattle.std.proofs.Common.{Err, ℤ, pos, negsuc}
use Rattle.std.proofs.lemmas.List.Elements.{All-nil, All-cons, All-head, All-tail, All-take}
use Rattle.std.proofs.lemmas.Str.{IsUtf8-from_is_utf8, IsUtf8-nil}
use Rattle.std.specs.List.{All, position_or_len, before_first, after_first}
use Rattle.std.specs.Str.{IsUtf8, is_utf8, bytes_eq, trim}
use Rattle.resp_value.specs.declared.value.Value.{Value, Nil, Okay, Int, SimpleString, BulkString, Array, Map}
use Rattle.resp_value.specs.declared.value.Value.{Attribute, ServerError, Boolean, Double, BigNumber, Set}
use Rattle.resp_value.specs.declared.value.Value.{VerbatimString, Push, roll-Value, out-Value, out-roll-Value}
use Rattle.resp_value.specs.declared.value.Value.TheVariants.{rolls-Nil, rolls-Okay, rolls-Int, rolls-SimpleString}
use Rattle.resp_value.specs.declared.value.Value.TheVariants.{rolls-BulkString, rolls-Array, rolls-Map, rolls-Attribute}
use Rattle.resp_value.specs.declared.value.Value.TheVariants.{rolls-ServerError, rolls-Boolean, rolls-Double}
use Rattle.resp_value.specs.declared.value.Value.TheVariants.{rolls-BigNumber, rolls-Set, rolls-VerbatimString}
use Rattle.resp_value.specs.declared.value.Value.TheVariants.{rolls-Push}
use Rattle.resp_value.specs.declared.value.Value.TheOpen.{Value-F}
use Rattle.resp_value.specs.declared.names.PushKind.{PushKind}
use Rattle.resp_value.specs.Names.{kind_named, format_named}
use Rattle.resp_value.specs.Views.{pairs}
use Rattle.resp_errors.specs.ServerErrors.{server_error}
use Rattle.resp_errors.specs.declared.kinds.FrameFault.{FrameFault}
use Rattle.resp_errors.specs.declared.kinds.FrameFault.TheVariants.{NotDouble, NotBoolean, NoVerbatimFormat}
use Rattle.resp_errors.specs.declared.kinds.FrameFault.TheVariants.{BadPushKind}
use Rattle.resp_containers.specs.Lossy.{lossy}
use Rattle.resp_flat.specs.Readable.{HasOwnName, BothAre, IsReadableLayer}
use Rattle.resp_parse.specs.declared.type_byte.TypeByte.{TypeByte}
use Rattle.resp_parse.specs.declared.type_byte.TypeByte.TheVariants as type_byte
use Rattle.resp_parse.specs.Number.{integer_in, length_in}
use Rattle.resp_parse.specs.Double.{double_in, is_double}
use Rattle.resp_parse.specs.Grammar.{Announcement, complete, body, elements, invalid, with_valid, or_nil, or_empty_push}
use Rattle.resp_parse.specs.Grammar.{simple, boolean_in, bulk_error, verbatim_text, verbatim, is_colon, last_element}
use Rattle.resp_parse.specs.Grammar.{attribute, push_kind, push, announced}
use Rattle.resp_parse.proofs.LossyTexts.{lossy-utf8}
use Rattle.resp_flat.proofs.ReadableParts.{own-text, own-name, own-format}
use Rattle.resp_parse.proofs.TrimmedTexts.{trim-utf8}

-- P is what holds of the elements
module _ (P : Value → Type 0) where
  abbrev pub Layer : Value → Type 0
  Layer v = IsReadableLayer P (out-Value v)

  -- a value of this form
  of-form : (x : Value-F Value) (v : Value) → roll-Value x ≡ v → IsReadableLayer P x → Layer v
  of-form x v e h = subst (IsReadableLayer P) (sym (ap out-Value (sym e) ∙ out-roll-Value x)) h

  abbrev pub Readable : Announcement → Type 0
  Readable (complete v) = Layer v
  Readable (body n make) = (bytes : List ℕ) (v : Value) → make bytes ≡ Ok v → Layer v
  Readable (elements n make) = (vs : List Value) (v : Value) → length vs ≡ n → make vs ≡ Ok v → All P vs → Layer v
  Readable (invalid f) = Unit {0}

  of-valid : {A : Type 0} (r : Result A FrameFault) (follows : A → Announcement)
      → ((x : A) → r ≡ Ok x → Readable (follows x)) → Readable (with_valid r follows)
  of-valid (Ok x) follows h = h x refl
  of-valid (Err f) follows h = tt

  nil-readable : Layer Nil
  nil-readable = of-form Value-F.Nil Nil rolls-Nil tt

  of-nil : (follows : ℕ → Announcement) (n : ℤ) → ((k : ℕ) → Readable (follows k)) → Readable (or_nil follows n)
  of-nil follows (pos k) h = h k
  of-nil follows (negsuc k) h = nil-readable

  of-simple : (text : List ℕ) → IsUtf8 text → Layer (simple text)
  of-simple text u = by (bytes_eq text (codes "OK"))
    where
      by : (b : Bool) → Layer (cond b Okay (SimpleString text))
      by true = of-form Value-F.Okay Okay rolls-Okay tt
      by false = of-form (Value-F.SimpleString text) (SimpleString text) (rolls-SimpleString text) u

  of-error : (text : List ℕ) → IsUtf8 text → Layer (ServerError (server_error text))
  of-error text u = of-form (Value-F.ServerError (server_error text)) (ServerError (server_error text))
      (rolls-ServerError (server_error text)) (own-text text u)

  of-boolean : (text : List ℕ) (v : Value) → boolean_in text ≡ Ok v → Layer v
  of-boolean text v e = by (bytes_eq text (codes "t")) (bytes_eq text (codes "f")) e
    where
      of : (b : Bool) → Boolean b ≡ v → Layer v
      of b z = subst Layer z (of-form (Value-F.Boolean b) (Boolean b) (rolls-Boolean b) tt)

      by : (b c : Bool) → cond b (Ok (Boolean true)) (cond c (Ok (Boolean false)) (Err NotBoolean)) ≡ Ok v → Layer v
      by true c i = of true (cc)
      by false true i = of false (cc)
      by false false i = absurd (cc)

  of-double : (text : List ℕ) → IsUtf8 text → (v : Value) → double_in text ≡ Ok v → Layer v
  unfolding double_in
  of-double text u v e = by (is_double (trim text)) e
    where
      by : (b : Bool) → cond b (Ok (Double (trim text))) (Err NotDouble) ≡ Ok v → Layer v
      by true i =
          let z : Double (trim text) ≡ v = cc in
          subst Layer z (of-form (Value-F.Double (trim text)) (Double (trim text)) (rolls-Double (trim text)) (trim-utf8
          text u))
      by false i = absurd (cc)

  of-verbatim : (text : List ℕ) → IsUtf8 text → (v : Value) → verbatim_text text ≡ Ok v → Layer v
  of-verbatim text u v e = by (position_or_len is_colon text == length text) refl e
    where
      by : (b : Bool) → (position_or_len is_colon text == length text) ≡ b
          → cond b (Err NoVerbatimFormat)
          (Ok (VerbatimString (format_named (before_first is_colon text)) (after_first is_colon text))) ≡ Ok v → Layer v
      by true h i = absurd (cc)
      by false h i =
          let fmt = format_named (before_first is_colon text) in
          let after = after_first is_colon text in
          let z : VerbatimString fmt after ≡ v = cc in
          subst Layer z (of-form (Value-F.VerbatimString fmt after) (VerbatimString fmt after) (rolls-VerbatimString fmt
          after) (own-format text u h))

  -- pairs of such values
  pairs-are : (vs : List Value) → All P vs → All (BothAre P) (pairs vs)
  pairs-are [] h = All-nil (BothAre P)
  pairs-are (k ∷ []) h = All-nil (BothAre P)
  pairs-are (k ∷ v ∷ vs) h =
      let rest = All-tail P k (v ∷ vs) h in
      All-cons (BothAre P) (k, v) (pairs vs) (All-head P k (v ∷ vs) h, All-head P v vs rest)
      (pairs-are vs (All-tail P v vs rest))

  last-is : (v : Value) (vs : List Value) → All P (v ∷ vs) → P (last_element (v ∷ vs))
  last-is v [] h = All-head P v [] h
  last-is v (w ∷ vs) h = last-is w vs (All-tail P v (w ∷ vs) h)

  of-attribute : (vs : List Value) → 0 < length vs → All P vs → Layer (attribute vs)
  of-attribute [] l h = absurd (omega arith)
  of-attribute (v ∷ vs) l h =
      let front = take (length (v ∷ vs) - 1) (v ∷ vs) in
      let last = last_element (v ∷ vs) in
      of-form (Value-F.Attribute last (pairs front)) (Attribute last (pairs front)) (rolls-Attribute last (pairs front))
      (last-is v vs h, pairs-are front (All-take P (length (v ∷ vs) - 1) (v ∷ vs) h))

  push-readable : (kind : PushKind) (vs : List Value) → HasOwnName kind → All P vs → Layer (Push kind vs)
  push-readable kind vs own h = of-form (Value-F.Push kind vs) (Push kind vs) (rolls-Push kind vs) (own, h)

  of-empty_push : (follows : ℕ → Announcement) (n : ℤ) → ((k : ℕ) → Readable (follows k))
      → Readable (or_empty_push follows n)
  of-empty_push follows (pos zero) h = push-readable (kind_named []) [] (own-name [] IsUtf8-nil) (All-nil P)
  of-empty_push follows (pos (suc k)) h = h (suc k)
  of-empty_push follows (negsuc k) h = push-readable (kind_named []) [] (own-name [] IsUtf8-nil) (All-nil P)

  -- where P holds of a simple string, its text is UTF-8
  module _ (is_text : (text : List ℕ) → P (SimpleString text) → IsUtf8 text) where
    of-kind : (first : Value) (kind : PushKind) → push_kind first ≡ Some kind → P first → HasOwnName kind
    of-kind (SimpleString name) kind e h =
        let z : kind_named name ≡ kind = cc in subst HasOwnName z (own-name name (is_text name h))
    of-kind (BulkString name) kind e h = by (is_utf8 name) refl e
      where
        by : (b : Bool) → is_utf8 name ≡ b → cond b (Some (kind_named name)) None ≡ Some kind → HasOwnName kind
        by true u i =
            let z : kind_named name ≡ kind = cc in subst HasOwnName z (own-name name (IsUtf8-from_is_utf8 name u))
        by false u i = absurd (cc)
    of-kind _ kind e h = absurd (cc)

    of-push : (vs : List Value) (v : Value) → push vs ≡ Ok v → All P vs → Layer v
    of-push [] v e h = absurd (cc)
    of-push (first ∷ payload) v e h = by (push_kind first) refl e
      where
        by : (k : Option PushKind) → push_kind first ≡ k
            → (elim k as (λ _. Result Value FrameFault) [ Some kind ↦ Ok (Push kind payload) | None ↦ Err BadPushKind ])
            ≡ Ok v → Layer v
        by (Some kind) i j =
            let z : Push kind payload ≡ v = cc in
            subst Layer z (push-readable kind payload (of-kind first kind i (All-head P first payload h)) (All-tail P
            first payload h))
        by None i j = absurd (cc)

    pub announced-readable : (kind : TypeByte) (text : List ℕ) → IsUtf8 text → Readable (announced kind text)
    announced-readable type_byte.SimpleString text u = of-simple text u
    announced-readable type_byte.SimpleError text u = of-error text u
    announced-readable type_byte.Integer text u = of-valid (integer_in text) (λ n. complete (Int n))
        (λ n _. of-form (Value-F.Int n) (Int n) (rolls-Int n) tt)
    announced-readable type_byte.BulkString text u = of-valid (integer_in text)
        (or_nil (λ n. body n (λ bytes. Ok (BulkString bytes))))
        (λ n _. of-nil (λ n. body n (λ bytes. Ok (BulkString bytes))) n
        (λ k bytes v e. let z : BulkString bytes ≡ v = cc in subst Layer z
        (of-form (Value-F.BulkString bytes) (BulkString bytes) (rolls-BulkString bytes) tt)))
    announced-readable type_byte.Array text u = of-valid (integer_in text)
        (or_nil (λ n. elements n (λ values. Ok (Array values))))
        (λ n _. of-nil (λ n. elements n (λ values. Ok (Array values))) n
        (λ k vs v l e h. let z : Array vs ≡ v = cc in subst Layer z
        (of-form (Value-F.Array vs) (Array vs) (rolls-Array vs) h)))
    announced-readable type_byte.Null text u = nil-readable
    announced-readable type_byte.Boolean text u = of-valid (boolean_in text) complete (of-boolean text)
    announced-readable type_byte.Double text u = of-valid (double_in text) complete (of-double text u)
    announced-readable type_byte.BigNumber text u = of-form (Value-F.BigNumber text) (BigNumber text)
        (rolls-BigNumber text) tt
    announced-readable type_byte.BulkError text u = of-valid (length_in text)
        (λ n. body n (λ bytes. Ok (bulk_error bytes)))
        (λ n _ bytes v e. let z : bulk_error bytes
        ≡ v = cc in subst Layer z (of-error (lossy bytes) (lossy-utf8 bytes)))
    announced-readable type_byte.VerbatimString text u = of-valid (length_in text) (λ n. body n verbatim)
        (λ n _ bytes v e. of-verbatim (lossy bytes) (lossy-utf8 bytes) v e)
    announced-readable type_byte.Map text u = of-valid (length_in text)
        (λ n. elements (2 * n) (λ values. Ok (Map (pairs values))))
        (λ n _ vs v l e h. let z : Map (pairs vs)
        ≡ v = cc in subst Layer z
        (of-form (Value-F.Map (pairs vs)) (Map (pairs vs)) (rolls-Map (pairs vs)) (pairs-are vs h)))
    announced-readable type_byte.Attribute text u = of-valid (length_in text)
        (λ n. elements (2 * n + 1) (λ values. Ok (attribute values)))
        (λ n _ vs v l e h. let z : attribute vs ≡ v = cc in subst Layer z (of-attribute vs (omega arith) h))
    announced-readable type_byte.Set text u = of-valid (integer_in text)
        (or_nil (λ n. elements n (λ values. Ok (Set values))))
        (λ n _. of-nil (λ n. elements n (λ values. Ok (Set values))) n
        (λ k vs v l e h. let z : Set vs ≡ v = cc in subst Layer z
        (of-form (Value-F.Set vs) (Set vs) (rolls-Set vs) h)))
    announced-readable type_byte.Push text u = of-valid (integer_in text) (or_empty_push (λ n. elements n push))
        (λ n _. of-empty_push (λ n. elements n push) n (λ k vs v l e h. of-push vs v e h))
