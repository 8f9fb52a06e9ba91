-- What is sent for a whole reply.
use Rattle.std.proofs.Common.{◌≡◌, ℕ, ◌==◌, Bool, true, false, cond, [], ◌∷◌, ◌++◌, length, Option, None, Some}
use Rattle.std.proofs.Common.{Result, Ok, Err, refl, sym, ap, subst, ◌∙◌, arith, option_and_then, OnOk}
use Rattle.std.proofs.lemmas.Bool.Decides.{nat_tests}
use Rattle.std.proofs.lemmas.Result.{err_from_is_err_and}
use Rattle.std.specs.Result.{IsErrAnd}
use Rattle.std.specs.Fmt.{◌++?◌}
use Rattle.resp_value.specs.declared.value.Value.{Value}
use Rattle.resp_args.specs.declared.options.ProtocolVersion.{ProtocolVersion}
use Rattle.resp_errors.specs.declared.redis_error.RedisError.{RedisError}
use Rattle.resp_flat.specs.declared.flat_reply.FlatReply.{FlatReply}
use Rattle.resp_flat.specs.FlatReplies.{placed, tokens_of, text_of, IsFlatOf}
use Rattle.resp_flat.specs.Readable.{IsReadable}
use Rattle.resp_flat.specs.Reading.{Read, refused, got, made_of, next_value, whole}
use Rattle.resp_flat.proofs.ReadsBack.{reads-whole}
use Rattle.resp_flat.proofs.ReadsOnly.{whole-is}
use Rattle.resp_flat.proofs.ReadsReadable.{whole-readable}
use Rattle.resp_encode.specs.declared.write_error.WriteError.{WriteError}
use Rattle.resp_encode.specs.declared.write_error.WriteError.TheVariants.{Memory, NoSpelling}
use Rattle.resp_encode.specs.Encodings.{encoding_in}
use Rattle.resp_encode.specs.Appending.{Keeps, AppendsText}
use Rattle.resp_encode.specs.FlatEncoding.{SendsReply, flat_encoding, spelled, after, AppendsRead}
use Rattle.resp_encode.proofs.AppendedTexts.{front}
use Rattle.resp_encode.proofs.FlatWriting.{Tokens, Bytes, Spell}

-- what is made of a whole reply, where nothing is left of it
whole_at : (w : Spell Value) (n : ℕ) (v : Value) (ts : Tokens) (at : ℕ) → ts ≡ [] → at ≡ n
    → option_and_then w (whole n (got v ts at)) ≡ w v
whole_at w n v [] at none end =
    let e : (at == n) ≡ true = grind (arith, nat_tests, end) in
    ap (λ (b : Bool). option_and_then w (cond b (Some v) None)) e
whole_at w n v (t ∷ ts) at none end = absurd (cc)

not_whole : (w : Spell Value) (n : ℕ) (v : Value) (ts : Tokens) (at : ℕ) → w v ≡ None
    → option_and_then w (whole n (got v ts at)) ≡ None
not_whole w n v [] at e = by (at == n)
  where
    by : (b : Bool) → option_and_then w (cond b (Some v) None) ≡ None
    by true = e
    by false = refl
not_whole w n v (t ∷ ts) at e = refl

text_left : (w : Spell Value) (n : ℕ) (v : Value) (ts : Tokens) (at : ℕ) → (at ≡ n → ⊥)
    → option_and_then w (whole n (got v ts at)) ≡ None
text_left w n v [] at other =
    let e : (at == n) ≡ false = grind (arith, nat_tests, other) in
    ap (λ (b : Bool). option_and_then w (cond b (Some v) None)) e
text_left w n v (t ∷ ts) at other = refl

module _ (w : Spell Value) (n : ℕ) where
  abbrev all : Read Value → Option Bytes
  all r = option_and_then w (whole n r)

  -- a value was written, with which the reply ends
  pub whole_done : (r : Read Value) (a b : Bytes) (us : Tokens) (from : ℕ)
      → AppendsRead (Ok tt) (spelled w r) a b us from
      → us ≡ [] → from ≡ n → AppendsText (Ok tt) (all r) a b
  unfolding AppendsRead AppendsText
  whole_done refused a b us from h none end = absurd (cc)
  whole_done (got v ts at) a b us from h none end = by (w v) refl h
    where
      by : (o : Option Bytes) → w v ≡ o → after a (made_of o ts at) ≡ got b us from
          → (Some a ++? all (got v ts at)) ≡ Some b
      by None e i = absurd (cc)
      by (Some x) e i =
          let z : a ++ x ≡ b = cc in
          let t : ts ≡ [] = (let q : ts ≡ us = cc in q ∙ none) in
          let m : at ≡ n = (let q : at ≡ from = cc in q ∙ end) in
          ap (λ (o : Option Bytes). Some a ++? o) (whole_at w n v ts at t m ∙ e) ∙ ap (λ (y : Bytes). Some y) z

  -- a value was written, and more is there
  pub whole_left : (r : Read Value) (a b : Bytes) (us : Tokens) (from : ℕ)
      → AppendsRead (Ok tt) (spelled w r) a b us from
      → (us ≡ [] → from ≡ n → ⊥) → AppendsText (Err NoSpelling) (all r) a b
  unfolding AppendsRead AppendsText
  whole_left refused a b us from h more = absurd (cc)
  whole_left (got v ts at) a b us from h more = by (w v) h
    where
      never : (ts : Tokens) → ts ≡ us → at ≡ from → all (got v ts at) ≡ None
      never [] t m = text_left w n v [] at (λ end. more (sym t) (sym m ∙ end))
      never (t ∷ ts) e m = refl

      by : (o : Option Bytes) → after a (made_of o ts at) ≡ got b us from → (all (got v ts at) ≡ None) × Keeps a b
      by None i = absurd (cc)
      by (Some x) i =
          let z : a ++ x ≡ b = cc in
          let t : ts ≡ us = cc in
          let m : at ≡ from = cc in (never ts t m, subst (Keeps a) z (front a x))

  -- none was
  pub whole_exit : (q : Result (Unit {0}) WriteError) (e : WriteError) (r : Read Value) (a b : Bytes)
      (us : Tokens) (from : ℕ)
      → IsErrAnd q (λ y. y ≡ e) → AppendsRead (Err e) (spelled w r) a b us from → AppendsText q (all r) a b
  unfolding AppendsRead AppendsText
  whole_exit q e r a b us from x h = let p = err_from_is_err_and q x in rw (p.1, p.2) (by e h)
    where
      none : (r : Read Value) → spelled w r ≡ refused → all r ≡ None
      none refused i = refl
      none (got v ts at) i = not_whole w n v ts at (made (w v) i)
        where
          made : (o : Option Bytes) → made_of o ts at ≡ refused → o ≡ None
          made None j = refl
          made (Some x) j = absurd (cc)

      by : (e : WriteError) → AppendsRead (Err e) (spelled w r) a b us from → AppendsText (Err e) (all r) a b
      by NoSpelling h = (none r h.0, h.1)
      by Memory h = h

-- ---- the value that is sent

same : (n : ℕ) → (n == n) ≡ true
same n = grind (arith, nat_tests)

-- what is sent for the tokens and the text of a value is what is sent for the value
pub flat_is : (p : ProtocolVersion) (d : ℕ) (ts : Tokens) (x : Bytes) (v : Value) → ts ≡ placed 0 (tokens_of v)
    → x ≡ text_of v → IsReadable d v → flat_encoding p d ts x ≡ encoding_in p d v
flat_is p d ts x v tokens text readable =
    ap (λ (us : Tokens). flat_encoding p d us x) tokens
    ∙ ap (λ (y : Bytes). flat_encoding p d (placed 0 (tokens_of v)) y) text
    ∙ ap (λ (r : Read Value). option_and_then (encoding_in p d) (whole (length (text_of v)) r))
    (reads-whole d v readable)
    ∙ ap (λ (b : Bool). option_and_then (encoding_in p d) (cond b (Some v) None)) (same (length (text_of v)))

-- where bytes are sent, they are a value's
pub flat_only : (p : ProtocolVersion) (d : ℕ) (ts : Tokens) (x b : Bytes) → flat_encoding p d ts x ≡ Some b
    → SendsReply p d ts x b
flat_only p d ts x b e = by (whole (length x) (next_value x d ts 0)) refl e
  where
    by : (o : Option Value) → whole (length x) (next_value x d ts 0) ≡ o → option_and_then (encoding_in p d) o
        ≡ Some b
        → SendsReply p d ts x b
    by None i j = absurd (cc)
    by (Some v) i j = let is = whole-is d ts x v i in record {
      value = v;
      tokens = is.0;
      text = is.1;
      readable = whole-readable x d (length x) ts v i;
      encoded = j;
    }

-- what was appended for a flat reply is a value's
pub sent_of : (r : Result (Unit {0}) RedisError) (p : ProtocolVersion) (d : ℕ) (reply : FlatReply) (ts : Tokens)
    (x a b : Bytes) → ts ≡ reply.tokens.items → x ≡ reply.text.items
    → OnOk r ((Some a ++? flat_encoding p d ts x) ≡ Some b)
    → OnOk r ((v : Value) × (IsFlatOf reply v × IsReadable d v))
sent_of (Err e) p d reply ts x a b tokens text h = tt
sent_of (Ok done) p d reply ts x a b tokens text h = by (flat_encoding p d ts x) refl h
  where
    by : (o : Option Bytes) → flat_encoding p d ts x ≡ o → (Some a ++? o) ≡ Some b
        → (v : Value) × (IsFlatOf reply v × IsReadable d v)
    by None e i = absurd (cc)
    by (Some y) e i = let s = flat_only p d ts x y e in
        (s.value, (record { tokens = sym tokens ∙ s.tokens; text = sym text ∙ s.text }, s.readable))
