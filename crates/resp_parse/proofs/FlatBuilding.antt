-- What is built in a flat reply.
use Rattle.std.proofs.Common.{◌≡◌, ℕ, suc, ◌+◌, ◌-◌, ◌*◌, List, [], ◌∷◌, ◌++◌, length, map, take, refl, ap, sym, ◌∙◌}
use Rattle.std.proofs.Common.{append_assoc, zero-add, arith, Ok}
use Rattle.std.proofs.lemmas.List.{length-append, append-nil}
use Rattle.std.proofs.lemmas.Grind.{common_steps}
use Rattle.resp_value.specs.declared.value.Value.{Value, SimpleString, BulkString, Array, Set, Map}
use Rattle.resp_value.specs.declared.value.Value.{fold-roll-Value}
use Rattle.resp_value.specs.declared.value.Value.TheVariants.{rolls-SimpleString, rolls-BulkString}
use Rattle.resp_value.specs.declared.value.Value.TheVariants.{rolls-Array, rolls-Set, rolls-Map}
use Rattle.resp_value.specs.declared.value.Value.TheOpen.{Value-F}
use Rattle.resp_value.specs.Views.{pairs}
use Rattle.resp_flat.specs.declared.token.Token.{Token}
use Rattle.resp_flat.specs.declared.token.TokenKind.TheVariants as token
use Rattle.resp_flat.specs.declared.flat_reply.FlatReply.{FlatReply}
use Rattle.resp_flat.specs.FlatReplies.{sized, placed, joined, tokens_step, tokens_of, text_step, text_of}
use Rattle.resp_flat.proofs.TokenSizes.{placed-append}
use Rattle.resp_flat.proofs.Appending.{tokens_of_array, tokens_of_set, tokens_of_map, tokens_of_attribute}
use Rattle.resp_flat.proofs.Appending.{text_of_attribute}
use Rattle.resp_parse.specs.declared.shape.ElementsKind.{ElementsKind}
use Rattle.resp_parse.specs.declared.shape.ElementsKind.TheVariants as elements_kind
use Rattle.resp_parse.specs.declared.open_aggregates.OpenAggregate.{OpenAggregate}
use Rattle.resp_parse.specs.Grammar.{last_element, attribute}
use Rattle.resp_parse.specs.Shapes.{elements_value, count_of, token_kind}
use Rattle.resp_parse.specs.OpenAggregates.{with_element, counted_down}
use Rattle.resp_parse.specs.FlatBuilders.{opening, tokens_in, text_in, places_of, HoldsFlat, HoldsAll}
use Rattle.resp_parse.proofs.LastElements.{snoc-injective}
use Rattle.resp_parse.proofs.FlatTokens.{in-total, placed-length, joined-more, joined-paired, pairs-count, but_last}

abbrev Tokens : Type 0
Tokens = List Token

-- ---- what is appended stands after what is there

module _ (r s : FlatReply) (opens : List ℕ) (fs : List OpenAggregate) where
  -- a text of which no token stands yet
  pub flat-grown : (ts : Tokens) (x y : List ℕ) → HoldsFlat r opens fs [] x → s.tokens.items ≡ r.tokens.items
      ++ placed (length (text_in fs)) ts → s.text.items ≡ text_in fs ++ y → HoldsFlat s opens fs ts y
  flat-grown ts x y h t z = record {
    tokens =
        t ∙ ap (λ (us : Tokens). us ++ placed (length (text_in fs)) ts)
        (h.tokens ∙ ap (placed 0) (append-nil (tokens_in fs)))
        ∙ ap (λ (n : ℕ). placed 0 (tokens_in fs) ++ placed n ts) (sym (zero-add _ ∙ in-total fs))
        ∙ sym (placed-append 0 (tokens_in fs) ts);
    text = z;
    places = h.places;
    counts = h.counts;
  }

  pub flat-length : HoldsFlat r opens fs [] [] → length r.text.items ≡ length (text_in fs)
  flat-length h = ap length (h.text ∙ append-nil (text_in fs))

  pub flat-appended : (ts : Tokens) (x : List ℕ) → HoldsFlat r opens fs [] [] → s.tokens.items ≡ r.tokens.items
      ++ placed (length r.text.items) ts → s.text.items ≡ r.text.items ++ x → HoldsFlat s opens fs ts x
  flat-appended ts x h t z =
      flat-grown ts [] x h (t ∙ ap (λ (n : ℕ). r.tokens.items ++ placed n ts) (flat-length h))
      (z ∙ ap (λ (y : List ℕ). y ++ x) (h.text ∙ append-nil (text_in fs)))

  pub flat-opened : (more : List ℕ) (f : OpenAggregate) → HoldsFlat r opens fs [] [] → s.tokens.items ≡ r.tokens.items
      ++ placed (length r.text.items) (opening f ∷ []) → s.text.items ≡ r.text.items →
      f.seen ≡ [] → more ≡ opens ++ (length r.tokens.items ∷ []) → count_of f.kind f.size ≡ f.after + 1
      → HoldsFlat s more (f ∷ fs) [] []
  flat-opened more f h t z none at count =
      let k = flat-appended (opening f ∷ []) [] h t (z ∙ sym (append-nil r.text.items)) in
      let one : tokens_in (f ∷ fs) ≡ tokens_in fs
      ++ (opening f ∷ []) = ap (λ (vs : List Value). tokens_in fs ++ (opening f ∷ joined (map tokens_of vs)))
      none in
      let same : text_in (f ∷ fs) ≡ text_in fs ++ [] = ap (λ (vs : List Value). text_in fs ++ joined (map text_of vs))
      none in
      let l : length r.tokens.items ≡ length (tokens_in fs) = ap length
      (h.tokens ∙ ap (placed 0) (append-nil (tokens_in fs))) ∙ placed-length 0 (tokens_in fs) in
      let e : length f.seen ≡ 0 = ap length none in
      record {
        tokens = k.tokens ∙ ap (placed 0) (sym (append-nil (tokens_in (f ∷ fs)) ∙ one));
        text = k.text ∙ sym (append-nil (text_in (f ∷ fs)) ∙ same);
        places = at ∙ ap (λ (n : ℕ). opens ++ (n ∷ [])) l
            ∙ ap (λ (ns : List ℕ). ns ++ (length (tokens_in fs) ∷ [])) h.places;
        counts = (omega (arith, count, e), h.counts);
      }

-- ---- leaves

tokens_of_simple : (x : List ℕ) → tokens_of (SimpleString x) ≡ sized token.SimpleString (length x) ∷ []
tokens_of_simple x = ap tokens_of (sym (rolls-SimpleString x))
    ∙ fold-roll-Value Tokens tokens_step (Value-F.SimpleString x)

text_of_simple : (x : List ℕ) → text_of (SimpleString x) ≡ x
text_of_simple x = ap text_of (sym (rolls-SimpleString x)) ∙ fold-roll-Value (List ℕ) text_step (Value-F.SimpleString x)

tokens_of_bulk : (x : List ℕ) → tokens_of (BulkString x) ≡ sized token.BulkString (length x) ∷ []
tokens_of_bulk x = ap tokens_of (sym (rolls-BulkString x)) ∙ fold-roll-Value Tokens tokens_step (Value-F.BulkString x)

text_of_bulk : (x : List ℕ) → text_of (BulkString x) ≡ x
text_of_bulk x = ap text_of (sym (rolls-BulkString x)) ∙ fold-roll-Value (List ℕ) text_step (Value-F.BulkString x)

module _ (r s : FlatReply) (opens : List ℕ) (fs : List OpenAggregate) where
  pub flat-simple : (x : List ℕ) → HoldsFlat r opens fs [] [] → s.tokens.items ≡ r.tokens.items
      ++ placed (length r.text.items) (sized token.SimpleString (length x) ∷ []) → s.text.items ≡ r.text.items ++ x →
      HoldsFlat s opens fs (tokens_of (SimpleString x)) (text_of (SimpleString x))
  flat-simple x h t z = flat-appended r s opens fs (tokens_of (SimpleString x)) (text_of (SimpleString x)) h
      (t ∙ ap (λ (ts : Tokens). r.tokens.items ++ placed (length r.text.items) ts) (sym (tokens_of_simple x)))
      (z ∙ ap (λ (y : List ℕ). r.text.items ++ y) (sym (text_of_simple x)))

  pub flat-bytes : (x : List ℕ) → HoldsFlat r opens fs [] [] → s.tokens.items ≡ r.tokens.items
      ++ placed (length r.text.items) (sized token.BulkString (length x) ∷ []) → s.text.items ≡ r.text.items ++ x →
      HoldsFlat s opens fs (tokens_of (BulkString x)) (text_of (BulkString x))
  flat-bytes x h t z = flat-appended r s opens fs (tokens_of (BulkString x)) (text_of (BulkString x)) h
      (t ∙ ap (λ (ts : Tokens). r.tokens.items ++ placed (length r.text.items) ts) (sym (tokens_of_bulk x)))
      (z ∙ ap (λ (y : List ℕ). r.text.items ++ y) (sym (text_of_bulk x)))

  -- a bulk string whose bytes are there
  pub flat-bulk : (x : List ℕ) (start n : ℕ) → HoldsFlat r opens fs [] x → start ≡ length (text_in fs) → n
      ≡ length r.text.items - start → s.tokens.items ≡ r.tokens.items ++ placed start (sized token.BulkString n ∷ [])
      → s.text.items ≡ r.text.items →
      HoldsFlat s opens fs (tokens_of (BulkString x)) (text_of (BulkString x))
  flat-bulk x start n h at few t z =
      let l : length r.text.items ≡ length (text_in fs) + length x = ap length h.text ∙ length-append (text_in fs) x in
      let k : n ≡ length x = omega (arith, few, at, l) in
      flat-grown r s opens fs (tokens_of (BulkString x)) x (text_of (BulkString x)) h
      (t ∙ ap (λ (i : ℕ). r.tokens.items ++ placed i (sized token.BulkString n ∷ [])) at
      ∙ ap (λ (i : ℕ). r.tokens.items ++ placed (length (text_in fs)) (sized token.BulkString i ∷ [])) k
      ∙ ap (λ (ts : Tokens). r.tokens.items ++ placed (length (text_in fs)) ts) (sym (tokens_of_bulk x)))
      (z ∙ h.text ∙ ap (λ (y : List ℕ). text_in fs ++ y) (sym (text_of_bulk x)))

-- ---- an element more

module _ (r : FlatReply) (opens : List ℕ) (f : OpenAggregate) (fs : List OpenAggregate) (v : Value)
    (h : HoldsFlat r opens (f ∷ fs) (tokens_of v) (text_of v)) where
  abbrev grown : OpenAggregate
  grown = with_element f v

  grown-tokens : tokens_in (f ∷ fs) ++ tokens_of v ≡ tokens_in (grown ∷ fs)
  grown-tokens =
      append_assoc (tokens_in fs) (opening f ∷ joined (map tokens_of f.seen)) (tokens_of v)
      ∙ ap (λ (ts : Tokens). tokens_in fs ++ (opening f ∷ ts)) (sym (joined-more tokens_of f.seen v))

  grown-text : text_in (f ∷ fs) ++ text_of v ≡ text_in (grown ∷ fs)
  grown-text =
      append_assoc (text_in fs) (joined (map text_of f.seen)) (text_of v)
      ∙ ap (λ (x : List ℕ). text_in fs ++ x) (sym (joined-more text_of f.seen v))

  grown-length : length grown.seen ≡ length f.seen + 1
  grown-length = length-append f.seen (v ∷ [])

  pub flat-kept : (k : ℕ) → f.after ≡ suc k → HoldsFlat r opens (counted_down k grown ∷ fs) [] []
  flat-kept k a = record {
    tokens = h.tokens ∙ ap (placed 0) (grown-tokens ∙ sym (append-nil (tokens_in (grown ∷ fs))));
    text = h.text ∙ grown-text ∙ sym (append-nil (text_in (grown ∷ fs)));
    places = h.places;
    counts = (omega (arith, h.counts.0, grown-length, a), h.counts.1);
  }

  -- the aggregate isn't open any more
  pub flat-all : (before : List ℕ) (at : ℕ) → opens ≡ before ++ (at ∷ []) → f.after ≡ 0 → HoldsAll r before at fs grown
  flat-all before at o a =
      let last = snoc-injective 0 before (places_of fs) at (length (tokens_in fs)) (sym o ∙ h.places) in
      record {
        tokens = h.tokens ∙ ap (placed 0) grown-tokens;
        text = h.text ∙ grown-text;
        place_is = last.1;
        count = omega (arith, h.counts.0, grown-length, a);
        places = last.0;
        counts = h.counts.1;
      }

-- ---- all elements are there

module _ (r : FlatReply) (opens : List ℕ) (at : ℕ) (fs : List OpenAggregate) (f : OpenAggregate)
    (h : HoldsAll r opens at fs f) where
  -- what has these tokens and this text
  closed-as : (u : Value) → tokens_of u ≡ opening f ∷ joined (map tokens_of f.seen) → text_of u
      ≡ joined (map text_of f.seen) → HoldsFlat r opens fs (tokens_of u) (text_of u)
  closed-as u t x = record {
    tokens = h.tokens ∙ ap (λ (ts : Tokens). placed 0 (tokens_in fs ++ ts)) (sym t);
    text = h.text ∙ ap (λ (y : List ℕ). text_in fs ++ y) (sym x);
    places = h.places;
    counts = h.counts;
  }

  size-is : (k : ElementsKind) → f.kind ≡ k → count_of k f.size ≡ length f.seen
  size-is k e = ap (λ (j : ElementsKind). count_of j f.size) (sym e) ∙ h.count

  pub flat-array : f.kind ≡ elements_kind.Array
      → HoldsFlat r opens fs (tokens_of (Array f.seen)) (text_of (Array f.seen))
  flat-array e = closed-as (Array f.seen)
      (tokens_of_array f.seen ∙ ap (λ (n : ℕ). sized token.Array n ∷ joined (map tokens_of f.seen))
      (sym (size-is elements_kind.Array e)) ∙ ap
      (λ (k : ElementsKind). sized (token_kind k) f.size ∷ joined (map tokens_of f.seen)) (sym e))
      (ap text_of (sym (rolls-Array f.seen)) ∙ fold-roll-Value (List ℕ) text_step (Value-F.Array f.seen))

  pub flat-set : f.kind ≡ elements_kind.Set → HoldsFlat r opens fs (tokens_of (Set f.seen)) (text_of (Set f.seen))
  flat-set e = closed-as (Set f.seen)
      (tokens_of_set f.seen ∙ ap (λ (n : ℕ). sized token.Set n ∷ joined (map tokens_of f.seen))
      (sym (size-is elements_kind.Set e)) ∙ ap
      (λ (k : ElementsKind). sized (token_kind k) f.size ∷ joined (map tokens_of f.seen)) (sym e))
      (ap text_of (sym (rolls-Set f.seen)) ∙ fold-roll-Value (List ℕ) text_step (Value-F.Set f.seen))

  pub flat-map : f.kind ≡ elements_kind.Map
      → HoldsFlat r opens fs (tokens_of (Map (pairs f.seen))) (text_of (Map (pairs f.seen)))
  flat-map e =
      let n : length f.seen ≡ 2 * f.size = sym (size-is elements_kind.Map e) in
      closed-as (Map (pairs f.seen))
      (tokens_of_map (pairs f.seen) ∙ ap (λ (ts : Tokens). sized token.Map (length (pairs f.seen)) ∷ ts)
      (sym (joined-paired tokens_of f.size f.seen n))
      ∙ ap (λ (k : ℕ). sized token.Map k ∷ joined (map tokens_of f.seen)) (pairs-count f.size f.seen n)
      ∙ ap (λ (k : ElementsKind). sized (token_kind k) f.size ∷ joined (map tokens_of f.seen)) (sym e))
      (ap text_of (sym (rolls-Map (pairs f.seen))) ∙ fold-roll-Value (List ℕ) text_step (Value-F.Map (pairs f.seen))
      ∙ sym (joined-paired text_of f.size f.seen n))

  pub flat-attribute : f.kind ≡ elements_kind.Attribute
      → HoldsFlat r opens fs (tokens_of (attribute f.seen)) (text_of (attribute f.seen))
  flat-attribute e =
      let n : length f.seen ≡ suc (2 * f.size) = sym (size-is elements_kind.Attribute e) ∙ omega arith in
      let less : length f.seen - 1 ≡ 2 * f.size = omega (arith, n) in
      let front : List Value = take (length f.seen - 1) f.seen in
      let last : Value = last_element f.seen in
      let whole : f.seen ≡ front ++ (last ∷ []) = but_last f.seen (length f.seen - 1) (omega (arith, n)) in
      let few : length front ≡ 2 * f.size = grind (arith, common_steps, n, less) in
      closed-as (attribute f.seen)
      (tokens_of_attribute last (pairs front) ∙ ap
      (λ (ts : Tokens). (sized token.Attribute (length (pairs front)) ∷ ts) ++ tokens_of last)
      (sym (joined-paired tokens_of f.size front few))
      ∙ ap (λ (ts : Tokens). sized token.Attribute (length (pairs front)) ∷ ts)
      (sym (joined-more tokens_of front last) ∙ ap (λ vs. joined (map tokens_of vs)) (sym whole))
      ∙ ap (λ (k : ℕ). sized token.Attribute k ∷ joined (map tokens_of f.seen)) (pairs-count f.size front few)
      ∙ ap (λ (k : ElementsKind). sized (token_kind k) f.size ∷ joined (map tokens_of f.seen)) (sym e))
      (text_of_attribute last (pairs front) ∙ ap (λ (x : List ℕ). x ++ text_of last)
      (sym (joined-paired text_of f.size front few)) ∙ sym (joined-more text_of front last)
      ∙ ap (λ vs. joined (map text_of vs)) (sym whole))

  -- the value of elements that are no push's
  pub flat-closed : (f.kind ≡ elements_kind.Push → ⊥) → (u : Value)
      × ((elements_value f.kind f.seen ≡ Ok u) × HoldsFlat r opens fs (tokens_of u) (text_of u))
  flat-closed none = by_kind f.kind refl
    where
      by_kind : (k : ElementsKind) → f.kind ≡ k → (u : Value)
          × ((elements_value f.kind f.seen ≡ Ok u) × HoldsFlat r opens fs (tokens_of u) (text_of u))
      by_kind elements_kind.Array e = (Array f.seen, (rw e refl, flat-array e))
      by_kind elements_kind.Set e = (Set f.seen, (rw e refl, flat-set e))
      by_kind elements_kind.Map e = (Map (pairs f.seen), (rw e refl, flat-map e))
      by_kind elements_kind.Attribute e = (attribute f.seen, (rw e refl, flat-attribute e))
      by_kind elements_kind.Push e = absurd (none e)
