-- What is sent for a value with others inside it.
use Rattle.std.proofs.Common.{◌≡◌, ℕ, suc, ◌<◌, ◌^◌, nat_lt, decimal, ℤ, Bool, true, false, cond, List, [], ◌∷◌}
use Rattle.std.proofs.Common.{length}
use Rattle.std.proofs.Common.{Option, None, Some, refl, sym, ap, ◌∙◌, arith, option_and_then}
use Rattle.std.proofs.lemmas.Bool.Decides.{nat_tests}
use Rattle.std.specs.Fmt.{◌++?◌}
use Rattle.std.specs.Str.{is_utf8}
use Rattle.resp_value.specs.declared.value.Value.{Value, BulkString, Array, Map, Attribute, Set, Push}
use Rattle.resp_value.specs.declared.value.Value.TheVariants.{rolls-Array, rolls-Map, rolls-Attribute, rolls-Set}
use Rattle.resp_value.specs.declared.value.Value.TheVariants.{rolls-Push}
use Rattle.resp_value.specs.declared.value.Value.TheOpen.{Value-F}
use Rattle.resp_value.specs.declared.names.PushKind.{PushKind}
use Rattle.resp_value.specs.declared.names.PushKind.TheVariants as push
use Rattle.resp_value.specs.Names.{kind_named, name_of_push_kind}
use Rattle.resp_args.specs.declared.options.ProtocolVersion.{ProtocolVersion}
use Rattle.resp_args.specs.declared.options.ProtocolVersion.TheVariants.{RESP2, RESP3}
use Rattle.resp_parse.specs.declared.type_byte.TypeByte.TheVariants as type_byte
use Rattle.resp_flat.specs.declared.token.Token.{Token}
use Rattle.resp_flat.specs.declared.token.TokenKind.{TokenKind}
use Rattle.resp_flat.specs.declared.token.TokenKind.TheVariants as kind
use Rattle.resp_flat.specs.Reading.{Read, refused, got, then, made_of, next_values, next_pairs, next_attribute}
use Rattle.resp_flat.specs.Reading.{next_push}
use Rattle.resp_flat.specs.Reading.{next_kind, next_value, next_token, next_bytes, next_leaf, leaf_of, after_token}
use Rattle.resp_flat.proofs.ReadsOnly.{name-kind_named}
use Rattle.resp_flat.proofs.ReadSteps.{by_token}
use Rattle.resp_encode.specs.Resp2.{flat}
use Rattle.resp_encode.specs.Encoding.{given, joined, aggregate, is_own_kind, push_of}
use Rattle.resp_encode.specs.Encodings.{encoding_in}
use Rattle.resp_encode.specs.Appending.{counted, marked}
use Rattle.resp_encode.specs.FlatEncoding.{spelled_in, counted_in, set_count, map_count, push_head, spelled, both}
use Rattle.resp_encode.specs.FlatEncoding.{leaf_in, next_in, values_in, pairs_in, attributes_in}
use Rattle.resp_encode.proofs.AppendedTexts.{append_texts, counted_pushed}
use Rattle.resp_encode.proofs.FlatLeaves.{layer2, layer3}
use Rattle.resp_encode.proofs.FlatWriting.{Tokens, read_both, list_read, pairs_read, spelled_same}
use Rattle.resp_encode.proofs.OwnNames.{read-kind}

abbrev Sent : Type 0
Sent = Option ProtocolVersion

pub too_many : (mark n : ℕ) → (n < 2 ^ 64 → ⊥) → counted mark n ≡ None
too_many mark n big =
    let e : nat_lt n (2 ^ 63) ≡ false = grind (arith, nat_tests) in
    ap (λ (b : Bool). given b (marked mark (decimal n))) e

pub too_many_then : (mark n : ℕ) (t : Option (List ℕ)) → (n < 2 ^ 64 → ⊥) → (counted mark n ++? t) ≡ None
too_many_then mark n t big = ap (λ (o : Option (List ℕ)). o ++? t) (too_many mark n big)

-- nothing is sent of values that aren't
nothing_joined : (d : ℕ) (vs : List Value) → joined (spelled_in None d) vs ≡ Some []
nothing_joined d [] = refl
nothing_joined d (v ∷ vs) = ap (λ (t : Option (List ℕ)). Some [] ++? t) (nothing_joined d vs)

nothing_then : (d : ℕ) (vs : List Value) → Some [] ≡ (Some [] ++? joined (spelled_in None d) vs)
nothing_then d vs = ap (λ (t : Option (List ℕ)). Some [] ++? t) (sym (nothing_joined d vs))

-- ---- by kinds

array_is : (p : Sent) (d : ℕ) (vs : List Value) → spelled_in p (suc d) (Array vs)
    ≡ (counted_in p 42 (length vs) ++? joined (spelled_in p d) vs)
array_is None d vs = nothing_then d vs
array_is (Some RESP2) d vs = layer2 d (Value-F.Array vs) (Array vs) (rolls-Array vs)
array_is (Some RESP3) d vs = layer3 d (Value-F.Array vs) (Array vs) (rolls-Array vs)

set_is : (p : Sent) (d : ℕ) (vs : List Value) → spelled_in p (suc d) (Set vs)
    ≡ (set_count p (length vs) ++? joined (spelled_in p d) vs)
set_is None d vs = nothing_then d vs
set_is (Some RESP2) d vs = layer2 d (Value-F.Set vs) (Set vs) (rolls-Set vs)
set_is (Some RESP3) d vs = layer3 d (Value-F.Set vs) (Set vs) (rolls-Set vs)

map_is : (p : Sent) (d : ℕ) (ps : List (Value × Value)) → spelled_in p (suc d) (Map ps)
    ≡ (map_count p (length ps) ++? joined (spelled_in p d) (flat ps))
map_is None d ps = nothing_then d (flat ps)
map_is (Some RESP2) d ps = layer2 d (Value-F.Map ps) (Map ps) (rolls-Map ps)
map_is (Some RESP3) d ps = layer3 d (Value-F.Map ps) (Map ps) (rolls-Map ps)

-- the bytes for an attribute's pairs
attributes : Sent → ℕ → List (Value × Value) → Option (List ℕ)
attributes (Some RESP3) d ps = counted 124 (length ps) ++? joined (spelled_in (Some RESP3) d) (flat ps)
attributes p d ps = Some []

attribute_is : (p : Sent) (d : ℕ) (ps : List (Value × Value)) (v : Value) → spelled_in p (suc d) (Attribute v ps)
    ≡ (attributes p d ps ++? spelled_in p d v)
unfolding attributes
attribute_is None d ps v = refl
attribute_is (Some RESP2) d ps v = layer2 d (Value-F.Attribute v ps) (Attribute v ps) (rolls-Attribute v ps)
    ∙ sym (nothing_before (encoding_in RESP2 d v))
  where
    nothing_before : (t : Option (List ℕ)) → (Some [] ++? t) ≡ t
    nothing_before None = refl
    nothing_before (Some x) = refl
attribute_is (Some RESP3) d ps v = layer3 d (Value-F.Attribute v ps) (Attribute v ps) (rolls-Attribute v ps)
    ∙ counted_pushed (encoding_in RESP3 d) (counted 124 (length ps)) (flat ps) v

-- a push that isn't the one without a name and data
push_named : (spell : Value → Option (List ℕ)) (k : PushKind) (vs : List Value) → (k ≡ push.Other [] → vs ≡ [] → ⊥)
    → push_of spell k vs ≡ cond (is_own_kind k)
    (aggregate spell type_byte.Push (suc (length vs)) (BulkString (name_of_push_kind k) ∷ vs)) None
push_named spell (push.Other []) [] some = absurd (some refl refl)
push_named spell (push.Other []) (v ∷ vs) some = refl
push_named spell (push.Other (c ∷ name)) vs some = refl
push_named spell push.Disconnection vs some = refl
push_named spell push.Invalidate vs some = refl
push_named spell push.Message vs some = refl
push_named spell push.PMessage vs some = refl
push_named spell push.SMessage vs some = refl
push_named spell push.Unsubscribe vs some = refl
push_named spell push.PUnsubscribe vs some = refl
push_named spell push.SUnsubscribe vs some = refl
push_named spell push.Subscribe vs some = refl
push_named spell push.PSubscribe vs some = refl
push_named spell push.SSubscribe vs some = refl

named_head : (spell : Value → Option (List ℕ)) (c : Option (List ℕ)) (name : List ℕ) (vs : List Value)
    → (c ++? joined spell (BulkString (name_of_push_kind (kind_named name)) ∷ vs))
    ≡ ((c ++? spell (BulkString name)) ++? joined spell vs)
named_head spell c name vs =
    ap (λ (n : List ℕ). c ++? (spell (BulkString n) ++? joined spell vs)) (name-kind_named name)
    ∙ sym (append_texts c (spell (BulkString name)) (joined spell vs))

pushed3 : (spell : Value → Option (List ℕ)) (name : List ℕ) (vs : List Value) → is_utf8 name ≡ true
    → (kind_named name ≡ push.Other [] → vs ≡ [] → ⊥)
    → push_of spell (kind_named name) vs
    ≡ ((counted 62 (suc (length vs)) ++? spell (BulkString name)) ++? joined spell vs)
pushed3 spell name vs u some =
    push_named spell (kind_named name) vs some
    ∙ ap (λ (b : Bool). cond b (aggregate spell type_byte.Push (suc (length vs))
    (BulkString (name_of_push_kind (kind_named name)) ∷ vs)) None) (read-kind name u)
    ∙ named_head spell (counted 62 (suc (length vs))) name vs

empty_push : (d : ℕ) → push_of (encoding_in RESP3 d) (kind_named []) []
    ≡ (push_head (Some RESP3) d [] 0 ++? joined (spelled_in (Some RESP3) d) [])
unfolding kind_named
empty_push d = refl

push_is : (p : Sent) (d : ℕ) (name : List ℕ) (vs : List Value) → is_utf8 name ≡ true
    → spelled_in p (suc d) (Push (kind_named name) vs)
    ≡ (push_head p d name (length vs) ++? joined (spelled_in p d) vs)
push_is None d name vs u = nothing_then d vs
push_is (Some RESP2) d name vs u =
    layer2 d (Value-F.Push (kind_named name) vs) (Push (kind_named name) vs) (rolls-Push (kind_named name) vs)
    ∙ named_head (encoding_in RESP2 d) (counted 42 (suc (length vs))) name vs
push_is (Some RESP3) d [] [] u =
    layer3 d (Value-F.Push (kind_named []) []) (Push (kind_named []) []) (rolls-Push (kind_named []) [])
    ∙ empty_push d
push_is (Some RESP3) d [] (v ∷ vs) u =
    layer3 d (Value-F.Push (kind_named []) (v ∷ vs)) (Push (kind_named []) (v ∷ vs)) (rolls-Push (kind_named [])
    (v ∷ vs))
    ∙ pushed3 (encoding_in RESP3 d) [] (v ∷ vs) u (λ k (e : v ∷ vs ≡ []). cc)
push_is (Some RESP3) d (c ∷ name) vs u =
    layer3 d (Value-F.Push (kind_named (c ∷ name)) vs) (Push (kind_named (c ∷ name)) vs)
    (rolls-Push (kind_named (c ∷ name)) vs)
    ∙ pushed3 (encoding_in RESP3 d) (c ∷ name) vs u
    (λ k e. let n = sym (name-kind_named (c ∷ name)) ∙ ap name_of_push_kind k in absurd (cc))

-- ---- what is read of tokens

-- any other kind is a leaf's
pub other_token : (read : Tokens → ℕ → Read Value) (x : List ℕ) (k : TokenKind) (n : ℕ) (z : ℤ) (ts : Tokens) (at : ℕ)
    → (k ≡ kind.Nil → ⊥) → (k ≡ kind.Okay → ⊥) → (k ≡ kind.Int → ⊥) → (k ≡ kind.Array → ⊥) → (k ≡ kind.Map → ⊥)
    → (k ≡ kind.Attribute → ⊥) → (k ≡ kind.Boolean → ⊥) → (k ≡ kind.Set → ⊥) → (k ≡ kind.Push → ⊥)
    → after_token read x k n z ts at ≡ next_leaf x k n ts at
other_token read x kind.Nil n z ts at a b c d e f g h i = absurd (a refl)
other_token read x kind.Okay n z ts at a b c d e f g h i = absurd (b refl)
other_token read x kind.Int n z ts at a b c d e f g h i = absurd (c refl)
other_token read x kind.Array n z ts at a b c d e f g h i = absurd (d refl)
other_token read x kind.Map n z ts at a b c d e f g h i = absurd (e refl)
other_token read x kind.Attribute n z ts at a b c d e f g h i = absurd (f refl)
other_token read x kind.Boolean n z ts at a b c d e f g h i = absurd (g refl)
other_token read x kind.Set n z ts at a b c d e f g h i = absurd (h refl)
other_token read x kind.Push n z ts at a b c d e f g h i = absurd (i refl)
other_token read x kind.SimpleString n z ts at a b c d e f g h i = refl
other_token read x kind.BulkString n z ts at a b c d e f g h i = refl
other_token read x kind.ServerError n z ts at a b c d e f g h i = refl
other_token read x kind.Double n z ts at a b c d e f g h i = refl
other_token read x kind.BigNumber n z ts at a b c d e f g h i = refl
other_token read x kind.VerbatimString n z ts at a b c d e f g h i = refl

module _ (p : Sent) (d : ℕ) (x : List ℕ) where
  pub array_read : (n : ℕ) (ts : Tokens) (at : ℕ)
      → spelled (spelled_in p (suc d)) (then (next_values (next_value x d) n ts at) (λ vs. got (Array vs)))
      ≡ both (made_of (counted_in p 42 n) ts at) (values_in p d x n)
  array_read n ts at = list_read (spelled_in p d) (next_value x d) (spelled_in p (suc d)) Array
      (counted_in p 42) n ts at
      (array_is p d)

  pub set_read : (n : ℕ) (ts : Tokens) (at : ℕ)
      → spelled (spelled_in p (suc d)) (then (next_values (next_value x d) n ts at) (λ vs. got (Set vs)))
      ≡ both (made_of (set_count p n) ts at) (values_in p d x n)
  set_read n ts at = list_read (spelled_in p d) (next_value x d) (spelled_in p (suc d)) Set (set_count p) n ts at
      (set_is p d)

  pub map_read : (n : ℕ) (ts : Tokens) (at : ℕ)
      → spelled (spelled_in p (suc d)) (then (next_pairs (next_value x d) n ts at) (λ ps. got (Map ps)))
      ≡ both (made_of (map_count p n) ts at) (pairs_in p d x n)
  map_read n ts at = then_map (next_pairs (next_value x d) n ts at)
      ∙ pairs_read (spelled_in p d) (next_value x d) (λ ps. spelled_in p (suc d) (Map ps)) (map_count p) n ts at
      (map_is p d)
    where
      then_map : (r : Read (List (Value × Value))) → spelled (spelled_in p (suc d)) (then r (λ ps. got (Map ps)))
          ≡ spelled (λ ps. spelled_in p (suc d) (Map ps)) r
      then_map refused = refl
      then_map (got ps us from) = refl

  pub attribute_read : (n : ℕ) (ts : Tokens) (at : ℕ)
      → spelled (spelled_in p (suc d)) (next_attribute (next_value x d) n ts at)
      ≡ both (attributes_in p d x n ts at) (next_in p d x)
  unfolding attributes
  attribute_read n ts at =
      read_both (attributes p d) (spelled_in p d) (spelled_in p (suc d)) (λ ps v. Attribute v ps) (next_value x d)
      (next_pairs (next_value x d) n ts at) (λ ps v. attribute_is p d ps v)
      ∙ ap (λ (r : Read (List ℕ)). both r (next_in p d x)) (pairs_are p n ts at)
    where
      pairs_are : (p : Sent) (n : ℕ) (ts : Tokens) (at : ℕ)
          → spelled (attributes p d) (next_pairs (next_value x d) n ts at) ≡ attributes_in p d x n ts at
      pairs_are None n ts at = spelled_same _ _ (next_pairs (next_value x d) n ts at) (λ ps. sym (nothing_joined d
          (flat ps)))
      pairs_are (Some RESP2) n ts at = spelled_same _ _ (next_pairs (next_value x d) n ts at)
          (λ ps. sym (nothing_joined d (flat ps)))
      pairs_are (Some RESP3) n ts at = pairs_read (spelled_in (Some RESP3) d) (next_value x d)
          (attributes (Some RESP3) d) (counted 124) n ts at (λ ps. refl)

  pub push_read : (n : ℕ) (name : List ℕ) (ts us : Tokens) (at from : ℕ) → is_utf8 name ≡ true
      → next_kind x ts at ≡ got (kind_named name) us from
      → spelled (spelled_in p (suc d)) (next_push (next_value x d) x n ts at)
      ≡ both (made_of (push_head p d name n) us from) (values_in p d x n)
  push_read n name ts us at from u e =
      ap (λ (r : Read PushKind). spelled (spelled_in p (suc d))
      (then r (λ k us from. then (next_values (next_value x d) n us from) (λ vs. got (Push k vs))))) e
      ∙ list_read (spelled_in p d) (next_value x d) (spelled_in p (suc d)) (Push (kind_named name))
      (push_head p d name) n
      us from (λ vs. push_is p d name vs u)

  -- ---- the next value

  pub no_levels : (ts : Tokens) (at : ℕ) → d ≡ 0 → next_in p d x ts at ≡ refused
  unfolding next_value
  no_levels ts at e = ap (λ (k : ℕ). next_in p k x ts at) e

  pub no_token : (m : ℕ) (ts : Tokens) (at : ℕ) → m ≡ suc d → next_token ts at ≡ refused
      → next_in p m x ts at ≡ refused
  unfolding next_value
  no_token m ts at more e = ap (λ (k : ℕ). next_in p k x ts at) more
      ∙ ap (λ (r : Read Token). spelled (spelled_in p (suc d))
      (then r (λ t. after_token (next_value x d) x t.kind t.size t.number))) e

  pub token_read : (m : ℕ) (ts us : Tokens) (at from : ℕ) (t : Token) → m ≡ suc d → next_token ts at ≡ got t us from
      → next_in p m x ts at
      ≡ spelled (spelled_in p (suc d)) (after_token (next_value x d) x t.kind t.size t.number us from)
  token_read m ts us at from t more e = ap (λ (k : ℕ). next_in p k x ts at) more
      ∙ ap (λ (r : Read Value). spelled (spelled_in p (suc d)) r) (by_token x (suc d) d ts us at from t refl e)

  pub no_name : (n : ℕ) (ts : Tokens) (at : ℕ) → next_kind x ts at ≡ refused
      → spelled (spelled_in p (suc d)) (next_push (next_value x d) x n ts at) ≡ refused
  no_name n ts at e = ap (λ (r : Read PushKind). spelled (spelled_in p (suc d))
      (then r (λ k us from. then (next_values (next_value x d) n us from) (λ vs. got (Push k vs))))) e

  -- a leaf
  pub leaf_read : (k : TokenKind) (n : ℕ) (ts us : Tokens) (at from : ℕ) (bytes : List ℕ)
      → next_bytes x n ts at ≡ got bytes us from
      → spelled (spelled_in p (suc d)) (next_leaf x k n ts at) ≡ made_of (leaf_in p (suc d) k bytes) us from
  leaf_read k n ts us at from bytes e =
      ap (λ (r : Read (List ℕ)). spelled (spelled_in p (suc d)) (then r (λ bytes. made_of (leaf_of k bytes)))) e
      ∙ by (leaf_of k bytes)
    where
      by : (o : Option Value) → spelled (spelled_in p (suc d)) (made_of o us from)
          ≡ made_of (option_and_then (spelled_in p (suc d)) o) us from
      by None = refl
      by (Some v) = refl

  pub no_leaf : (k : TokenKind) (n : ℕ) (ts : Tokens) (at : ℕ) → next_bytes x n ts at ≡ refused
      → spelled (spelled_in p (suc d)) (next_leaf x k n ts at) ≡ refused
  no_leaf k n ts at e =
      ap (λ (r : Read (List ℕ)). spelled (spelled_in p (suc d)) (then r (λ bytes. made_of (leaf_of k bytes)))) e
