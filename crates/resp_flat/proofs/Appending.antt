-- What is appended one after another is what is appended at once.
use Rattle.std.proofs.Common.{arith, take, ◌≡◌, ℕ, suc, ◌+◌, List, ◌∷◌, ◌++◌, length, map, ap, sym, ◌∙◌, append_assoc}
use Rattle.std.proofs.Common.{zero-add, ◌<◌, Bool, false, cond, refl, drop, get_or, OnOk, Result, Ok, Err}
use Rattle.std.proofs.lemmas.List.{length-map, length-append, drop_more}
use Rattle.std.proofs.lemmas.Grind.{common_steps}
use Rattle.resp_value.specs.declared.value.Value.{Value, Array, Map, Attribute, Set, Push, fold-roll-Value}
use Rattle.resp_value.specs.declared.value.Value.TheVariants.{rolls-Array, rolls-Map, rolls-Attribute, rolls-Set}
use Rattle.resp_value.specs.declared.value.Value.TheVariants.{rolls-Push}
use Rattle.resp_value.specs.declared.value.Value.TheOpen.{Value-F}
use Rattle.resp_value.specs.declared.names.PushKind.{PushKind}
use Rattle.resp_value.specs.Names.{name_of_push_kind}
use Rattle.resp_flat.specs.declared.token.Token.{Token}
use Rattle.resp_flat.specs.declared.token.TokenKind.{TokenKind}
use Rattle.resp_flat.specs.declared.token.TokenKind.TheVariants as kind
use Rattle.resp_flat.specs.FlatReplies.{Keeps, sized, placed, joined, joined_pairs, tokens_step, tokens_of, text_step}
use Rattle.resp_flat.specs.FlatReplies.{text_of, tokens_of_pair, text_of_pair, has_text, list_tokens, pairs_tokens}
use Rattle.resp_flat.specs.FlatReplies.{push_tokens}
use Rattle.resp_flat.proofs.TokenSizes.{total, placed-append, sizes, pairs-total}

abbrev pub Tokens : Type 0
Tokens = List Token

pub on_ok : {A E P Q : Type 0} (r : Result A E) → (P → Q) → OnOk r P → OnOk r Q
on_ok (Ok x) f p = f p
on_ok (Err e) f p = tt

-- what was there comes first
pub keeps_more : {A : Type 0} (xs ys : List A) → Keeps xs (xs ++ ys)
keeps_more xs ys = grind (arith, common_steps)

pub keeps_then : {A : Type 0} (xs ys zs : List A) → Keeps xs ys → Keeps ys zs → Keeps xs zs
keeps_then xs ys zs one two = grind (arith, common_steps, one, two)

-- some tokens, and then others
pub one_then : (old mid new xs ys : Tokens) (at next : ℕ) → mid ≡ old ++ placed at xs → next ≡ at + total xs → new ≡ mid
    ++ placed next ys → new ≡ old ++ placed at (xs ++ ys)
one_then old mid new xs ys at next first comes later =
    later ∙ ap (λ (m : Tokens). m ++ placed next ys) first ∙ append_assoc old (placed at xs) (placed next ys)
    ∙ ap (λ (n : ℕ). old ++ (placed at xs ++ placed n ys)) comes
    ∙ ap (λ (m : Tokens). old ++ m) (sym (placed-append at xs ys))

-- where the tokens after a text begin
pub after_text : (old new x : List ℕ) (n : ℕ) → new ≡ old ++ x → n ≡ length x → length new ≡ length old + n
after_text old new x n e h = ap length e ∙ length-append old x ∙ ap (λ (m : ℕ). length old + m) (sym h)

-- the tokens of a value that is made of x, by those of y
pub made_of : {X : Type 0} (make : X → Value) (ts : X → Tokens) → ((x : X) → tokens_of (make x) ≡ ts x)
    → (v : Value) (x y : X) (old new : Tokens) (at : ℕ) → v ≡ make x → y ≡ x → new ≡ old ++ placed at (ts y) → new ≡ old
    ++ placed at (tokens_of v)
made_of make ts same v x y old new at is eq h =
    h ∙ ap (λ z. old ++ placed at (ts z)) eq ∙ ap (λ (m : Tokens). old ++ placed at m) (sym (ap tokens_of is ∙ same x))

pub tokens_of_array : (vs : List Value) → tokens_of (Array vs) ≡ list_tokens kind.Array vs
tokens_of_array vs = ap tokens_of (sym (rolls-Array vs)) ∙ fold-roll-Value Tokens tokens_step (Value-F.Array vs)
    ∙ ap (λ (n : ℕ). sized kind.Array n ∷ joined (map tokens_of vs)) (length-map vs tokens_of)

pub tokens_of_set : (vs : List Value) → tokens_of (Set vs) ≡ list_tokens kind.Set vs
tokens_of_set vs = ap tokens_of (sym (rolls-Set vs)) ∙ fold-roll-Value Tokens tokens_step (Value-F.Set vs)
    ∙ ap (λ (n : ℕ). sized kind.Set n ∷ joined (map tokens_of vs)) (length-map vs tokens_of)

pub tokens_of_map : (ps : List (Value × Value)) → tokens_of (Map ps) ≡ pairs_tokens kind.Map ps
tokens_of_map ps = ap tokens_of (sym (rolls-Map ps)) ∙ fold-roll-Value Tokens tokens_step (Value-F.Map ps)
    ∙ ap (λ (n : ℕ). sized kind.Map n ∷ joined_pairs (map tokens_of_pair ps)) (length-map ps tokens_of_pair)

pub tokens_of_attribute : (v : Value) (ps : List (Value × Value)) → tokens_of (Attribute v ps)
    ≡ pairs_tokens kind.Attribute ps ++ tokens_of v
tokens_of_attribute v ps = ap tokens_of (sym (rolls-Attribute v ps))
    ∙ fold-roll-Value Tokens tokens_step (Value-F.Attribute v ps)
    ∙ ap (λ (n : ℕ). sized kind.Attribute n ∷ (joined_pairs (map tokens_of_pair ps) ++ tokens_of v))
    (length-map ps tokens_of_pair)

pub text_of_attribute : (v : Value) (ps : List (Value × Value)) → text_of (Attribute v ps)
    ≡ joined_pairs (map text_of_pair ps) ++ text_of v
text_of_attribute v ps = ap text_of (sym (rolls-Attribute v ps))
    ∙ fold-roll-Value (List ℕ) text_step (Value-F.Attribute v ps)

pub tokens_of_push : (k : PushKind) (vs : List Value) → tokens_of (Push k vs) ≡ push_tokens (name_of_push_kind k) vs
tokens_of_push k vs = ap tokens_of (sym (rolls-Push k vs)) ∙ fold-roll-Value Tokens tokens_step (Value-F.Push k vs)
    ∙ ap (λ (n : ℕ). sized kind.Push (suc n) ∷
    (sized kind.BulkString (length (name_of_push_kind k)) ∷ joined (map tokens_of vs))) (length-map vs tokens_of)

-- the token of a list or of pairs, and then what is in it
pub pairs_come : (k : TokenKind) (ps : List (Value × Value)) → has_text k ≡ false → total (pairs_tokens k ps)
    ≡ length (joined_pairs (map text_of_pair ps))
pairs_come k ps none = ap (λ (b : Bool). cond b (length ps) 0 + total (joined_pairs (map tokens_of_pair ps))) none
    ∙ zero-add _ ∙ pairs-total ps

abbrev Pairs : Type 0
Pairs = List (Value × Value)

pub attribute_tokens : (v w u : Value) (ps qs : Pairs) (old mid new : Tokens) (x y : List ℕ) → v ≡ Attribute w ps → qs
    ≡ ps → u ≡ w
    → mid ≡ old ++ placed (length x) (pairs_tokens kind.Attribute qs) → y ≡ x ++ joined_pairs (map text_of_pair qs)
    → new ≡ mid ++ placed (length y) (tokens_of u) → new ≡ old ++ placed (length x) (tokens_of v)
attribute_tokens v w u ps qs old mid new x y is same at first grown later =
    one_then old mid new (pairs_tokens kind.Attribute qs) (tokens_of u) (length x) (length y) first
    (after_text x y (joined_pairs (map text_of_pair qs)) _ grown (pairs_come kind.Attribute qs refl)) later
    ∙ ap (λ (rs : Pairs). old ++ placed (length x) (pairs_tokens kind.Attribute rs ++ tokens_of u)) same
    ∙ ap (λ (z : Value). old ++ placed (length x) (pairs_tokens kind.Attribute ps ++ tokens_of z)) at
    ∙ ap (λ (m : Tokens). old ++ placed (length x) m) (sym (ap tokens_of is ∙ tokens_of_attribute w ps))

pub attribute_text : (v w u : Value) (ps qs : Pairs) (x y z : List ℕ) → v ≡ Attribute w ps → qs ≡ ps → u ≡ w
    → y ≡ x ++ joined_pairs (map text_of_pair qs) → z ≡ y ++ text_of u → z ≡ x ++ text_of v
attribute_text v w u ps qs x y z is same at first later =
    later ∙ ap (λ (m : List ℕ). m ++ text_of u) first ∙ append_assoc x (joined_pairs (map text_of_pair qs)) (text_of u)
    ∙ ap (λ (rs : Pairs). x ++ (joined_pairs (map text_of_pair rs) ++ text_of u)) same
    ∙ ap (λ (a : Value). x ++ (joined_pairs (map text_of_pair ps) ++ text_of a)) at
    ∙ ap (λ (m : List ℕ). x ++ m) (sym (ap text_of is ∙ text_of_attribute w ps))

pub push_made : (v : Value) (k : PushKind) (vs us : List Value) (name : List ℕ) (old new : Tokens) (at : ℕ) → v
    ≡ Push k vs → name ≡ name_of_push_kind k → us ≡ vs
    → new ≡ old ++ placed at (push_tokens name us) → new ≡ old ++ placed at (tokens_of v)
push_made v k vs us name old new at is named same h =
    h ∙ ap (λ (n : List ℕ). old ++ placed at (push_tokens n us)) named
    ∙ ap (λ (ws : List Value). old ++ placed at (push_tokens (name_of_push_kind k) ws)) same
    ∙ ap (λ (m : Tokens). old ++ placed at m) (sym (ap tokens_of is ∙ tokens_of_push k vs))

-- the item at an index comes next
next_item : {X : Type 0} (items : List X) (i : ℕ) (item : X) → i < length items → item ≡ get_or items i item
    → drop i items ≡ item ∷ drop (i + 1) items
next_item items i item inside is = drop_more items i item inside ∙ ap (λ x. x ∷ drop (i + 1) items) (sym is)

-- a value was appended of those that are left
pub element_next : (vs : List Value) (i : ℕ) (v : Value) (t t' : Tokens) (x x' : List ℕ) → i < length vs → v
    ≡ get_or vs i v
    → t' ≡ t ++ placed (length x) (tokens_of v) → x' ≡ x ++ text_of v
    → (t' ++ placed (length x') (joined (map tokens_of (drop (i + 1) vs))) ≡ t
    ++ placed (length x) (joined (map tokens_of (drop i vs))))
    × (x' ++ joined (map text_of (drop (i + 1) vs)) ≡ x ++ joined (map text_of (drop i vs)))
element_next vs i v t t' x x' inside is added grown =
    let more = next_item vs i v inside is in
    let rest = drop (i + 1) vs in (
      one_then t t' _ (tokens_of v) (joined (map tokens_of rest)) (length x) (length x') added
          (after_text x x' (text_of v) _ grown (sizes v)) refl
          ∙ ap (λ (ws : List Value). t ++ placed (length x) (joined (map tokens_of ws))) (sym more),
      ap (λ (y : List ℕ). y ++ joined (map text_of rest)) grown ∙ append_assoc x (text_of v) (joined (map text_of rest))
          ∙ ap (λ (ws : List Value). x ++ joined (map text_of ws)) (sym more),
    )

-- a key and its value were appended
pub entry_next : (ps : Pairs) (i : ℕ) (p : Value × Value) (t t' t'' : Tokens) (x x' x'' : List ℕ) → i < length ps → p
    ≡ get_or ps i p
    → t' ≡ t ++ placed (length x) (tokens_of p.0) → x' ≡ x ++ text_of p.0 → t'' ≡ t'
    ++ placed (length x') (tokens_of p.1) → x'' ≡ x' ++ text_of p.1
    → (t'' ++ placed (length x'') (joined_pairs (map tokens_of_pair (drop (i + 1) ps))) ≡ t
    ++ placed (length x) (joined_pairs (map tokens_of_pair (drop i ps))))
    × (x'' ++ joined_pairs (map text_of_pair (drop (i + 1) ps)) ≡ x ++ joined_pairs (map text_of_pair (drop i ps)))
entry_next ps i p t t' t'' x x' x'' inside is key_added key_grown added grown =
    let more = next_item ps i p inside is in
    let rest = drop (i + 1) ps in (
      one_then t t' _ (tokens_of p.0) (tokens_of p.1 ++ joined_pairs (map tokens_of_pair rest)) (length x) (length x')
          key_added (after_text x x' (text_of p.0) _ key_grown (sizes p.0))
          (one_then t' t'' _ (tokens_of p.1) (joined_pairs (map tokens_of_pair rest)) (length x') (length x'') added
          (after_text x' x'' (text_of p.1) _ grown (sizes p.1)) refl)
          ∙ ap (λ (qs : Pairs). t ++ placed (length x) (joined_pairs (map tokens_of_pair qs))) (sym more),
      ap (λ (y : List ℕ). y ++ joined_pairs (map text_of_pair rest)) grown
          ∙ append_assoc x' (text_of p.1) (joined_pairs (map text_of_pair rest))
          ∙ ap (λ (y : List ℕ). y ++ (text_of p.1 ++ joined_pairs (map text_of_pair rest))) key_grown
          ∙ append_assoc x (text_of p.0) _
          ∙ ap (λ (qs : Pairs). x ++ joined_pairs (map text_of_pair qs)) (sym more),
    )
