-- What is read of tokens and a text is the value whose tokens and text they are.
use Rattle.std.proofs.Common.{◌≡◌, ℕ, zero, suc, ◌+◌, ◌-◌, ◌<◌, ◌≤◌, ◌==◌, ◌&&◌, ◌||◌, nat_le, Bool, true, false, cond}
use Rattle.std.proofs.Common.{not, List, [], ◌∷◌, ◌++◌, length, map, take, drop, codes, bytes_eq, refl, sym, ap, subst}
use Rattle.std.proofs.Common.{◌∙◌, append_assoc, append-nil, add-zero, zero-add, eqb-true, arith, Some, None, Option, ℤ}
use Rattle.std.proofs.Common.{pos}
use Rattle.std.specs.Ordering.{int_eq}
use Rattle.std.specs.Cmp.{signed_Decides}
use Rattle.std.specs.List.{position_or_len, before_first, after_first}
use Rattle.std.specs.Str.{is_utf8}
use Rattle.std.proofs.lemmas.Grind.{common_steps}
use Rattle.std.proofs.lemmas.List.{length-append, length-map, take-append-drop, drop-drop}
use Rattle.std.proofs.lemmas.List.Sums.{split_at_first, passes_at_first, prefix_len-le-length}
use Rattle.std.proofs.lemmas.Bool.{and_parts}
use Rattle.std.proofs.lemmas.Bool.Decides.{nat_tests}
use Rattle.std.proofs.lemmas.Slice.Eq.{bytes_eq-Decides}
use Rattle.resp_value.specs.declared.value.Value.{Value, Nil, Okay, Int, SimpleString, BulkString, Array, Map}
use Rattle.resp_value.specs.declared.value.Value.{Attribute, ServerError, Boolean, Double, BigNumber, Set}
use Rattle.resp_value.specs.declared.value.Value.{VerbatimString, Push, roll-Value, map-Value, fold-roll-Value}
use Rattle.resp_value.specs.declared.value.Value.TheVariants.{rolls-Nil, rolls-Okay, rolls-Int, rolls-SimpleString}
use Rattle.resp_value.specs.declared.value.Value.TheVariants.{rolls-BulkString, rolls-Array, rolls-Map, rolls-Attribute}
use Rattle.resp_value.specs.declared.value.Value.TheVariants.{rolls-ServerError, rolls-Boolean, rolls-Double}
use Rattle.resp_value.specs.declared.value.Value.TheVariants.{rolls-BigNumber, rolls-Set, rolls-VerbatimString}
use Rattle.resp_value.specs.declared.value.Value.TheVariants.{rolls-Push}
use Rattle.resp_value.specs.declared.value.Value.TheOpen.{Value-F}
use Rattle.resp_value.specs.declared.names.PushKind.{PushKind}
use Rattle.resp_value.specs.declared.names.PushKind.TheVariants as push
use Rattle.resp_value.specs.declared.names.VerbatimFormat.TheVariants as format
use Rattle.resp_value.specs.Names.{kind_named, name_of_push_kind, format_named, name_of_format}
use Rattle.resp_errors.specs.ServerErrors.{server_error}
use Rattle.resp_errors.proofs.ErrorTexts.{joined as error_joined}
use Rattle.resp_flat.specs.declared.flat_reply.FlatReply.{FlatReply}
use Rattle.resp_flat.specs.declared.token.Token.{Token}
use Rattle.resp_flat.specs.declared.token.TokenKind.{TokenKind}
use Rattle.resp_flat.specs.declared.token.TokenKind.TheVariants as kind
use Rattle.resp_flat.specs.FlatReplies.{sized, has_text, bytes_of, placed, joined, joined_pairs, verbatim_text}
use Rattle.resp_flat.specs.FlatReplies.{truth_number, tokens_step, tokens_of, text_step, text_of, tokens_of_pair}
use Rattle.resp_flat.specs.FlatReplies.{text_of_pair, IsFlatOf}
use Rattle.resp_flat.specs.Reading.{Read, refused, got, then, made_of, may_have, next_token, next_bytes, of_text}
use Rattle.resp_flat.specs.Reading.{is_colon, cut, cut_text, leaf_of, next_leaf, is_bulk, next_kind, next_values}
use Rattle.resp_flat.specs.Reading.{next_pairs, after_token, next_value, whole, first_of, value_from}
use Rattle.resp_flat.specs.FlatValues.{IsShownIn}
use Rattle.resp_flat.proofs.TokenSizes.{total, total-append, placed-append}

abbrev pub Tokens : Type 0
Tokens = List Token

-- ---- names

-- a kind that has this name, or that was chosen for it
abbrev Named : List ℕ → PushKind → Type 0
Named name k = name_of_push_kind k ≡ name

or_other : (name : List ℕ) (k other : PushKind) → Named name other
    → Named name (cond (bytes_eq name (name_of_push_kind k)) k other)
or_other name k other h = by (bytes_eq name (name_of_push_kind k))
    (λ e. sym ((bytes_eq-Decides name (name_of_push_kind k)).0 e))
  where
    by : (b : Bool) → (b ≡ true → name_of_push_kind k ≡ name) → Named name (cond b k other)
    by true same = same refl
    by false same = h

pub name-kind_named : (name : List ℕ) → name_of_push_kind (kind_named name) ≡ name
unfolding kind_named
name-kind_named name =
    or_other name push.Invalidate _
    (or_other name push.Message _
    (or_other name push.PMessage _ (or_other name push.SMessage _ (or_other name push.Unsubscribe _
    (or_other name push.PUnsubscribe _
    (or_other name push.SUnsubscribe _
    (or_other name push.Subscribe _
    (or_other name push.PSubscribe _ (or_other name push.SSubscribe (push.Other name) refl)))))))))

pub name-format_named : (name : List ℕ) → name_of_format (format_named name) ≡ name
unfolding format_named
name-format_named name = by (bytes_eq name (codes "mkd")) (bytes_eq name (codes "txt"))
    (bytes_eq-Decides name (codes "mkd")).0 (bytes_eq-Decides name (codes "txt")).0
  where
    by : (a b : Bool) → (a ≡ true → name ≡ codes "mkd") → (b ≡ true → name ≡ codes "txt")
        → name_of_format (cond a format.Markdown (cond b format.Text (format.Unknown name))) ≡ name
    by true b e f = sym (e refl)
    by false true e f = sym (f refl)
    by false false e f = refl

-- ---- what holds of all that is read

abbrev pub Fact : Type 0 → Type 1
Fact A = A → Tokens → ℕ → Type 0

abbrev pub Holds : {A : Type 0} → Fact A → Read A → Type 0
Holds P refused = Unit {0}
Holds P (got a ts at) = P a ts at

pub holds-then : {A B : Type 0} (P : Fact A) (Q : Fact B) (r : Read A) (f : A → Tokens → ℕ → Read B) → Holds P r
    → ((a : A) (us : Tokens) (from : ℕ) → P a us from → Holds Q (f a us from)) → Holds Q (then r f)
holds-then P Q refused f h next = tt
holds-then P Q (got a ts at) f h next = next a ts at h

pub holds-if : {A : Type 0} (Q : Fact A) (b : Bool) (r : Read A) → (b ≡ true → Holds Q r) → Holds Q (cond b r refused)
holds-if Q true r h = h refl
holds-if Q false r h = tt

pub holds-made : {A : Type 0} (Q : Fact A) (o : Option A) (ts : Tokens) (at : ℕ) → ((a : A) → o ≡ Some a → Q a ts at)
    → Holds Q (made_of o ts at)
holds-made Q None ts at h = tt
holds-made Q (Some a) ts at h = h a refl

-- reading went over exactly these tokens and this text
record Over (x : List ℕ) (ts : Tokens) (at : ℕ) (us : Tokens) (u : List ℕ) (rest : Tokens) (to : ℕ) : Type 0 where
  tokens : ts ≡ placed at us ++ rest
  text : drop at x ≡ u ++ drop to x
  far : to ≡ at + length u
  sized : total us ≡ length u

over-nothing : (x : List ℕ) (ts : Tokens) (at : ℕ) → Over x ts at [] [] ts at
over-nothing x ts at = record { tokens = refl; text = refl; far = sym (add-zero at); sized = refl }

over-both : (x : List ℕ) (ts ms : Tokens) (at from : ℕ) (us vs : Tokens) (u v : List ℕ) (rest : Tokens) (to : ℕ)
    → Over x ts at us u ms from → Over x ms from vs v rest to → Over x ts at (us ++ vs) (u ++ v) rest to
over-both x ts ms at from us vs u v rest to one two = record {
  tokens = one.tokens ∙ ap (λ (ws : Tokens). placed at us ++ ws) two.tokens
      ∙ ap (λ (n : ℕ). placed at us ++ (placed n vs ++ rest)) (one.far ∙ ap (λ (n : ℕ). at + n) (sym one.sized))
      ∙ sym (append_assoc (placed at us) (placed (at + total us) vs) rest)
      ∙ ap (λ (ws : Tokens). ws ++ rest) (sym (placed-append at us vs));
  text = one.text ∙ ap (λ (y : List ℕ). u ++ y) two.text ∙ sym (append_assoc u v (drop to x));
  far = let e = length-append u v in let f = one.far in let g = two.far in omega arith;
  sized = total-append us vs ∙ ap (λ (n : ℕ). n + total vs) one.sized ∙ ap (λ (n : ℕ). length u + n) two.sized
      ∙ sym (length-append u v);
}

holds-weaker : {A : Type 0} (P Q : Fact A) (r : Read A) → ((a : A) (us : Tokens) (to : ℕ) → P a us to → Q a us to)
    → Holds P r → Holds Q r
holds-weaker P Q refused f h = tt
holds-weaker P Q (got a us to) f h = f a us to h

-- ---- values and pairs

abbrev OverValue : List ℕ → Tokens → ℕ → Fact Value
OverValue x ts at v rest to = Over x ts at (tokens_of v) (text_of v) rest to

abbrev ReadsOnly : List ℕ → (Tokens → ℕ → Read Value) → Type 0
ReadsOnly x read = (ts : Tokens) (at : ℕ) → Holds (OverValue x ts at) (read ts at)

abbrev OverValues : List ℕ → ℕ → Tokens → ℕ → Fact (List Value)
OverValues x n ts at vs rest to = Over x ts at (joined (map tokens_of vs)) (joined (map text_of vs)) rest to
    × (length vs ≡ n)

over-values : (x : List ℕ) (read : Tokens → ℕ → Read Value) → ReadsOnly x read → (n : ℕ) (ts : Tokens) (at : ℕ)
    → Holds (OverValues x n ts at) (next_values read n ts at)
over-values x read only zero ts at = (over-nothing x ts at, refl)
over-values x read only (suc n) ts at =
    holds-then (OverValue x ts at) (OverValues x (suc n) ts at) (read ts at)
    (λ v us from. then (next_values read n us from) (λ vs. got (v ∷ vs))) (only ts at) (λ v us from one.
    holds-then (OverValues x n us from) (OverValues x (suc n) ts at) (next_values read n us from) (λ vs. got (v ∷ vs))
    (over-values x read only n us from) (λ vs rest to two.
    (over-both x ts us at from _ _ _ _ rest to one two.0, ap (λ (k : ℕ). suc k) two.1)))

abbrev Pairs : Type 0
Pairs = List (Value × Value)

abbrev OverPairs : List ℕ → ℕ → Tokens → ℕ → Fact Pairs
OverPairs x n ts at ps rest to = Over x ts at (joined_pairs (map tokens_of_pair ps))
    (joined_pairs (map text_of_pair ps)) rest to × (length ps ≡ n)

over-pairs : (x : List ℕ) (read : Tokens → ℕ → Read Value) → ReadsOnly x read → (n : ℕ) (ts : Tokens) (at : ℕ)
    → Holds (OverPairs x n ts at) (next_pairs read n ts at)
over-pairs x read only zero ts at = (over-nothing x ts at, refl)
over-pairs x read only (suc n) ts at =
    holds-then (OverValue x ts at) (OverPairs x (suc n) ts at) (read ts at)
    (λ k us from. then (read us from) (λ v ws to. then (next_pairs read n ws to) (λ ps. got ((k, v) ∷ ps))))
    (only ts at) (λ k us from one.
    holds-then (OverValue x us from) (OverPairs x (suc n) ts at) (read us from)
    (λ v ws to. then (next_pairs read n ws to) (λ ps. got ((k, v) ∷ ps))) (only us from) (λ v ws to two.
    holds-then (OverPairs x n ws to) (OverPairs x (suc n) ts at) (next_pairs read n ws to) (λ ps. got ((k, v) ∷ ps))
    (over-pairs x read only n ws to) (λ ps rest end three. (
      over-both x ts us at from _ _ _ _ rest end one (over-both x us ws from to _ _ _ _ rest end two three.0),
      ap
          (λ (j : ℕ). suc j) three.1,
    ))))

-- ---- tokens

abbrev token : TokenKind → ℕ → ℤ → ℕ → Token
token k n z at = record { kind = k; size = n; number = z; start = at }

record IsNext (ts : Tokens) (at : ℕ) (t : Token) (us : Tokens) (from : ℕ) : Type 0 where
  tokens : ts ≡ token t.kind t.size t.number at ∷ us
  from_is : from ≡ at
  may : may_have t.kind t.size t.number ≡ true

holds-token : (ts : Tokens) (at : ℕ) → Holds (IsNext ts at) (next_token ts at)
holds-token [] at = tt
holds-token (t ∷ ts) at = holds-if (IsNext (t ∷ ts) at) ((t.start == at) && may_have t.kind t.size t.number)
    (got t ts at) (λ both.
    let parts = and_parts (t.start == at) (may_have t.kind t.size t.number) both in record {
      tokens = ap (λ (s : ℕ). token t.kind t.size t.number s ∷ ts) (eqb-true t.start at parts.0);
      from_is = refl;
      may = parts.1;
    })

-- a token without text, and what follows
over-begun : (x : List ℕ) (t : Token) (ts : Tokens) (at : ℕ) (us : Tokens) (u : List ℕ) (rest : Tokens) (to : ℕ)
    → bytes_of t ≡ 0 → Over x ts at us u rest to → Over x (record t { start = at } ∷ ts) at (t ∷ us) u rest to
over-begun x t ts at us u rest to none h = record {
  tokens = ap (λ (ws : Tokens). record t { start = at } ∷ ws)
      (h.tokens ∙ ap (λ (n : ℕ). placed n us ++ rest) (sym (ap (λ (n : ℕ). at + n) none ∙ add-zero at)));
  text = h.text;
  far = h.far;
  sized = ap (λ (n : ℕ). n + total us) none ∙ zero-add (total us) ∙ h.sized;
}

-- the same token, by other names of its numbers
over-same : (x : List ℕ) (k : TokenKind) (n m : ℕ) (z w : ℤ) (ts : Tokens) (at : ℕ) (us : Tokens) (u : List ℕ)
    (rest : Tokens) (to : ℕ) → n ≡ m → z ≡ w → Over x (token k m w at ∷ ts) at us u rest to
    → Over x (token k n z at ∷ ts) at us u rest to
over-same x k n m z w ts at us u rest to e f h = record {
  tokens = ap (λ (j : ℕ). token k j z at ∷ ts) e ∙ ap (λ (y : ℤ). token k m y at ∷ ts) f ∙ h.tokens;
  text = h.text;
  far = h.far;
  sized = h.sized;
}

abbrev tokens_form : Value-F Value → Tokens
tokens_form y = tokens_step (map-Value Value Tokens tokens_of y)

abbrev text_form : Value-F Value → List ℕ
text_form y = text_step (map-Value Value (List ℕ) text_of y)

-- a value by its layer
over-form : (x : List ℕ) (y : Value-F Value) (v : Value) (ts : Tokens) (at : ℕ) (rest : Tokens) (to : ℕ) → roll-Value y
    ≡ v → Over x ts at (tokens_form y) (text_form y) rest to → OverValue x ts at v rest to
over-form x y v ts at rest to rolled h =
    let tokens_are : tokens_form y ≡ tokens_of v = sym (fold-roll-Value Tokens tokens_step y) ∙ ap tokens_of rolled in
    let text_is : text_form y ≡ text_of v = sym (fold-roll-Value (List ℕ) text_step y) ∙ ap text_of rolled in
    subst (λ (us : Tokens). Over x ts at us (text_of v) rest to) tokens_are
    (subst (λ (u : List ℕ). Over x ts at (tokens_form y) u rest to) text_is h)

-- ---- leaves

record AreNext (x : List ℕ) (n : ℕ) (ts : Tokens) (at : ℕ) (u : List ℕ) (us : Tokens) (to : ℕ) : Type 0 where
  tokens : us ≡ ts
  far : to ≡ at + n
  size : length u ≡ n
  text : drop at x ≡ u ++ drop to x

bytes_then : (x : List ℕ) (at n : ℕ) → drop at x ≡ take n (drop at x) ++ drop (at + n) x
bytes_then x at n = sym (take-append-drop n (drop at x))
    ∙ ap (λ (y : List ℕ). take n (drop at x) ++ y) (drop-drop n at x)

as_many : (x : List ℕ) (at n : ℕ) → at + n ≤ length x → length (take n (drop at x)) ≡ n
as_many x at n fits = grind (arith, common_steps)

holds-bytes : (x : List ℕ) (n : ℕ) (ts : Tokens) (at : ℕ) → Holds (AreNext x n ts at) (next_bytes x n ts at)
holds-bytes x n ts at = holds-if (AreNext x n ts at) (nat_le (at + n) (length x)) (got (take n (drop at x)) ts (at + n))
    (λ inside.
    let fits : at + n ≤ length x = grind (arith, nat_tests) in record {
      tokens = refl;
      far = refl;
      size = as_many x at n fits;
      text = bytes_then x at n;
    })

over-leaf : (x : List ℕ) (k : TokenKind) (n : ℕ) (ts us : Tokens) (at to : ℕ) (u : List ℕ) → has_text k ≡ true
    → AreNext x n ts at u us to → Over x (token k n (pos 0) at ∷ ts) at (sized k (length u) ∷ []) u us to
over-leaf x k n ts us at to u all h = record {
  tokens = ap (λ (ws : Tokens). token k n (pos 0) at ∷ ws) (sym h.tokens)
      ∙ ap (λ (j : ℕ). token k j (pos 0) at ∷ us) (sym h.size);
  text = h.text;
  far = h.far ∙ ap (λ (j : ℕ). at + j) (sym h.size);
  sized = ap (λ (b : Bool). cond b (length u) 0 + 0) all ∙ add-zero (length u);
}

-- the value's one token and its bytes are these
record IsLeaf (k : TokenKind) (u : List ℕ) (v : Value) : Type 0 where
  tokens : tokens_of v ≡ sized k (length u) ∷ []
  text : text_of v ≡ u

leaf-form : (k : TokenKind) (u : List ℕ) (y : Value-F Value) (v : Value) → roll-Value y ≡ v → tokens_form y
    ≡ sized k (length (text_form y)) ∷ [] → text_form y ≡ u → IsLeaf k u v
leaf-form k u y v rolled tokens text = record {
  tokens = ap tokens_of (sym rolled) ∙ fold-roll-Value Tokens tokens_step y ∙ tokens
      ∙ ap (λ (w : List ℕ). sized k (length w) ∷ []) text;
  text = ap text_of (sym rolled) ∙ fold-roll-Value (List ℕ) text_step y ∙ text;
}

over-next_leaf : (x : List ℕ) (k : TokenKind) (n : ℕ) (z : ℤ) (ts : Tokens) (at : ℕ) → has_text k ≡ true
    → int_eq z (pos 0) ≡ true → ((u : List ℕ) (v : Value) → leaf_of k u ≡ Some v → IsLeaf k u v)
    → Holds (OverValue x (token k n z at ∷ ts) at) (next_leaf x k n ts at)
over-next_leaf x k n z ts at all zero_is leaf =
    let Q = OverValue x (token k n z at ∷ ts) at in
    holds-then (AreNext x n ts at) Q (next_bytes x n ts at) (λ bytes. made_of (leaf_of k bytes)) (holds-bytes x n ts at)
    (λ u us to next.
    holds-made Q (leaf_of k u) us to (λ v made.
    let its = leaf u v made in
    over-same x k n n z (pos 0) ts at (tokens_of v) (text_of v) us to refl ((signed_Decides z (pos 0)).0 zero_is)
    (subst (λ (ws : Tokens). Over x (token k n (pos 0) at ∷ ts) at ws (text_of v) us to) (sym its.tokens)
    (subst (λ (w : List ℕ). Over x (token k n (pos 0) at ∷ ts) at (sized k (length u) ∷ []) w us to) (sym its.text)
    (over-leaf x k n ts us at to u all next)))))

-- what was made is what there is
pub only-if : {A : Type 0} (b : Bool) (a c : A) → cond b (Some a) None ≡ Some c → a ≡ c
only-if true a c e = cc
only-if false a c e = absurd (cc)

simple-leaf : (u : List ℕ) (v : Value) → of_text SimpleString u ≡ Some v → IsLeaf kind.SimpleString u v
simple-leaf u v e = leaf-form kind.SimpleString u (Value-F.SimpleString u) v
    (rolls-SimpleString u ∙ only-if (is_utf8 u) (SimpleString u) v e) refl refl

bulk-leaf : (u : List ℕ) (v : Value) → Some (BulkString u) ≡ Some v → IsLeaf kind.BulkString u v
bulk-leaf u v e = leaf-form kind.BulkString u (Value-F.BulkString u) v
    (rolls-BulkString u ∙ only-if true (BulkString u) v e) refl refl

number-leaf : (u : List ℕ) (v : Value) → Some (BigNumber u) ≡ Some v → IsLeaf kind.BigNumber u v
number-leaf u v e = leaf-form kind.BigNumber u (Value-F.BigNumber u) v
    (rolls-BigNumber u ∙ only-if true (BigNumber u) v e) refl refl

double-leaf : (u : List ℕ) (v : Value) → of_text Double u ≡ Some v → IsLeaf kind.Double u v
double-leaf u v e = leaf-form kind.Double u (Value-F.Double u) v (rolls-Double u ∙ only-if (is_utf8 u) (Double u) v e)
    refl refl

error-leaf : (u : List ℕ) (v : Value) → of_text (λ text. ServerError (server_error text)) u ≡ Some v
    → IsLeaf kind.ServerError u v
error-leaf u v e = leaf-form kind.ServerError u (Value-F.ServerError (server_error u)) v
    (rolls-ServerError (server_error u) ∙ only-if (is_utf8 u) (ServerError (server_error u)) v e) refl (error_joined u)

-- a text that is cut is the format's name, the colon and the rest
pub text-joined : (u : List ℕ) → (position_or_len is_colon u == length u) ≡ false
    → verbatim_text (format_named (before_first is_colon u)) (after_first is_colon u) ≡ u
text-joined u is =
    let text = after_first is_colon u in
    let most = prefix_len-le-length (λ byte. not (is_colon byte)) u in
    let inside : position_or_len is_colon u < length u = grind (arith, nat_tests, most, is) in
    let colon = eqb-true _ _ (passes_at_first is_colon u 0 inside) in
    ap (λ (name : List ℕ). name ++ (58 ∷ text)) (name-format_named (before_first is_colon u))
    ∙ ap (λ (byte : ℕ). before_first is_colon u ++ (byte ∷ text)) (sym colon) ∙ sym (split_at_first is_colon u 0 inside)

cut-joined : (u : List ℕ) (v : Value) (none : Bool) → (position_or_len is_colon u == length u) ≡ none
    → cond none None (Some (VerbatimString (format_named (before_first is_colon u)) (after_first is_colon u))) ≡ Some v
    → IsLeaf kind.VerbatimString u v
cut-joined u v true is e = absurd (cc)
cut-joined u v false is e =
    let fmt = format_named (before_first is_colon u) in
    let text = after_first is_colon u in
    leaf-form kind.VerbatimString u (Value-F.VerbatimString fmt text) v
    (rolls-VerbatimString fmt text ∙ only-if true (VerbatimString fmt text) v e) refl (text-joined u is)

verbatim-leaf : (u : List ℕ) (v : Value) → cut_text u ≡ Some v → IsLeaf kind.VerbatimString u v
verbatim-leaf u v e = by (is_utf8 u) e
  where
    by : (b : Bool) → cond b (cut u) None ≡ Some v → IsLeaf kind.VerbatimString u v
    by true e = cut-joined u v (position_or_len is_colon u == length u) refl e
    by false e = absurd (cc)

-- ---- kinds of pushes

bulk-is : (k : TokenKind) → is_bulk k ≡ true → k ≡ kind.BulkString
bulk-is kind.BulkString e = refl
bulk-is kind.Nil e = absurd (cc)
bulk-is kind.Okay e = absurd (cc)
bulk-is kind.Int e = absurd (cc)
bulk-is kind.SimpleString e = absurd (cc)
bulk-is kind.Array e = absurd (cc)
bulk-is kind.Map e = absurd (cc)
bulk-is kind.Attribute e = absurd (cc)
bulk-is kind.ServerError e = absurd (cc)
bulk-is kind.Boolean e = absurd (cc)
bulk-is kind.Double e = absurd (cc)
bulk-is kind.BigNumber e = absurd (cc)
bulk-is kind.Set e = absurd (cc)
bulk-is kind.VerbatimString e = absurd (cc)
bulk-is kind.Push e = absurd (cc)

abbrev OverKind : List ℕ → Tokens → ℕ → Fact PushKind
OverKind x ts at k rest to = Over x ts at (sized kind.BulkString (length (name_of_push_kind k)) ∷ [])
    (name_of_push_kind k) rest to

over-kind : (x : List ℕ) (ts : Tokens) (at : ℕ) → Holds (OverKind x ts at) (next_kind x ts at)
over-kind x ts at =
    let Q = OverKind x ts at in
    holds-then (IsNext ts at) Q (next_token ts at)
    (λ t us from. cond (is_bulk t.kind)
    (then (next_bytes x t.size us from) (λ name. made_of (of_text kind_named name))) refused) (holds-token ts at)
    (λ t us from next.
    holds-if Q (is_bulk t.kind) (then (next_bytes x t.size us from) (λ name. made_of (of_text kind_named name)))
    (λ bulk.
    holds-then (AreNext x t.size us from) Q (next_bytes x t.size us from) (λ name. made_of (of_text kind_named name))
    (holds-bytes x t.size us from) (λ u ws to bytes.
    holds-made Q (of_text kind_named u) ws to (λ k made.
    let here : Over x (token kind.BulkString t.size (pos 0) from ∷ us) from (sized kind.BulkString (length u) ∷ []) u ws
    to = over-leaf x kind.BulkString t.size us ws from to u refl bytes in
    let named : u ≡ name_of_push_kind k = sym (name-kind_named u)
    ∙ ap name_of_push_kind (only-if (is_utf8 u) (kind_named u) k made) in
    let is : t.kind ≡ kind.BulkString = bulk-is t.kind bulk in
    let zero_is : t.number ≡ pos 0 = (signed_Decides t.number (pos 0)).0
    (sym (ap (λ (j : TokenKind). may_have j t.size t.number) is) ∙ next.may) in
    let front : ts ≡ token kind.BulkString t.size (pos 0) from ∷ us =
    next.tokens ∙ ap (λ (j : TokenKind). token j t.size t.number at ∷ us) is
    ∙ ap (λ (z : ℤ). token kind.BulkString t.size z at ∷ us) zero_is
    ∙ ap (λ (n : ℕ). token kind.BulkString t.size (pos 0) n ∷ us) (sym next.from_is) in
    subst (λ (ms : Tokens). OverKind x ms at k ws to) (sym front)
    (subst (λ (n : ℕ). OverKind x (token kind.BulkString t.size (pos 0) from ∷ us) n k ws to) next.from_is
    (subst (λ (w : List ℕ). Over x (token kind.BulkString t.size (pos 0) from ∷ us) from
    (sized kind.BulkString (length w) ∷ []) w ws to) named here))))))

-- ---- kind by kind

none-counted : (n : ℕ) (z : ℤ) (b : Bool) → ((n == 0) && b) ≡ true → (n ≡ 0) × (b ≡ true)
none-counted n z b h = let parts = and_parts (n == 0) b h in (eqb-true n 0 parts.0, parts.1)

truth-is : (z : ℤ) → (int_eq z (pos 0) || int_eq z (pos 1)) ≡ true → z ≡ truth_number (int_eq z (pos 1))
truth-is z h = by (int_eq z (pos 0)) (int_eq z (pos 1)) (signed_Decides z (pos 0)).0 (signed_Decides z (pos 1)).0 h
  where
    by : (a b : Bool) → (a ≡ true → z ≡ pos 0) → (b ≡ true → z ≡ pos 1) → (a || b) ≡ true → z ≡ truth_number b
    by a true e f h = f refl
    by true false e f h = e refl
    by false false e f h = absurd (cc)

-- a token without text, as the value's first
over-first : (x : List ℕ) (k : TokenKind) (n m : ℕ) (z w : ℤ) (ts us : Tokens) (at : ℕ) (u : List ℕ) (rest : Tokens)
    (to : ℕ) → has_text k ≡ false → n ≡ m → z ≡ w → Over x ts at us u rest to
    → Over x (token k n z at ∷ ts) at (token k m w 0 ∷ us) u rest to
over-first x k n m z w ts us at u rest to none e f h =
    over-same x k n m z w ts at _ _ rest to e f
    (over-begun x (token k m w 0) ts at us u rest to (ap (λ (b : Bool). cond b m 0) none) h)

zero-is : (z : ℤ) → int_eq z (pos 0) ≡ true → z ≡ pos 0
zero-is z h = (signed_Decides z (pos 0)).0 h

abbrev OverToken : List ℕ → TokenKind → ℕ → ℤ → Tokens → ℕ → Fact Value
OverToken x k n z ts at = OverValue x (token k n z at ∷ ts) at

-- elements that were counted are counted by their tokens' lists
sizes-same : {A B : Type 0} (f : A → B) (xs : List A) (n : ℕ) → length xs ≡ n → n ≡ length (map f xs)
sizes-same f xs n h = sym h ∙ sym (length-map xs f)

after : (x : List ℕ) (read : Tokens → ℕ → Read Value) → ReadsOnly x read
    → (k : TokenKind) (n : ℕ) (z : ℤ) (ts : Tokens) (at : ℕ) → may_have k n z ≡ true
    → Holds (OverToken x k n z ts at) (after_token read x k n z ts at)
after x read only kind.Nil n z ts at may =
    let its = none-counted n z (int_eq z (pos 0)) may in
    over-form x Value-F.Nil Nil _ at ts at rolls-Nil
    (over-first x kind.Nil n 0 z (pos 0) ts [] at [] ts at refl its.0 (zero-is z its.1) (over-nothing x ts at))
after x read only kind.Okay n z ts at may =
    let its = none-counted n z (int_eq z (pos 0)) may in
    over-form x Value-F.Okay Okay _ at ts at rolls-Okay
    (over-first x kind.Okay n 0 z (pos 0) ts [] at [] ts at refl its.0 (zero-is z its.1) (over-nothing x ts at))
after x read only kind.Int n z ts at may =
    over-form x (Value-F.Int z) (Int z) _ at ts at (rolls-Int z)
    (over-first x kind.Int n 0 z z ts [] at [] ts at refl (eqb-true n 0 may) refl (over-nothing x ts at))
after x read only kind.Boolean n z ts at may =
    let its = none-counted n z (int_eq z (pos 0) || int_eq z (pos 1)) may in
    let truth = int_eq z (pos 1) in
    over-form x (Value-F.Boolean truth) (Boolean truth) _ at ts at (rolls-Boolean truth)
    (over-first x kind.Boolean n 0 z (truth_number truth) ts [] at [] ts at refl its.0 (truth-is z its.1)
    (over-nothing x ts at))
after x read only kind.SimpleString n z ts at may = over-next_leaf x kind.SimpleString n z ts at refl may simple-leaf
after x read only kind.BulkString n z ts at may = over-next_leaf x kind.BulkString n z ts at refl may bulk-leaf
after x read only kind.ServerError n z ts at may = over-next_leaf x kind.ServerError n z ts at refl may error-leaf
after x read only kind.Double n z ts at may = over-next_leaf x kind.Double n z ts at refl may double-leaf
after x read only kind.BigNumber n z ts at may = over-next_leaf x kind.BigNumber n z ts at refl may number-leaf
after x read only kind.VerbatimString n z ts at may = over-next_leaf x kind.VerbatimString n z ts at refl may
    verbatim-leaf
after x read only kind.Array n z ts at may =
    holds-then (OverValues x n ts at) (OverToken x kind.Array n z ts at) (next_values read n ts at)
    (λ vs. got (Array vs)) (over-values x read only n ts at) (λ vs rest to h.
    over-form x (Value-F.Array vs) (Array vs) _ at rest to (rolls-Array vs)
    (over-first x kind.Array n (length (map tokens_of vs)) z (pos 0) ts _ at _ rest to refl
    (sizes-same tokens_of vs n h.1) (zero-is z may) h.0))
after x read only kind.Set n z ts at may =
    holds-then (OverValues x n ts at) (OverToken x kind.Set n z ts at) (next_values read n ts at) (λ vs. got (Set vs))
    (over-values x read only n ts at) (λ vs rest to h.
    over-form x (Value-F.Set vs) (Set vs) _ at rest to (rolls-Set vs)
    (over-first x kind.Set n (length (map tokens_of vs)) z (pos 0) ts _ at _ rest to refl
    (sizes-same tokens_of vs n h.1) (zero-is z may) h.0))
after x read only kind.Map n z ts at may =
    holds-then (OverPairs x n ts at) (OverToken x kind.Map n z ts at) (next_pairs read n ts at) (λ ps. got (Map ps))
    (over-pairs x read only n ts at) (λ ps rest to h.
    over-form x (Value-F.Map ps) (Map ps) _ at rest to (rolls-Map ps)
    (over-first x kind.Map n (length (map tokens_of_pair ps)) z (pos 0) ts _ at _ rest to refl
    (sizes-same tokens_of_pair ps n h.1) (zero-is z may) h.0))
after x read only kind.Attribute n z ts at may =
    holds-then (OverPairs x n ts at) (OverToken x kind.Attribute n z ts at) (next_pairs read n ts at)
    (λ ps us from. then (read us from) (λ v. got (Attribute v ps))) (over-pairs x read only n ts at)
    (λ ps us from one.
    holds-then (OverValue x us from) (OverToken x kind.Attribute n z ts at) (read us from) (λ v. got (Attribute v ps))
    (only us from) (λ v rest to two.
    over-form x (Value-F.Attribute v ps) (Attribute v ps) _ at rest to (rolls-Attribute v ps)
    (over-first x kind.Attribute n (length (map tokens_of_pair ps)) z (pos 0) ts _ at _ rest to refl
    (sizes-same tokens_of_pair ps n one.1) (zero-is z may)
    (over-both x ts us at from _ _ _ _ rest to one.0 two))))
after x read only kind.Push n z ts at may =
    let its = and_parts (not (n == 0)) (int_eq z (pos 0)) may in
    holds-then (OverKind x ts at) (OverToken x kind.Push n z ts at) (next_kind x ts at)
    (λ k us from. then (next_values read (n - 1) us from) (λ vs. got (Push k vs))) (over-kind x ts at)
    (λ k us from one.
    holds-then (OverValues x (n - 1) us from) (OverToken x kind.Push n z ts at) (next_values read (n - 1) us from)
    (λ vs. got (Push k vs)) (over-values x read only (n - 1) us from) (λ vs rest to two.
    over-form x (Value-F.Push k vs) (Push k vs) _ at rest to (rolls-Push k vs)
    (over-first x kind.Push n (suc (length (map tokens_of vs))) z (pos 0) ts _ at _ rest to refl
    (counted n its.0 ∙ ap (λ (j : ℕ). suc j) (sizes-same tokens_of vs (n - 1) two.1)) (zero-is z its.1)
    (over-both x ts us at from _ _ _ _ rest to one two.0))))
  where
    counted : (n : ℕ) → not (n == 0) ≡ true → n ≡ suc (n - 1)
    counted n some = grind (arith, nat_tests)

over-value : (x : List ℕ) (d : ℕ) → ReadsOnly x (next_value x d)
unfolding next_value
over-value x zero ts at = tt
over-value x (suc d) ts at =
    holds-then (IsNext ts at) (OverValue x ts at) (next_token ts at)
    (λ t. after_token (next_value x d) x t.kind t.size t.number) (holds-token ts at) (λ t us from next.
    subst (λ (n : ℕ). Holds (OverValue x ts at) (after_token (next_value x d) x t.kind t.size t.number us n))
    (sym next.from_is)
    (subst (λ (ms : Tokens). Holds (OverValue x ms at) (after_token (next_value x d) x t.kind t.size t.number us at))
    (sym next.tokens)
    (after x (next_value x d) (over-value x d) t.kind t.size t.number us at next.may)))

nothing-behind : (y : List ℕ) → drop (length y) y ≡ []
nothing-behind y = grind (arith, common_steps)

-- what is read of all tokens and all text is the value of which they are
pub whole-is : (d : ℕ) (ts : Tokens) (x : List ℕ) (v : Value) → whole (length x) (next_value x d ts 0) ≡ Some v
    → (ts ≡ placed 0 (tokens_of v)) × (x ≡ text_of v)
whole-is d ts x v read = by (next_value x d ts 0) (over-value x d ts 0) read
  where
    is-end : (w : Value) (b : Bool) → cond b (Some w) None ≡ Some v → (b ≡ true) × (w ≡ v)
    is-end w true e = (refl, cc)
    is-end w false e = absurd (cc)

    by : (r : Read Value) → Holds (OverValue x ts 0) r → whole (length x) r ≡ Some v → (ts ≡ placed 0 (tokens_of v))
        × (x ≡ text_of v)
    by refused h e = absurd (cc)
    by (got w (t ∷ us) to) h e = absurd (cc)
    by (got w [] to) h e =
        let its = is-end w (to == length x) e in
        let end : to ≡ length x = eqb-true to (length x) its.0 in (
          h.tokens ∙ append-nil (placed 0 (tokens_of w)) ∙ ap (λ (y : Value). placed 0 (tokens_of y)) its.1,
          h.text ∙ ap (λ (n : ℕ). text_of w ++ drop n x) end ∙ ap (λ (y : List ℕ). text_of w ++ y) (nothing-behind x)
              ∙ append-nil (text_of w) ∙ ap text_of its.1,
        )

-- what is read of a whole reply is the value whose flat form it is
pub read-flat : (d : ℕ) (reply : FlatReply) (ts : Tokens) (x : List ℕ) (v : Value) → ts ≡ reply.tokens.items → x
    ≡ reply.text.items → whole (length x) (next_value x d ts 0) ≡ Some v → IsFlatOf reply v
read-flat d reply ts x v tokens text read =
    let is = whole-is d ts x v read in record { tokens = sym tokens ∙ is.0; text = sym text ∙ is.1 }

-- what is read from a token on is shown there
pub read-shown : (d : ℕ) (t : Token) (ts : Tokens) (x : List ℕ) (v : Value) → value_from x d t ts ≡ Some v
    → IsShownIn (t ∷ ts, x) v
read-shown d t ts x v read = within (nat_le t.start (length x)) refl read
  where
    before-is : t.start ≤ length x → length (take t.start x) ≡ t.start
    before-is fits = grind (arith, common_steps)

    by : (r : Read Value) → Holds (OverValue x (t ∷ ts) t.start) r → t.start ≤ length x → first_of r ≡ Some v
        → IsShownIn (t ∷ ts, x) v
    by refused h fits e = absurd (cc)
    by (got w rest to) h fits e =
        let same : w ≡ v = cc in
        let n = before-is fits in
        subst (λ (y : Value). IsShownIn (t ∷ ts, x) y) same record {
          before = take t.start x;
          after = drop to x;
          rest = rest;
          tokens = h.tokens ∙ ap (λ (k : ℕ). placed k (tokens_of w) ++ rest) (sym n);
          text = sym (take-append-drop t.start x) ∙ ap (λ (y : List ℕ). take t.start x ++ y) h.text;
        }

    within : (b : Bool) → nat_le t.start (length x) ≡ b → cond b (first_of (next_value x d (t ∷ ts) t.start)) None
        ≡ Some v → IsShownIn (t ∷ ts, x) v
    within true e is = by (next_value x d (t ∷ ts) t.start) (over-value x d (t ∷ ts) t.start)
        (grind (arith, nat_tests, e)) is
    within false e is = absurd (cc)
