-- What is read of tokens and a text is readable.
use Rattle.std.proofs.Common.{◌≡◌, ℕ, zero, suc, ◌-◌, ◌==◌, nat_le, Bool, true, false, cond, List, [], ◌∷◌, length}
use Rattle.std.proofs.Common.{refl, sym, ap, subst, ◌∙◌, Option, Some, None, ℤ, pos, arith}
use Rattle.std.specs.Ordering.{int_eq}
use Rattle.std.specs.List.{All, position_or_len, before_first, after_first}
use Rattle.std.specs.Str.{IsUtf8, is_utf8}
use Rattle.std.proofs.lemmas.Str.{IsUtf8-from_is_utf8}
use Rattle.resp_value.specs.declared.value.Value.{Value, Nil, Okay, Int, SimpleString, BulkString, Array, Map}
use Rattle.resp_value.specs.declared.value.Value.{Attribute, ServerError, Boolean, Double, BigNumber, Set}
use Rattle.resp_value.specs.declared.value.Value.{VerbatimString, Push, roll-Value, out-Value, out-roll-Value}
use Rattle.resp_value.specs.declared.value.Value.TheVariants.{rolls-Nil, rolls-Okay, rolls-Int, rolls-SimpleString}
use Rattle.resp_value.specs.declared.value.Value.TheVariants.{rolls-BulkString, rolls-Array, rolls-Map, rolls-Attribute}
use Rattle.resp_value.specs.declared.value.Value.TheVariants.{rolls-ServerError, rolls-Boolean, rolls-Double}
use Rattle.resp_value.specs.declared.value.Value.TheVariants.{rolls-BigNumber, rolls-Set, rolls-VerbatimString}
use Rattle.resp_value.specs.declared.value.Value.TheVariants.{rolls-Push}
use Rattle.resp_value.specs.declared.value.Value.TheOpen.{Value-F}
use Rattle.resp_value.specs.declared.names.PushKind.{PushKind}
use Rattle.resp_value.specs.Names.{kind_named, format_named}
use Rattle.resp_errors.specs.ServerErrors.{server_error}
use Rattle.resp_flat.specs.declared.token.Token.{Token}
use Rattle.resp_flat.specs.declared.token.TokenKind.{TokenKind}
use Rattle.resp_flat.specs.declared.token.TokenKind.TheVariants as kind
use Rattle.resp_flat.specs.Reading.{Read, refused, got, then, made_of, next_token, next_bytes, of_text, is_colon}
use Rattle.resp_flat.specs.Reading.{cut_text, leaf_of, next_leaf, is_bulk, next_kind, next_values, next_pairs}
use Rattle.resp_flat.specs.Reading.{after_token, next_value, whole, first_of, value_from}
use Rattle.resp_flat.specs.Readable.{HasOwnName, BothAre, IsReadableLayer, IsReadable}
use Rattle.resp_flat.proofs.ReadsOnly.{Tokens, Fact, Holds, holds-then, holds-if, holds-made, only-if}
use Rattle.resp_flat.proofs.ReadableParts.{own-text, own-name, own-format}

-- ---- lists

all-more : {X : Type 0} (P : X → Type 0) (x : X) (xs : List X) → P x → All P xs → All P (x ∷ xs)
all-more P x xs first others zero y below = first
all-more P x xs first others (suc k) y below = others k y (omega arith)

all-none : {X : Type 0} (P : X → Type 0) → All P []
all-none P k y below = absurd (omega arith)

-- whatever follows
abbrev Always : {A : Type 0} → Fact A
Always a ts at = Unit {0}

always : {A : Type 0} (r : Read A) → Holds Always r
always refused = tt
always (got a ts at) = tt

module _ (P : Value → Type 0) (read : Tokens → ℕ → Read Value)
    (good : (ts : Tokens) (at : ℕ) → Holds (λ v us to. P v) (read ts at)) where
  all-values : (n : ℕ) (ts : Tokens) (at : ℕ) → Holds (λ vs us to. All P vs) (next_values read n ts at)
  all-values zero ts at = all-none P
  all-values (suc n) ts at =
      holds-then (λ v us to. P v) (λ vs us to. All P vs) (read ts at)
      (λ v us from. then (next_values read n us from) (λ vs. got (v ∷ vs))) (good ts at) (λ v us from one.
      holds-then (λ vs us to. All P vs) (λ vs us to. All P vs) (next_values read n us from) (λ vs. got (v ∷ vs))
      (all-values n us from) (λ vs ws to others. all-more P v vs one others))

  all-pairs : (n : ℕ) (ts : Tokens) (at : ℕ) → Holds (λ ps us to. All (BothAre P) ps) (next_pairs read n ts at)
  all-pairs zero ts at = all-none (BothAre P)
  all-pairs (suc n) ts at =
      holds-then (λ v us to. P v) (λ ps us to. All (BothAre P) ps) (read ts at)
      (λ k us from. then (read us from) (λ v ws to. then (next_pairs read n ws to) (λ ps. got ((k, v) ∷ ps))))
      (good ts at) (λ k us from key.
      holds-then (λ v us to. P v) (λ ps us to. All (BothAre P) ps) (read us from)
      (λ v ws to. then (next_pairs read n ws to) (λ ps. got ((k, v) ∷ ps))) (good us from) (λ v ws to value.
      holds-then (λ ps us to. All (BothAre P) ps) (λ ps us to. All (BothAre P) ps) (next_pairs read n ws to)
      (λ ps. got ((k, v) ∷ ps)) (all-pairs n ws to) (λ ps rest end others.
      all-more (BothAre P) (k, v) ps (key, value) others)))

  abbrev Fine : Value → Type 0
  Fine v = IsReadableLayer P (out-Value v)

  at : (y : Value-F Value) (v : Value) → roll-Value y ≡ v → IsReadableLayer P y → Fine v
  at y v e h = subst (λ z. IsReadableLayer P z) (sym (ap out-Value (sym e) ∙ out-roll-Value y)) h

  -- ---- leaves

  text-fine : {A : Type 0} (make : List ℕ → A) (Q : A → Type 0) (u : List ℕ) (a : A) → (IsUtf8 u → Q (make u))
      → of_text make u ≡ Some a → Q a
  text-fine make Q u a good e = by (is_utf8 u) refl e
    where
      by : (b : Bool) → is_utf8 u ≡ b → cond b (Some (make u)) None ≡ Some a → Q a
      by true h i = subst Q (only-if true (make u) a i) (good (IsUtf8-from_is_utf8 u h))
      by false h i = absurd (cc)

  cut-fine : (u : List ℕ) (v : Value) → cut_text u ≡ Some v → Fine v
  cut-fine u v e = by (is_utf8 u) (position_or_len is_colon u == length u) refl refl e
    where
      by : (b none : Bool) → is_utf8 u ≡ b → (position_or_len is_colon u == length u) ≡ none
          → cond b (cond none None
          (Some (VerbatimString (format_named (before_first is_colon u)) (after_first is_colon u)))) None ≡ Some v
          → Fine v
      by true false h is i =
          let fmt = format_named (before_first is_colon u) in
          let text = after_first is_colon u in
          subst Fine (only-if true (VerbatimString fmt text) v i)
          (at (Value-F.VerbatimString fmt text) (VerbatimString fmt text) (rolls-VerbatimString fmt text)
          (own-format u (IsUtf8-from_is_utf8 u h) is))
      by true true h is i = absurd (cc)
      by false none h is i = absurd (cc)

  leaf-fine : (k : TokenKind) (u : List ℕ) (v : Value) → leaf_of k u ≡ Some v → Fine v
  leaf-fine kind.SimpleString u v e = text-fine SimpleString Fine u v
      (λ utf8. at (Value-F.SimpleString u) (SimpleString u) (rolls-SimpleString u) utf8) e
  leaf-fine kind.BulkString u v e = subst Fine (only-if true (BulkString u) v e)
      (at (Value-F.BulkString u) (BulkString u) (rolls-BulkString u) tt)
  leaf-fine kind.ServerError u v e = text-fine (λ text. ServerError (server_error text)) Fine u v
      (λ utf8. at (Value-F.ServerError (server_error u)) (ServerError (server_error u))
      (rolls-ServerError (server_error u)) (own-text u utf8)) e
  leaf-fine kind.Double u v e = text-fine Double Fine u v
      (λ utf8. at (Value-F.Double u) (Double u) (rolls-Double u) utf8) e
  leaf-fine kind.BigNumber u v e = subst Fine (only-if true (BigNumber u) v e)
      (at (Value-F.BigNumber u) (BigNumber u) (rolls-BigNumber u) tt)
  leaf-fine kind.VerbatimString u v e = cut-fine u v e
  leaf-fine _ u v e = absurd (cc)

  next_leaf-fine : (x : List ℕ) (k : TokenKind) (n : ℕ) (ts : Tokens) (at : ℕ)
      → Holds (λ v us to. Fine v) (next_leaf x k n ts at)
  next_leaf-fine x k n ts at = holds-then Always (λ v us to. Fine v) (next_bytes x n ts at)
      (λ bytes. made_of (leaf_of k bytes)) (always (next_bytes x n ts at)) (λ u us to any.
      holds-made (λ v us to. Fine v) (leaf_of k u) us to (λ v made. leaf-fine k u v made))

  kind-fine : (x : List ℕ) (ts : Tokens) (at : ℕ) → Holds (λ k us to. HasOwnName k) (next_kind x ts at)
  kind-fine x ts at =
      let Q = λ (k : PushKind) (us : Tokens) (to : ℕ). HasOwnName k in
      holds-then Always Q (next_token ts at)
      (λ t us from. cond (is_bulk t.kind)
      (then (next_bytes x t.size us from) (λ name. made_of (of_text kind_named name))) refused)
      (always (next_token ts at)) (λ t us from any.
      holds-if Q (is_bulk t.kind) (then (next_bytes x t.size us from) (λ name. made_of (of_text kind_named name)))
      (λ bulk.
      holds-then Always Q (next_bytes x t.size us from) (λ name. made_of (of_text kind_named name))
      (always (next_bytes x t.size us from)) (λ u ws to all.
      holds-made Q (of_text kind_named u) ws to
      (λ k made. text-fine kind_named HasOwnName u k (λ utf8. own-name u utf8) made))))

  -- ---- kind by kind

  abbrev Finds : TokenKind → List ℕ → ℕ → ℤ → Tokens → ℕ → Type 0
  Finds k x n z ts from = Holds (λ v us to. Fine v) (after_token read x k n z ts from)

  token-fine : (k : TokenKind) (x : List ℕ) (n : ℕ) (z : ℤ) (ts : Tokens) (from : ℕ) → Finds k x n z ts from
  token-fine kind.Nil x n z ts from = at Value-F.Nil Nil rolls-Nil tt
  token-fine kind.Okay x n z ts from = at Value-F.Okay Okay rolls-Okay tt
  token-fine kind.Int x n z ts from = at (Value-F.Int z) (Int z) (rolls-Int z) tt
  token-fine kind.Boolean x n z ts from = at (Value-F.Boolean (int_eq z (pos 1))) (Boolean (int_eq z (pos 1)))
      (rolls-Boolean (int_eq z (pos 1))) tt
  token-fine kind.Array x n z ts from = holds-then (λ vs us to. All P vs) (λ v us to. Fine v)
      (next_values read n ts from) (λ vs. got (Array vs)) (all-values n ts from) (λ vs us to all.
      at (Value-F.Array vs) (Array vs) (rolls-Array vs) all)
  token-fine kind.Set x n z ts from = holds-then (λ vs us to. All P vs) (λ v us to. Fine v) (next_values read n ts from)
      (λ vs. got (Set vs)) (all-values n ts from) (λ vs us to all.
      at (Value-F.Set vs) (Set vs) (rolls-Set vs) all)
  token-fine kind.Map x n z ts from = holds-then (λ ps us to. All (BothAre P) ps) (λ v us to. Fine v)
      (next_pairs read n ts from) (λ ps. got (Map ps)) (all-pairs n ts from) (λ ps us to all.
      at (Value-F.Map ps) (Map ps) (rolls-Map ps) all)
  token-fine kind.Attribute x n z ts from = holds-then (λ ps us to. All (BothAre P) ps) (λ v us to. Fine v)
      (next_pairs read n ts from) (λ ps us from. then (read us from) (λ v. got (Attribute v ps))) (all-pairs n ts from)
      (λ ps us to all.
      holds-then (λ v us to. P v) (λ v us to. Fine v) (read us to) (λ v. got (Attribute v ps)) (good us to)
      (λ v ws end one.
      at (Value-F.Attribute v ps) (Attribute v ps) (rolls-Attribute v ps) (one, all)))
  token-fine kind.Push x n z ts from = holds-then (λ k us to. HasOwnName k) (λ v us to. Fine v) (next_kind x ts from)
      (λ k us from. then (next_values read (n - 1) us from) (λ vs. got (Push k vs))) (kind-fine x ts from)
      (λ k us to own.
      holds-then (λ vs us to. All P vs) (λ v us to. Fine v) (next_values read (n - 1) us to) (λ vs. got (Push k vs))
      (all-values (n - 1) us to) (λ vs ws end all.
      at (Value-F.Push k vs) (Push k vs) (rolls-Push k vs) (own, all)))
  token-fine kind.SimpleString x n z ts from = next_leaf-fine x kind.SimpleString n ts from
  token-fine kind.BulkString x n z ts from = next_leaf-fine x kind.BulkString n ts from
  token-fine kind.ServerError x n z ts from = next_leaf-fine x kind.ServerError n ts from
  token-fine kind.Double x n z ts from = next_leaf-fine x kind.Double n ts from
  token-fine kind.BigNumber x n z ts from = next_leaf-fine x kind.BigNumber n ts from
  token-fine kind.VerbatimString x n z ts from = next_leaf-fine x kind.VerbatimString n ts from

read-readable : (x : List ℕ) (d : ℕ) (ts : Tokens) (at : ℕ) → Holds (λ v us to. IsReadable d v) (next_value x d ts at)
unfolding next_value IsReadable
read-readable x zero ts at = tt
read-readable x (suc d) ts at =
    holds-then Always (λ v us to. IsReadable (suc d) v) (next_token ts at)
    (λ t. after_token (next_value x d) x t.kind t.size t.number) (always (next_token ts at)) (λ t us from any.
    token-fine (IsReadable d) (next_value x d) (read-readable x d) t.kind x t.size t.number us from)

pub whole-readable : (x : List ℕ) (d size : ℕ) (ts : Tokens) (v : Value) → whole size (next_value x d ts 0) ≡ Some v
    → IsReadable d v
whole-readable x d size ts v e = by (next_value x d ts 0) (read-readable x d ts 0) e
  where
    by : (r : Read Value) → Holds (λ v us to. IsReadable d v) r → whole size r ≡ Some v → IsReadable d v
    by refused h i = absurd (cc)
    by (got w (t ∷ us) to) h i = absurd (cc)
    by (got w [] to) h i = subst (IsReadable d) (only-if (to == size) w v i) h

pub from-readable : (x : List ℕ) (d : ℕ) (t : Token) (ts : Tokens) (v : Value) → value_from x d t ts ≡ Some v
    → IsReadable d v
from-readable x d t ts v e = by (next_value x d (t ∷ ts) t.start) (read-readable x d (t ∷ ts) t.start)
    (only-some (nat_le t.start (length x)) (first_of (next_value x d (t ∷ ts) t.start)) e)
  where
    only-some : (b : Bool) (o : Option Value) → cond b o None ≡ Some v → o ≡ Some v
    only-some true o i = i
    only-some false o i = absurd (cc)

    by : (r : Read Value) → Holds (λ v us to. IsReadable d v) r → first_of r ≡ Some v → IsReadable d v
    by refused h i = absurd (cc)
    by (got w us to) h i = subst (IsReadable d) (only-if true w v i) h
