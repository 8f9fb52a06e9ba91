-- A value's tokens and text are read as the value.
use Rattle.std.proofs.Common.{◌≡◌, ℕ, zero, suc, ◌+◌, ◌-◌, ◌≤◌, ◌==◌, ◌&&◌, nat_le, Bool, true, false, cond, not, List}
use Rattle.std.proofs.Common.{[], ◌∷◌, ◌++◌, length, map, take, drop, refl, sym, ap, subst, ◌∙◌, append_assoc}
use Rattle.std.proofs.Common.{append-nil, add-zero, zero-add, arith, Some, None, Option, Err, ℤ, pos}
use Rattle.std.specs.List.{All, position_or_len, before_first, after_first}
use Rattle.std.specs.Str.{IsUtf8}
use Rattle.std.proofs.lemmas.Str.{is_utf8-from_IsUtf8}
use Rattle.std.proofs.lemmas.Grind.{common_steps}
use Rattle.std.proofs.lemmas.List.{length-append, length-map}
use Rattle.std.proofs.lemmas.Bool.Decides.{nat_tests}
use Rattle.std.proofs.lemmas.List.Sums.{prefix_len-le-length}
use Rattle.resp_value.specs.declared.value.Value.{Value, Nil, Okay, Int, SimpleString, BulkString, Array, Map}
use Rattle.resp_value.specs.declared.value.Value.{Attribute, ServerError, Boolean, Double, BigNumber, Set}
use Rattle.resp_value.specs.declared.value.Value.{VerbatimString, Push, out-Value, roll-Value, roll-out-Value}
use Rattle.resp_value.specs.declared.value.Value.{map-Value, fold-roll-Value}
use Rattle.resp_value.specs.declared.value.Value.TheVariants.{rolls-Nil, rolls-Okay, rolls-Int, rolls-SimpleString}
use Rattle.resp_value.specs.declared.value.Value.TheVariants.{rolls-BulkString, rolls-Array, rolls-Map, rolls-Attribute}
use Rattle.resp_value.specs.declared.value.Value.TheVariants.{rolls-ServerError, rolls-Boolean, rolls-Double}
use Rattle.resp_value.specs.declared.value.Value.TheVariants.{rolls-BigNumber, rolls-Set, rolls-VerbatimString}
use Rattle.resp_value.specs.declared.value.Value.TheVariants.{rolls-Push}
use Rattle.resp_value.specs.declared.value.Value.TheOpen.{Value-F}
use Rattle.resp_value.specs.declared.names.PushKind.{PushKind}
use Rattle.resp_value.specs.declared.names.VerbatimFormat.{VerbatimFormat}
use Rattle.resp_value.specs.Names.{kind_named, name_of_push_kind, format_named, name_of_format}
use Rattle.resp_errors.specs.ServerErrors.{server_error, text_of as error_text}
use Rattle.resp_flat.specs.declared.flat_reply.FlatReply.{FlatReply}
use Rattle.resp_errors.specs.declared.redis_error.RedisError.{RedisError}
use Rattle.resp_errors.specs.declared.redis_error.RedisError.TheVariants.{OutOfMemory}
use Rattle.resp_flat.specs.declared.flat_error.FlatError.{FlatError}
use Rattle.resp_flat.specs.declared.flat_error.FlatError.TheVariants.{Memory, NotReply}
use Rattle.resp_flat.specs.Refusals.{RefusalFor}
use Rattle.resp_flat.specs.declared.token.Token.{Token}
use Rattle.resp_flat.specs.declared.token.TokenKind.{TokenKind}
use Rattle.resp_flat.specs.declared.token.TokenKind.TheVariants as kind
use Rattle.resp_flat.specs.FlatReplies.{sized, numbered, has_text, bytes_of, placed, joined, joined_pairs}
use Rattle.resp_flat.specs.FlatReplies.{verbatim_text, tokens_step, tokens_of, text_step, text_of, tokens_of_pair}
use Rattle.resp_flat.specs.FlatReplies.{text_of_pair, IsFlatOf}
use Rattle.resp_flat.specs.Reading.{Read, refused, got, then, made_of, may_have, next_token, next_bytes, of_text}
use Rattle.resp_flat.specs.Reading.{is_colon, cut, cut_text, leaf_of, is_bulk, next_kind, next_values, next_pairs}
use Rattle.resp_flat.specs.Reading.{next_attribute, next_push, after_token, next_value, whole, Makes}
use Rattle.resp_flat.specs.Readable.{HasOwnName, HasOwnFormat, BothAre, IsReadableLayer, IsReadable}
use Rattle.resp_flat.proofs.TokenSizes.{total, total-append, placed-append}

abbrev Tokens : Type 0
Tokens = List Token

abbrev Reader : Type 0 → Type 0
Reader A = List ℕ → Tokens → ℕ → Read A

-- wherever these tokens and this text stand, the reader reads this of them and stops behind them
pub record Finds {A : Type 0} (read : Reader A) (ts : Tokens) (t : List ℕ) (a : A) : Type 0 where
  pub sized : total ts ≡ length t
  pub reads : (before after : List ℕ) (rest : Tokens) →
      read (before ++ (t ++ after)) (placed (length before) ts ++ rest) (length before)
      ≡ got a rest (length before + length t)

-- nothing
finds-nothing : {A : Type 0} (a : A) → Finds (λ x. got a) [] [] a
finds-nothing a = record
    { sized = refl; reads = λ before after rest. ap (λ (n : ℕ). got a rest n) (sym (add-zero (length before))) }

-- one thing after another
finds-then : {A B : Type 0} (r : Reader A) (f : A → Reader B) (ts us : Tokens) (t u : List ℕ) (a : A) (b : B)
    → Finds r ts t a → Finds (f a) us u b
    → Finds (λ x ms at. then (r x ms at) (λ a. f a x)) (ts ++ us) (t ++ u) b
finds-then r f ts us t u a b first second = record {
  sized = total-append ts us ∙ ap (λ (n : ℕ). n + total us) first.sized ∙ ap (λ (n : ℕ). length t + n) second.sized
      ∙ sym (length-append t u);
  reads = λ before after rest.
      let x = before ++ ((t ++ u) ++ after) in
      let n = length before in
      let ms = placed n (ts ++ us) ++ rest in
      let others = placed (length (before ++ t)) us ++ rest in
      let whole : x ≡ before ++ (t ++ (u ++ after)) = ap (λ (y : List ℕ). before ++ y) (append_assoc t u after) in
      let again : x ≡ (before ++ t) ++ (u ++ after) = whole ∙ sym (append_assoc before t (u ++ after)) in
      let far : length (before ++ t) ≡ n + length t = length-append before t in
      let tokens : ms ≡ placed n ts ++ others =
      ap (λ (ws : Tokens). ws ++ rest) (placed-append n ts us)
      ∙ append_assoc (placed n ts) (placed (n + total ts) us) rest
      ∙ ap (λ (k : ℕ). placed n ts ++ (placed (n + k) us ++ rest)) first.sized
      ∙ ap (λ (k : ℕ). placed n ts ++ (placed k us ++ rest)) (sym far) in
      let one : r x ms n ≡ got a others (n + length t) =
      ap (λ (ws : Tokens). r x ws n) tokens ∙ ap (λ (y : List ℕ). r y (placed n ts ++ others) n) whole
      ∙ first.reads before (u ++ after) others in
      let two : f a x others (n + length t) ≡ got b rest (n + length (t ++ u)) =
      ap (λ (k : ℕ). f a x others k) (sym far) ∙ ap (λ (y : List ℕ). f a y others (length (before ++ t))) again
      ∙ second.reads (before ++ t) after rest
      ∙ ap (λ (k : ℕ). got b rest k) (omega (arith, length-append before t, length-append t u)) in
      ap (λ (o : Read _). then o (λ a. f a x)) one ∙ two;
}

-- something is made of what is read
finds-made : {A B : Type 0} (f : A → B) (r : Reader A) (ts : Tokens) (t : List ℕ) (a : A) → Finds r ts t a
    → Finds (λ x ms at. then (r x ms at) (λ a. got (f a))) ts t (f a)
finds-made f r ts t a h = record {
  sized = h.sized;
  reads = λ before after rest. ap (λ (o : Read _). then o (λ a. got (f a)))
      (h.reads before after rest);
}

-- ---- a token, and what follows

abbrev Follows : Type 0 → Type 0
Follows A = List ℕ → TokenKind → ℕ → ℤ → Tokens → ℕ → Read A

abbrev begins : {A : Type 0} → Follows A → Reader A
begins f x ts at = then (next_token ts at) (λ t. f x t.kind t.size t.number)

same : (n : ℕ) → (n == n) ≡ true
same n = grind (arith, nat_tests)

-- the token is there
token-next : (t : Token) (n : ℕ) (ms : Tokens) → may_have t.kind t.size t.number ≡ true
    → next_token (record t { start = n } ∷ ms) n ≡ got (record t { start = n }) ms n
token-next t n ms may =
    ap (λ (b : Bool). cond (b && may_have t.kind t.size t.number) (got (record t { start = n }) ms n) refused) (same n)
    ∙ ap (λ (b : Bool). cond b (got (record t { start = n }) ms n) refused) may

finds-begun : {A : Type 0} (f : Follows A) (t : Token) (us : Tokens) (u : List ℕ) (a : A)
    → may_have t.kind t.size t.number ≡ true → bytes_of t ≡ 0
    → Finds (λ x. f x t.kind t.size t.number) us u a → Finds (begins f) (t ∷ us) u a
finds-begun f t us u a may none h = record {
  sized = ap (λ (n : ℕ). n + total us) none ∙ zero-add (total us) ∙ h.sized;
  reads = λ before after rest.
      let n = length before in
      let x = before ++ (u ++ after) in
      ap (λ (o : Read Token). then o (λ t. f x t.kind t.size t.number))
      (token-next t n (placed (n + bytes_of t) us ++ rest) may)
      ∙ ap (λ (k : ℕ). f x t.kind t.size t.number (placed (n + k) us ++ rest) n) none
      ∙ ap (λ (k : ℕ). f x t.kind t.size t.number (placed k us ++ rest) n) (add-zero n)
      ∙ h.reads before after rest;
}

pub inside : (before u after : List ℕ) → nat_le (length before + length u) (length (before ++ (u ++ after))) ≡ true
inside before u after =
    let e : length (before ++ (u ++ after)) ≡ length before + (length u + length after) = length-append before
    (u ++ after) ∙ ap (λ (n : ℕ). length before + n) (length-append u after) in
    rw e (grind (arith, nat_tests))

pub its_bytes : (before u after : List ℕ) → take (length u) (drop (length before) (before ++ (u ++ after))) ≡ u
its_bytes before u after = grind (arith, common_steps)

-- the bytes are there
bytes-next : (before u after : List ℕ) (rest : Tokens)
    → next_bytes (before ++ (u ++ after)) (length u) rest (length before) ≡ got u rest (length before + length u)
bytes-next before u after rest =
    ap (λ (b : Bool). cond b
    (got (take (length u) (drop (length before) (before ++ (u ++ after)))) rest (length before + length u)) refused)
    (inside before u after)
    ∙ ap (λ (y : List ℕ). got y rest (length before + length u)) (its_bytes before u after)

finds-leaf : {A : Type 0} (f : Follows A) (make : List ℕ → Option A) (k : TokenKind) (u : List ℕ) (a : A)
    → may_have k (length u) (pos 0) ≡ true → has_text k ≡ true → make u ≡ Some a
    → ((x : List ℕ) (ts : Tokens) (at : ℕ) → f x k (length u) (pos 0) ts at
    ≡ then (next_bytes x (length u) ts at) (λ bytes. made_of (make bytes)))
    → Finds (begins f) (sized k (length u) ∷ []) u a
finds-leaf f make k u a may all made is = record {
  sized = ap (λ (b : Bool). cond b (length u) 0 + 0) all ∙ add-zero (length u);
  reads = λ before after rest.
      let n = length before in
      let x = before ++ (u ++ after) in
      ap (λ (o : Read Token). then o (λ t. f x t.kind t.size t.number)) (token-next (sized k (length u)) n rest may)
      ∙ is x rest n ∙ ap (λ (o : Read (List ℕ)). then o (λ bytes. made_of (make bytes)))
      (bytes-next before u after rest)
      ∙ ap (λ (o : Option _). made_of o rest (n + length u)) made;
}

-- ---- kind by kind

abbrev reads_value : ℕ → Reader Value
reads_value d x = next_value x d

abbrev follows : ℕ → Follows Value
follows d x = after_token (next_value x d) x

abbrev Found : ℕ → Value → Type 0
Found d v = Finds (reads_value d) (tokens_of v) (text_of v) v

abbrev FindsAll : ℕ → Type 0
FindsAll d = (v : Value) → IsReadable d v → Found d v

rest-all : {X : Type 0} (P : X → Type 0) (x : X) (xs : List X) → All P (x ∷ xs) → P x × All P xs
rest-all P x xs all = (all 0 x (omega arith), λ k y below. all (suc k) y (omega arith))

finds-values : (d : ℕ) → FindsAll d → (vs : List Value) → All (IsReadable d) vs
    → Finds (λ x. next_values (next_value x d) (length vs)) (joined (map tokens_of vs)) (joined (map text_of vs)) vs
finds-values d finds [] all = finds-nothing []
finds-values d finds (v ∷ vs) all =
    let each = rest-all (IsReadable d) v vs all in
    finds-then (reads_value d)
    (λ w x us from. then (next_values (next_value x d) (length vs) us from) (λ ws. got (w ∷ ws))) _ _ _ _ v (v ∷ vs)
    (finds v each.0)
    (finds-made (λ ws. v ∷ ws) (λ x. next_values (next_value x d) (length vs)) _ _ vs (finds-values d finds vs each.1))

abbrev Pairs : Type 0
Pairs = List (Value × Value)

finds-pairs : (d : ℕ) → FindsAll d → (ps : Pairs) → All (BothAre (IsReadable d)) ps
    → Finds (λ x. next_pairs (next_value x d) (length ps)) (joined_pairs (map tokens_of_pair ps))
    (joined_pairs (map text_of_pair ps)) ps
finds-pairs d finds [] all = finds-nothing []
finds-pairs d finds (p ∷ ps) all =
    let each = rest-all (BothAre (IsReadable d)) p ps all in
    let pairs = λ (x : List ℕ). next_pairs (next_value x d) (length ps) in
    finds-then (reads_value d)
    (λ k x us from. then (next_value x d us from)
    (λ v ws to. then (next_pairs (next_value x d) (length ps) ws to) (λ qs. got ((k, v) ∷ qs)))) _ _ _ _ p.0
    (p ∷ ps) (finds p.0 each.0.0)
    (finds-then (reads_value d)
    (λ v x ws to. then (next_pairs (next_value x d) (length ps) ws to) (λ qs. got ((p.0, v) ∷ qs))) _ _ _ _ p.1
    (p ∷ ps) (finds p.1 each.0.1)
    (finds-made (λ qs. p ∷ qs) pairs _ _ ps (finds-pairs d finds ps each.1)))

-- the name of a kind
finds-kind : (k : PushKind) → HasOwnName k
    → Finds next_kind (sized kind.BulkString (length (name_of_push_kind k)) ∷ []) (name_of_push_kind k) k
finds-kind k named =
    let name = name_of_push_kind k in
    finds-leaf (λ x t n z us from. cond (is_bulk t) (then (next_bytes x n us from) (λ name. made_of (of_text kind_named
    name))) refused) (of_text kind_named) kind.BulkString name k refl refl
    (ap (λ (b : Bool). cond b (Some (kind_named name)) None) (is_utf8-from_IsUtf8 name named.utf8)
    ∙ ap (λ (j : PushKind). Some j) named.own) (λ x ts at. refl)

text-is : {A : Type 0} (make : List ℕ → A) (u : List ℕ) → IsUtf8 u → of_text make u ≡ Some (make u)
text-is make u utf8 = ap (λ (b : Bool). cond b (Some (make u)) None) (is_utf8-from_IsUtf8 u utf8)

abbrev tokens_form : Value-F Value → Tokens
tokens_form y = tokens_step (map-Value Value Tokens tokens_of y)

abbrev text_form : Value-F Value → List ℕ
text_form y = text_step (map-Value Value (List ℕ) text_of y)

cut-known : (name text : List ℕ) → before_first is_colon (name ++ (58 ∷ text)) ≡ name → cut (name ++ (58 ∷ text))
    ≡ Some (VerbatimString (format_named name) text)
cut-known name text h =
    let x = name ++ (58 ∷ text) in
    let p = position_or_len is_colon x in
    let long : length x ≡ length name + suc (length text) = length-append name (58 ∷ text) in
    let most : p ≤ length x = prefix_len-le-length (λ byte. not (is_colon byte)) x in
    let taken : length (take p x) ≡ p = grind (arith, common_steps) in
    let at : p ≡ length name = sym taken ∙ ap length h in
    let inside : (p == length x) ≡ false =
    let e : length x ≡ p + suc (length text) = omega arith in rw e (grind (arith, nat_tests)) in
    let text_is : after_first is_colon x ≡ text = ap (λ (n : ℕ). drop (n + 1) x) at ∙ behind name 58 text in
    ap (λ (b : Bool). cond b None
    (Some (VerbatimString (format_named (before_first is_colon x)) (after_first is_colon x)))) inside
    ∙ ap (λ (y : List ℕ). Some (VerbatimString (format_named y) (after_first is_colon x))) h
    ∙ ap (λ (y : List ℕ). Some (VerbatimString (format_named name) y)) text_is
  where
    behind : (xs : List ℕ) (c : ℕ) (rest : List ℕ) → drop (length xs + 1) (xs ++ (c ∷ rest)) ≡ rest
    behind [] c rest = refl
    behind (x ∷ xs) c rest = let e : suc (length xs) + 1 ≡ suc (length xs + 1) = omega arith in rw e (behind xs c rest)

cut-is : (fmt : VerbatimFormat) (text : List ℕ) → HasOwnFormat fmt text → cut_text (verbatim_text fmt text)
    ≡ Some (VerbatimString fmt text)
cut-is fmt text own =
    let u = verbatim_text fmt text in
    ap (λ (b : Bool). cond b (cut u) None) (is_utf8-from_IsUtf8 u own.utf8)
    ∙ cut-known (name_of_format fmt) text own.cut ∙ ap (λ (f : VerbatimFormat). Some (VerbatimString f text)) own.own

may-push : (n : ℕ) → may_have kind.Push (suc n) (pos 0) ≡ true
may-push n = grind (arith, nat_tests)

abbrev FindsForm : ℕ → Value-F Value → Value → Type 0
FindsForm d y v = Finds (begins (follows d)) (tokens_form y) (text_form y) v

-- as many elements as there are tokens' lists of them
counted : {A B C : Type 0} (read : ℕ → Reader B) (f : A → C) (xs : List A) (ts : Tokens) (t : List ℕ) (b : B)
    → Finds (read (length xs)) ts t b → Finds (read (length (map f xs))) ts t b
counted read f xs ts t b h = subst (λ (n : ℕ). Finds (read n) ts t b) (sym (length-map xs f)) h

layer : (d : ℕ) → FindsAll d → (y : Value-F Value) → IsReadableLayer (IsReadable d) y → FindsForm d y (roll-Value y)
layer d finds Value-F.Nil h = subst (FindsForm d Value-F.Nil) (sym rolls-Nil)
    (finds-begun (follows d) (sized kind.Nil 0) [] [] Nil refl refl (finds-nothing Nil))
layer d finds Value-F.Okay h = subst (FindsForm d Value-F.Okay) (sym rolls-Okay)
    (finds-begun (follows d) (sized kind.Okay 0) [] [] Okay refl refl (finds-nothing Okay))
layer d finds (Value-F.Int n) h = subst (FindsForm d (Value-F.Int n)) (sym (rolls-Int n))
    (finds-begun (follows d) (numbered kind.Int n) [] [] (Int n) refl refl (finds-nothing (Int n)))
layer d finds (Value-F.Boolean true) h = subst (FindsForm d (Value-F.Boolean true)) (sym (rolls-Boolean true))
    (finds-begun (follows d) (numbered kind.Boolean (pos 1)) [] [] (Boolean true) refl refl
    (finds-nothing (Boolean true)))
layer d finds (Value-F.Boolean false) h = subst (FindsForm d (Value-F.Boolean false)) (sym (rolls-Boolean false))
    (finds-begun (follows d) (numbered kind.Boolean (pos 0)) [] [] (Boolean false) refl refl
    (finds-nothing (Boolean false)))
layer d finds (Value-F.SimpleString u) h = subst (FindsForm d (Value-F.SimpleString u)) (sym (rolls-SimpleString u))
    (finds-leaf (follows d) (leaf_of kind.SimpleString) kind.SimpleString u (SimpleString u) refl refl
    (text-is SimpleString u h) (λ x ts at. refl))
layer d finds (Value-F.BulkString u) h = subst (FindsForm d (Value-F.BulkString u)) (sym (rolls-BulkString u))
    (finds-leaf (follows d) (leaf_of kind.BulkString) kind.BulkString u (BulkString u) refl refl refl (λ x ts at. refl))
layer d finds (Value-F.ServerError error) h = subst (FindsForm d (Value-F.ServerError error))
    (sym (rolls-ServerError error))
    (finds-leaf (follows d) (leaf_of kind.ServerError) kind.ServerError (error_text error) (ServerError error) refl refl
    (text-is (λ text. ServerError (server_error text)) (error_text error) h.utf8 ∙ ap (λ e. Some (ServerError e)) h.own)
    (λ x ts at. refl))
layer d finds (Value-F.Double u) h = subst (FindsForm d (Value-F.Double u)) (sym (rolls-Double u))
    (finds-leaf (follows d) (leaf_of kind.Double) kind.Double u (Double u) refl refl (text-is Double u h)
    (λ x ts at. refl))
layer d finds (Value-F.BigNumber u) h = subst (FindsForm d (Value-F.BigNumber u)) (sym (rolls-BigNumber u))
    (finds-leaf (follows d) (leaf_of kind.BigNumber) kind.BigNumber u (BigNumber u) refl refl refl (λ x ts at. refl))
layer d finds (Value-F.VerbatimString fmt text) h = subst (FindsForm d (Value-F.VerbatimString fmt text))
    (sym (rolls-VerbatimString fmt text))
    (finds-leaf (follows d) (leaf_of kind.VerbatimString) kind.VerbatimString (verbatim_text fmt text)
    (VerbatimString fmt text) refl refl (cut-is fmt text h) (λ x ts at. refl))
layer d finds (Value-F.Array vs) h = subst (FindsForm d (Value-F.Array vs)) (sym (rolls-Array vs))
    (finds-begun (follows d) (sized kind.Array (length (map tokens_of vs))) (joined (map tokens_of vs))
    (joined (map text_of vs)) (Array vs) refl refl
    (counted (λ n x ts at. then (next_values (next_value x d) n ts at) (λ ws. got (Array ws))) tokens_of vs _ _ _
    (finds-made Array (λ x. next_values (next_value x d) (length vs)) _ _ vs (finds-values d finds vs h))))
layer d finds (Value-F.Set vs) h = subst (FindsForm d (Value-F.Set vs)) (sym (rolls-Set vs))
    (finds-begun (follows d) (sized kind.Set (length (map tokens_of vs))) (joined (map tokens_of vs))
    (joined (map text_of vs)) (Set vs) refl refl
    (counted (λ n x ts at. then (next_values (next_value x d) n ts at) (λ ws. got (Set ws))) tokens_of vs _ _ _
    (finds-made Set (λ x. next_values (next_value x d) (length vs)) _ _ vs (finds-values d finds vs h))))
layer d finds (Value-F.Map ps) h = subst (FindsForm d (Value-F.Map ps)) (sym (rolls-Map ps))
    (finds-begun (follows d) (sized kind.Map (length (map tokens_of_pair ps))) (joined_pairs (map tokens_of_pair ps))
    (joined_pairs (map text_of_pair ps)) (Map ps) refl refl
    (counted (λ n x ts at. then (next_pairs (next_value x d) n ts at) (λ qs. got (Map qs))) tokens_of_pair ps _ _ _
    (finds-made Map (λ x. next_pairs (next_value x d) (length ps)) _ _ ps (finds-pairs d finds ps h))))
layer d finds (Value-F.Attribute v ps) h = subst (FindsForm d (Value-F.Attribute v ps)) (sym (rolls-Attribute v ps))
    (finds-begun (follows d) (sized kind.Attribute (length (map tokens_of_pair ps)))
    (joined_pairs (map tokens_of_pair ps) ++ tokens_of v) (joined_pairs (map text_of_pair ps) ++ text_of v)
    (Attribute v ps) refl refl
    (counted (λ n x. next_attribute (next_value x d) n) tokens_of_pair ps _ _ _
    (finds-then (λ x. next_pairs (next_value x d) (length ps))
    (λ qs x us from. then (next_value x d us from) (λ w. got (Attribute w qs))) _ _ _ _ ps (Attribute v ps)
    (finds-pairs d finds ps h.1)
    (finds-made (λ w. Attribute w ps) (reads_value d) _ _ v (finds v h.0)))))
layer d finds (Value-F.Push k vs) h = subst (FindsForm d (Value-F.Push k vs)) (sym (rolls-Push k vs))
    (finds-begun (follows d) (sized kind.Push (suc (length (map tokens_of vs))))
    (sized kind.BulkString (length (name_of_push_kind k)) ∷ joined (map tokens_of vs))
    (name_of_push_kind k ++ joined (map text_of vs)) (Push k vs) (may-push (length (map tokens_of vs))) refl
    (counted (λ n x. next_push (next_value x d) x (suc n - 1)) tokens_of vs _ _ _
    (subst (λ (n : ℕ). Finds (λ x. next_push (next_value x d) x n)
    (sized kind.BulkString (length (name_of_push_kind k)) ∷ joined (map tokens_of vs))
    (name_of_push_kind k ++ joined (map text_of vs)) (Push k vs)) (less (length vs))
    (finds-then next_kind (λ j x us from. then (next_values (next_value x d) (length vs) us from) (λ ws. got (Push j
    ws))) _ _ _ _ k (Push k vs) (finds-kind k h.0)
    (finds-made (λ ws. Push k ws) (λ x. next_values (next_value x d) (length vs)) _ _ vs
    (finds-values d finds vs h.1))))))
  where
    less : (n : ℕ) → n ≡ suc n - 1
    less n = omega arith

pub finds-value : (d : ℕ) → FindsAll d
unfolding IsReadable next_value
finds-value zero v h = absurd h
finds-value (suc d) v h =
    let y = out-Value v in
    let rolled : roll-Value y ≡ v = roll-out-Value v in
    let tokens_are : tokens_of v ≡ tokens_form y = ap tokens_of (sym rolled) ∙ fold-roll-Value Tokens tokens_step y in
    let text_is : text_of v ≡ text_form y = ap text_of (sym rolled) ∙ fold-roll-Value (List ℕ) text_step y in
    subst (λ (ts : Tokens). Finds (reads_value (suc d)) ts (text_of v) v) (sym tokens_are)
    (subst (λ (u : List ℕ). Finds (reads_value (suc d)) (tokens_form y) u v) (sym text_is)
    (subst (λ (w : Value). Finds (reads_value (suc d)) (tokens_form y) (text_form y) w) rolled
    (layer d (finds-value d) y h)))

-- a whole reply
pub reads-whole : (d : ℕ) (v : Value) → IsReadable d v → next_value (text_of v) d (placed 0 (tokens_of v)) 0
    ≡ got v [] (length (text_of v))
reads-whole d v h =
    let x = text_of v in
    ap (λ (ts : Tokens). next_value x d ts 0) (sym (append-nil (placed 0 (tokens_of v))))
    ∙ ap (λ (y : List ℕ). next_value y d (placed 0 (tokens_of v) ++ []) 0) (sym (append-nil x))
    ∙ (finds-value d v h).reads [] [] [] ∙ ap (λ (n : ℕ). got v [] n) (zero-add (length x))

-- a flat reply of a value is read as the value
pub flat-reads : (d : ℕ) (reply : FlatReply) (v : Value) → IsFlatOf reply v → IsReadable d v
    → whole (length reply.text.items) (next_value reply.text.items d reply.tokens.items 0) ≡ Some v
flat-reads d reply v flat h =
    let x = reply.text.items in
    let n = length (text_of v) in
    ap (λ (ts : Tokens). whole (length x) (next_value x d ts 0)) flat.tokens
    ∙ ap (λ (y : List ℕ). whole (length y) (next_value y d (placed 0 (tokens_of v)) 0)) flat.text
    ∙ ap (λ (r : Read Value). whole n r) (reads-whole d v h)
    ∙ ap (λ (b : Bool). cond b (Some v) None) (same n)

pub slices-read : (d : ℕ) (reply : FlatReply) (v : Value) (ts : Tokens) (x : List ℕ) → ts ≡ reply.tokens.items → x
    ≡ reply.text.items → IsFlatOf reply v → IsReadable d v → whole (length x) (next_value x d ts 0) ≡ Some v
slices-read d reply v ts x tokens text flat h =
    ap (λ (us : Tokens). whole (length x) (next_value x d us 0)) tokens
    ∙ ap (λ (y : List ℕ). whole (length y) (next_value y d reply.tokens.items 0)) text
    ∙ flat-reads d reply v flat h

-- what is read is refused only for want of memory
pub only_memory : (o : Option Value) (v : Value) (e : FlatError) (error : RedisError) → o ≡ Some v → Makes o (Err e)
    → RefusalFor e error → error ≡ OutOfMemory
only_memory o v Memory error some h is = is
only_memory o v NotReply error some h is = absurd (cc)
