-- A push in a flat reply, whose first token is named a bulk string.
use Rattle.std.proofs.Common.{◌≡◌, ◌≤◌, ℕ, suc, ◌+◌, ◌-◌, Bool, true, false, cond, List, [], ◌∷◌, ◌++◌, length, map}
use Rattle.std.proofs.Common.{take, drop, refl, ap, sym, ◌∙◌, add_assoc, arith, Option, Some, None, Ok, Err}
use Rattle.std.specs.Str.{is_utf8}
use Rattle.std.proofs.lemmas.List.{length-append, append-nil}
use Rattle.std.proofs.lemmas.Grind.{common_steps}
use borrow.Rule.Slice.PartMut.{put_mid}
use Rattle.resp_value.specs.declared.value.Value.{Value, SimpleString, Push, roll-Value, ind-Value, map-Value}
use Rattle.resp_value.specs.declared.value.Value.{fold-roll-Value}
use Rattle.resp_value.specs.declared.value.Value.TheVariants.{rolls-Nil, rolls-Okay, rolls-Int, rolls-SimpleString}
use Rattle.resp_value.specs.declared.value.Value.TheVariants.{rolls-BulkString, rolls-Array, rolls-Map, rolls-Attribute}
use Rattle.resp_value.specs.declared.value.Value.TheVariants.{rolls-ServerError, rolls-Boolean, rolls-Double}
use Rattle.resp_value.specs.declared.value.Value.TheVariants.{rolls-BigNumber, rolls-Set, rolls-VerbatimString}
use Rattle.resp_value.specs.declared.value.Value.TheVariants.{rolls-Push}
use Rattle.resp_value.specs.declared.value.Value.TheOpen.{Value-F}
use Rattle.resp_value.specs.declared.names.PushKind.{PushKind}
use Rattle.resp_value.specs.Names.{kind_named, name_of_push_kind}
use Rattle.resp_errors.specs.declared.kinds.FrameFault.TheVariants.{BadPushKind}
use Rattle.resp_flat.specs.declared.token.Token.{Token}
use Rattle.resp_flat.specs.declared.token.TokenKind.{TokenKind}
use Rattle.resp_flat.specs.declared.token.TokenKind.TheVariants as token
use Rattle.resp_flat.specs.declared.flat_reply.FlatReply.{FlatReply}
use Rattle.resp_flat.specs.FlatReplies.{sized, placed, bytes_of, has_text, joined, tokens_step, tokens_of, text_step}
use Rattle.resp_flat.specs.FlatReplies.{text_of}
use Rattle.resp_flat.proofs.TokenSizes.{total}
use Rattle.resp_flat.proofs.Appending.{tokens_of_push}
use Rattle.resp_parse.specs.declared.shape.ElementsKind.{ElementsKind}
use Rattle.resp_parse.specs.declared.shape.ElementsKind.TheVariants as elements_kind
use Rattle.resp_parse.specs.declared.open_aggregates.OpenAggregate.{OpenAggregate}
use Rattle.resp_parse.specs.Grammar.{push_kind, push}
use Rattle.resp_parse.specs.Shapes.{count_of, token_kind}
use Rattle.resp_parse.specs.FlatBuilders.{opening, tokens_in, text_in, HoldsFlat, HoldsAll, names_kind, name_token}
use Rattle.resp_parse.specs.FlatBuilders.{with_name}
use Rattle.resp_parse.proofs.FlatTokens.{in-total, opening-empty}
use Rattle.resp_flat.proofs.ReadsOnly.{name-kind_named}

abbrev Tokens : Type 0
Tokens = List Token

-- ---- tokens after those of a list and one more

after-more : (at : ℕ) (es : Tokens) (o : Token) (ts : Tokens) → drop (suc (length es)) (placed at (es ++ (o ∷ ts)))
    ≡ placed (at + total es + bytes_of o) ts
after-more at [] o ts = ap (λ (n : ℕ). placed (n + bytes_of o) ts) (omega arith)
after-more at (a ∷ es) o ts = after-more (at + bytes_of a) es o ts
    ∙ ap (λ (n : ℕ). placed (n + bytes_of o) ts) (add_assoc at (bytes_of a) (total es))

-- the name of a kind of token doesn't change how many bytes it has
named-text : (k : TokenKind) → has_text (name_token k) ≡ has_text k
named-text token.Nil = refl
named-text token.Okay = refl
named-text token.Int = refl
named-text token.SimpleString = refl
named-text token.BulkString = refl
named-text token.Array = refl
named-text token.Map = refl
named-text token.Attribute = refl
named-text token.ServerError = refl
named-text token.Boolean = refl
named-text token.Double = refl
named-text token.BigNumber = refl
named-text token.Set = refl
named-text token.VerbatimString = refl
named-text token.Push = refl

named-placed : (at : ℕ) (ts : Tokens) → with_name (placed at ts) ≡ placed at (with_name ts)
named-placed at [] = refl
named-placed at (t ∷ ts) = ap
    (λ (b : Bool). record t { kind = name_token t.kind; start = at } ∷ placed (at + cond b t.size 0) ts)
    (sym (named-text t.kind))

named-at : (at : ℕ) (es : Tokens) (o : Token) (ts : Tokens) →
    take (suc (length es)) (placed at (es ++ (o ∷ ts)))
    ++ with_name (drop (suc (length es)) (placed at (es ++ (o ∷ ts)))) ≡ placed at (es ++ (o ∷ with_name ts))
named-at at [] o ts = ap (λ (us : Tokens). record o { start = at } ∷ us) (named-placed (at + bytes_of o) ts)
named-at at (a ∷ es) o ts = ap (λ (us : Tokens). record a { start = at } ∷ us) (named-at (at + bytes_of a) es o ts)

-- no token is named past the last
dropped-past : (n : ℕ) (ts : Tokens) → length ts ≤ n → drop (suc n) ts ≡ []
dropped-past n ts l = grind (arith, common_steps)

pub names-past : (n : ℕ) (ts : Tokens) (text : List ℕ) → length ts ≤ n → names_kind (drop (suc n) ts) text ≡ false
names-past n ts text l = ap (λ (us : Tokens). names_kind us text) (dropped-past n ts l)

pub named-past : (n : ℕ) (ts : Tokens) → length ts ≤ n → ts ≡ take (suc n) ts ++ with_name (drop (suc n) ts)
named-past n ts l =
    let all : take (suc n) ts ≡ ts = grind (arith, common_steps) in
    sym (ap (λ (us : Tokens). take (suc n) ts ++ with_name us) (dropped-past n ts l) ∙ append-nil (take (suc n) ts)
    ∙ all)

-- those from n on are named in place
rest-all : (n : ℕ) (ts : Tokens) → take (length ts - n) (drop n ts) ≡ drop n ts
rest-all n ts = grind (arith, common_steps)

pub names-rest : (n : ℕ) (ts us : Tokens) (text x : List ℕ) (b : Bool) → us ≡ ts → x ≡ text → b
    ≡ names_kind (take (length us - n) (drop n us)) x → b ≡ names_kind (drop n ts) text
names-rest n ts us text x b e f h = h ∙ ap (λ (vs : Tokens). names_kind vs x) (rest-all n us)
    ∙ ap (λ (vs : Tokens). names_kind (drop n vs) x) e ∙ ap (names_kind (drop n ts)) f

named-length : (ts : Tokens) → length (with_name ts) ≡ length ts
named-length [] = refl
named-length (t ∷ ts) = refl

put-rest : (n : ℕ) (ts us : Tokens) → put_mid n (length ts - n) ts us ≡ take n ts ++ us
put-rest n ts us =
    let none : drop (length ts - n) (drop n ts) ≡ [] = grind (arith, common_steps) in
    ap (λ (vs : Tokens). take n ts ++ (us ++ vs)) none ∙ ap (λ (vs : Tokens). take n ts ++ vs) (append-nil us)

pub named-rest : (n k : ℕ) (ts os us : Tokens) → n ≤ length ts → os ≡ ts → k ≡ length ts → us
    ≡ with_name (take (length os - n) (drop n os)) →
    take k (put_mid n (length os - n) os us ++ drop (length (put_mid n (length os - n) os us)) ts) ≡ take n ts
    ++ with_name (drop n ts)
named-rest n k ts os us l e i h =
    let named : us ≡ with_name (drop n os) = h ∙ ap with_name (rest-all n os) in
    let whole : put_mid n (length os - n) os us ≡ take n ts ++ with_name (drop n ts) =
    put-rest n os us ∙ ap (λ (vs : Tokens). take n os ++ vs) named
    ∙ ap (λ (vs : Tokens). take n vs ++ with_name (drop n vs)) e in
    let size : length (take n ts ++ with_name (drop n ts)) ≡ length ts =
    length-append (take n ts) (with_name (drop n ts))
    ∙ ap (λ (j : ℕ). length (take n ts) + j) (named-length (drop n ts)) ∙ grind (arith, common_steps) in
    ap (λ (ws : Tokens). take k (ws ++ drop (length ws) ts)) whole
    ∙ front k (take n ts ++ with_name (drop n ts)) (drop (length (take n ts ++ with_name (drop n ts))) ts)
    (i ∙ sym size)
  where
    front : (k : ℕ) (xs ys : Tokens) → k ≡ length xs → take k (xs ++ ys) ≡ xs
    front k xs ys e = grind (arith, common_steps)

-- ---- whether a value names a kind

abbrev names : Option PushKind → Bool
names None = false
names (Some k) = true

abbrev pub names_first : List Value → Bool
names_first [] = false
names_first (v ∷ vs) = names (push_kind v)

-- the first token of a value, before others, in a text that begins with the value's
abbrev Tells : Value → Type 0
Tells v = (x y : List ℕ) (ts : Tokens) → names_kind (placed (length x) (tokens_of v ++ ts)) (x ++ (text_of v ++ y))
    ≡ names (push_kind v)

pub text-at : (x t y : List ℕ) → take (length t) (drop (length x) (x ++ (t ++ y))) ≡ t
text-at x t y = grind (arith, common_steps)

abbrev first-step : Value-F Value → Tokens
first-step x = tokens_step (map-Value Value Tokens tokens_of x)

first-form : (x : Value-F Value) → tokens_of (roll-Value x) ≡ first-step x
first-form x = fold-roll-Value Tokens tokens_step x

-- of a value of another form
other : (x : Value-F Value) (v : Value) (o : Option PushKind) → roll-Value x ≡ v → push_kind v ≡ o
    → ((at : ℕ) (ts : Tokens) (text : List ℕ) → names_kind (placed at (first-step x ++ ts)) text ≡ names o)
    → Tells (roll-Value x)
other x v o e p h a b ts =
    ap (λ (us : Tokens). names_kind (placed (length a) (us ++ ts)) (a ++ (text_of (roll-Value x) ++ b))) (first-form x)
    ∙ h (length a) ts (a ++ (text_of (roll-Value x) ++ b)) ∙ ap names (sym (ap push_kind e ∙ p))

tells-form : (x : Value-F Value) → Tells (roll-Value x)
tells-form (Value-F.SimpleString t) = other (Value-F.SimpleString t) (SimpleString t) (Some (kind_named t))
    (rolls-SimpleString t) refl (λ at ts text. refl)
tells-form (Value-F.BulkString t) = λ x y ts.
    let form : tokens_of (roll-Value (Value-F.BulkString t))
    ≡ sized token.BulkString (length t) ∷ [] = first-form (Value-F.BulkString t) in
    let body : text_of (roll-Value (Value-F.BulkString t))
    ≡ t = fold-roll-Value (List ℕ) text_step (Value-F.BulkString t) in
    ap (λ (us : Tokens). names_kind (placed (length x) (us ++ ts))
    (x ++ (text_of (roll-Value (Value-F.BulkString t)) ++ y))) form
    ∙ ap (λ (z : List ℕ). is_utf8 (take (length t) (drop (length x) (x ++ (z ++ y))))) body
    ∙ ap is_utf8 (text-at x t y) ∙ by_test (is_utf8 t) ∙ ap names (sym (ap push_kind (rolls-BulkString t)))
  where
    by_test : (b : Bool) → b ≡ names (cond b (Some (kind_named t)) None)
    by_test true = refl
    by_test false = refl
tells-form Value-F.Nil = other Value-F.Nil _ None rolls-Nil refl (λ at ts text. refl)
tells-form Value-F.Okay = other Value-F.Okay _ None rolls-Okay refl (λ at ts text. refl)
tells-form (Value-F.Int n) = other (Value-F.Int n) _ None (rolls-Int n) refl (λ at ts text. refl)
tells-form (Value-F.Array vs) = other (Value-F.Array vs) _ None (rolls-Array vs) refl (λ at ts text. refl)
tells-form (Value-F.Map ps) = other (Value-F.Map ps) _ None (rolls-Map ps) refl (λ at ts text. refl)
tells-form (Value-F.Attribute v ps) = other (Value-F.Attribute v ps) _ None (rolls-Attribute v ps) refl
    (λ at ts text. refl)
tells-form (Value-F.ServerError e) = other (Value-F.ServerError e) _ None (rolls-ServerError e) refl
    (λ at ts text. refl)
tells-form (Value-F.Boolean b) = other (Value-F.Boolean b) _ None (rolls-Boolean b) refl (λ at ts text. refl)
tells-form (Value-F.Double t) = other (Value-F.Double t) _ None (rolls-Double t) refl (λ at ts text. refl)
tells-form (Value-F.BigNumber t) = other (Value-F.BigNumber t) _ None (rolls-BigNumber t) refl (λ at ts text. refl)
tells-form (Value-F.Set vs) = other (Value-F.Set vs) _ None (rolls-Set vs) refl (λ at ts text. refl)
tells-form (Value-F.VerbatimString f t) = other (Value-F.VerbatimString f t) _ None (rolls-VerbatimString f t) refl
    (λ at ts text. refl)
tells-form (Value-F.Push k vs) = other (Value-F.Push k vs) _ None (rolls-Push k vs) refl (λ at ts text. refl)

tells : (v : Value) → Tells v
tells = ind-Value Tells (λ x layer e. tells-form x)

-- the tokens and the text of a value that names a kind
abbrev Names : Value → Type 0
Names v = (k : PushKind) → push_kind v ≡ Some k → (ts : Tokens) →
    (with_name (tokens_of v ++ ts) ≡ sized token.BulkString (length (name_of_push_kind k)) ∷ ts)
    × (text_of v ≡ name_of_push_kind k)

none-named : (x : Value-F Value) (v : Value) → roll-Value x ≡ v → push_kind v ≡ None → Names (roll-Value x)
none-named x v e p = λ k q. absurd (let z : None ≡ Some k = sym (ap push_kind e ∙ p) ∙ q in cc)

named-form : (x : Value-F Value) (t : List ℕ) (k : TokenKind) → name_token k ≡ token.BulkString → first-step x
    ≡ sized k (length t) ∷ [] → text_of (roll-Value x) ≡ t →
    ((j : PushKind) → push_kind (roll-Value x) ≡ Some j → j ≡ kind_named t) → Names (roll-Value x)
named-form x t k n e b same = λ j q ts.
    let is : name_of_push_kind j ≡ t = ap name_of_push_kind (same j q) ∙ name-kind_named t in (
      ap (λ (us : Tokens). with_name (us ++ ts)) (first-form x ∙ e) ∙ ap (λ (i : TokenKind). sized i (length t) ∷ ts) n
          ∙ ap (λ (y : List ℕ). sized token.BulkString (length y) ∷ ts) (sym is),
      b ∙ sym is,
    )

some-is : {A : Type 0} (x y : A) → Some x ≡ Some y → y ≡ x
some-is x y e = let z : x ≡ y = cc in sym z

bulk-names : (t : List ℕ) (b : Bool) (j : PushKind) → cond b (Some (kind_named t)) None ≡ Some j → j ≡ kind_named t
bulk-names t true j e = some-is (kind_named t) j e
bulk-names t false j e = absurd (let z : None ≡ Some j = e in cc)

names-form : (x : Value-F Value) → Names (roll-Value x)
names-form (Value-F.SimpleString t) = named-form (Value-F.SimpleString t) t token.SimpleString refl refl
    (fold-roll-Value (List ℕ) text_step (Value-F.SimpleString t))
    (λ j q. some-is (kind_named t) j (sym (ap push_kind (rolls-SimpleString t)) ∙ q))
names-form (Value-F.BulkString t) = named-form (Value-F.BulkString t) t token.BulkString refl refl
    (fold-roll-Value (List ℕ) text_step (Value-F.BulkString t))
    (λ j q. bulk-names t (is_utf8 t) j (sym (ap push_kind (rolls-BulkString t)) ∙ q))
names-form Value-F.Nil = none-named Value-F.Nil _ rolls-Nil refl
names-form Value-F.Okay = none-named Value-F.Okay _ rolls-Okay refl
names-form (Value-F.Int n) = none-named (Value-F.Int n) _ (rolls-Int n) refl
names-form (Value-F.Array vs) = none-named (Value-F.Array vs) _ (rolls-Array vs) refl
names-form (Value-F.Map ps) = none-named (Value-F.Map ps) _ (rolls-Map ps) refl
names-form (Value-F.Attribute v ps) = none-named (Value-F.Attribute v ps) _ (rolls-Attribute v ps) refl
names-form (Value-F.ServerError e) = none-named (Value-F.ServerError e) _ (rolls-ServerError e) refl
names-form (Value-F.Boolean b) = none-named (Value-F.Boolean b) _ (rolls-Boolean b) refl
names-form (Value-F.Double t) = none-named (Value-F.Double t) _ (rolls-Double t) refl
names-form (Value-F.BigNumber t) = none-named (Value-F.BigNumber t) _ (rolls-BigNumber t) refl
names-form (Value-F.Set vs) = none-named (Value-F.Set vs) _ (rolls-Set vs) refl
names-form (Value-F.VerbatimString f t) = none-named (Value-F.VerbatimString f t) _ (rolls-VerbatimString f t) refl
names-form (Value-F.Push k vs) = none-named (Value-F.Push k vs) _ (rolls-Push k vs) refl

named-first : (v : Value) → Names v
named-first = ind-Value Names (λ x layer e. names-form x)

-- ---- a push is closed

module _ (r : FlatReply) (opens : List ℕ) (at : ℕ) (fs : List OpenAggregate) (f : OpenAggregate)
    (h : HoldsAll r opens at fs f) where
  at-first : drop (suc at) r.tokens.items ≡ placed (length (text_in fs)) (joined (map tokens_of f.seen))
  at-first =
      ap (λ (n : ℕ). drop (suc n) r.tokens.items) h.place_is ∙ ap (drop (suc (length (tokens_in fs)))) h.tokens
      ∙ after-more 0 (tokens_in fs) (opening f) (joined (map tokens_of f.seen))
      ∙ ap (λ (n : ℕ). placed (0 + total (tokens_in fs) + n) (joined (map tokens_of f.seen))) (opening-empty f)
      ∙ ap (λ (n : ℕ). placed n (joined (map tokens_of f.seen))) (omega (arith, in-total fs))

  -- the first of the tokens after that of the push names its kind where the first element does
  pub push-names : names_kind (drop (suc at) r.tokens.items) r.text.items ≡ names_first f.seen
  push-names = ap (λ (ts : Tokens). names_kind ts r.text.items) at-first
      ∙ ap (names_kind (placed (length (text_in fs)) (joined (map tokens_of f.seen)))) h.text ∙ by_seen f.seen
    where
      by_seen : (vs : List Value) → names_kind (placed (length (text_in fs)) (joined (map tokens_of vs)))
          (text_in fs ++ joined (map text_of vs)) ≡ names_first vs
      by_seen [] = refl
      by_seen (v ∷ vs) = tells v (text_in fs) (joined (map text_of vs)) (joined (map tokens_of vs))

  pub push-refused : names_kind (drop (suc at) r.tokens.items) r.text.items ≡ false → push f.seen ≡ Err BadPushKind
  push-refused e = by_seen f.seen (sym push-names ∙ e)
    where
      by_kind : (v : Value) (vs : List Value) (o : Option PushKind) → push_kind v ≡ o → names o ≡ false → push (v ∷ vs)
          ≡ Err BadPushKind
      by_kind v vs None p z = rw (p, push) refl
      by_kind v vs (Some k) p z = absurd (let y : true ≡ false = z in cc)

      by_seen : (vs : List Value) → names_first vs ≡ false → push vs ≡ Err BadPushKind
      by_seen [] z = refl
      by_seen (v ∷ vs) z = by_kind v vs (push_kind v) refl z

  module _ (s : FlatReply) (kind : f.kind ≡ elements_kind.Push)
      (renamed : s.tokens.items ≡ take (suc at) r.tokens.items ++ with_name (drop (suc at) r.tokens.items))
      (same : s.text.items ≡ r.text.items) where
    renamed-tokens : (ts : Tokens) → joined (map tokens_of f.seen) ≡ ts → s.tokens.items
        ≡ placed 0 (tokens_in fs ++ (sized token.Push (length f.seen) ∷ with_name ts))
    renamed-tokens ts e =
        renamed ∙ ap (λ (n : ℕ). take (suc n) r.tokens.items ++ with_name (drop (suc n) r.tokens.items)) h.place_is
        ∙ ap (λ (us : Tokens). take (suc (length (tokens_in fs))) us
        ++ with_name (drop (suc (length (tokens_in fs))) us)) h.tokens
        ∙ named-at 0 (tokens_in fs) (opening f) (joined (map tokens_of f.seen))
        ∙ ap (λ (us : Tokens). placed 0 (tokens_in fs ++ (opening f ∷ with_name us))) e
        ∙ ap (λ (k : ElementsKind). placed 0 (tokens_in fs ++ (sized (token_kind k) f.size ∷ with_name ts))) kind
        ∙ ap (λ (n : ℕ). placed 0 (tokens_in fs ++ (sized token.Push n ∷ with_name ts)))
        (sym (ap (λ (k : ElementsKind). count_of k f.size) kind) ∙ h.count)

    push-held : (v : Value) (vs : List Value) (k : PushKind) → f.seen ≡ v ∷ vs → push_kind v ≡ Some k
        → HoldsFlat s opens fs (tokens_of (Push k vs)) (text_of (Push k vs))
    push-held v vs k e p =
        let n = named-first v k p (joined (map tokens_of vs)) in
        record {
          tokens = renamed-tokens (tokens_of v ++ joined (map tokens_of vs)) (ap (λ us. joined (map tokens_of us)) e)
              ∙ ap (λ us. placed 0 (tokens_in fs ++ (sized token.Push (length us) ∷ with_name (tokens_of v ++ joined
              (map tokens_of vs))))) e
              ∙ ap (λ (us : Tokens). placed 0 (tokens_in fs ++ (sized token.Push (suc (length vs)) ∷ us))) n.0
              ∙ ap (λ (us : Tokens). placed 0 (tokens_in fs ++ us)) (sym (tokens_of_push k vs));
          text = same ∙ h.text ∙ ap (λ us. text_in fs ++ joined (map text_of us)) e
              ∙ ap (λ (x : List ℕ). text_in fs ++ (x ++ joined (map text_of vs))) n.1
              ∙ ap (λ (x : List ℕ). text_in fs ++ x)
              (sym (ap text_of (sym (rolls-Push k vs)) ∙ fold-roll-Value (List ℕ) text_step (Value-F.Push k vs)));
          places = h.places;
          counts = h.counts;
        }

    pub push-closed : names_kind (drop (suc at) r.tokens.items) r.text.items ≡ true → (u : Value)
        × ((push f.seen ≡ Ok u) × HoldsFlat s opens fs (tokens_of u) (text_of u))
    push-closed e = by_seen f.seen refl (sym push-names ∙ e)
      where
        by_seen : (vs : List Value) → f.seen ≡ vs → names_first vs ≡ true → (u : Value)
            × ((push f.seen ≡ Ok u) × HoldsFlat s opens fs (tokens_of u) (text_of u))
        by_seen [] i z = absurd (let y : false ≡ true = z in cc)
        by_seen (v ∷ vs) i z = by_kind (push_kind v) refl z
          where
            by_kind : (o : Option PushKind) → push_kind v ≡ o → names o ≡ true → (u : Value)
                × ((push f.seen ≡ Ok u) × HoldsFlat s opens fs (tokens_of u) (text_of u))
            by_kind None p y = absurd (let x : false ≡ true = y in cc)
            by_kind (Some k) p y = (Push k vs, (ap push i ∙ rw (p, push) refl, push-held v vs k i p))
