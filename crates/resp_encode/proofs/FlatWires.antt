-- The spelling of a value from its tokens and its text.
use Rattle.std.proofs.Common.{◌≡◌, ℕ, zero, suc, ◌+◌, ◌==◌, Bool, true, false, cond, ◌&&◌, List, [], ◌∷◌, ◌++◌, length}
use Rattle.std.proofs.Common.{map, take, drop, codes, Some, ℤ, pos, refl, sym, ap, subst, ◌∙◌, append_assoc, append-nil}
use Rattle.std.proofs.Common.{arith}
use Rattle.std.proofs.lemmas.Grind.{common_steps}
use Rattle.std.proofs.lemmas.List.{length-map}
use Rattle.std.specs.Fmt.{decimal, signed_decimal}
use Rattle.resp_value.specs.declared.value.Value.{Value, BulkString, out-Value, roll-out-Value, map-Value}
use Rattle.resp_value.specs.declared.value.Value.{fold-roll-Value}
use Rattle.resp_value.specs.declared.value.Value.TheVariants.{rolls-BulkString}
use Rattle.resp_value.specs.declared.value.Value.TheOpen.{Value-F}
use Rattle.resp_value.specs.declared.names.PushKind.{PushKind}
use Rattle.resp_value.specs.declared.names.PushKind.TheVariants as push_kinds
use Rattle.resp_value.specs.Names.{name_of_push_kind}
use Rattle.resp_errors.specs.ServerErrors.{text_of as error_text_of}
use Rattle.resp_errors.specs.declared.server_error.ServerError.{ServerError as Error}
use Rattle.resp_parse.specs.declared.type_byte.TypeByte.{TypeByte}
use Rattle.resp_parse.specs.declared.type_byte.TypeByte.TheVariants as type_byte
use Rattle.resp_parse.specs.Lines.{crlf}
use Rattle.resp_flat.specs.declared.token.Token.{Token}
use Rattle.resp_flat.specs.declared.token.TokenKind.{TokenKind}
use Rattle.resp_flat.specs.declared.token.TokenKind.TheVariants as kind
use Rattle.resp_flat.specs.FlatReplies.{sized, numbered, bytes_of, placed, joined as run, joined_pairs as run_pairs}
use Rattle.resp_flat.specs.FlatReplies.{tokens_step, tokens_of, text_step, text_of, tokens_of_pair, text_of_pair}
use Rattle.resp_encode.specs.Resp2.{flat}
use Rattle.resp_encode.specs.Encoding.{has_break, line, length_line, body_of, joined, aggregate, error_of, is_own_kind}
use Rattle.resp_encode.specs.Encoding.{verbatim_body, push_of, spelling, encoding}
use Rattle.resp_encode.proofs.EncodedSpells.{given-parts, halves, kept}

abbrev Tokens : Type 0
Tokens = List Token

-- a body of the text, with the line of its length
abbrev body : TypeByte → ℕ → List ℕ → List ℕ
body k n x = line k (decimal n) ++ (take n x ++ crlf)

abbrev truth_text : ℤ → List ℕ
truth_text (pos zero) = codes "f"
truth_text _ = codes "t"

-- the bytes of one token, from the text that is left
abbrev one : TokenKind → ℕ → ℤ → List ℕ → List ℕ
one kind.Nil n z x = line type_byte.Null []
one kind.Okay n z x = line type_byte.SimpleString (codes "OK")
one kind.Int n z x = line type_byte.Integer (signed_decimal z)
one kind.SimpleString n z x = line type_byte.SimpleString (take n x)
one kind.BulkString n z x = body type_byte.BulkString n x
one kind.Array n z x = line type_byte.Array (decimal n)
one kind.Map n z x = line type_byte.Map (decimal n)
one kind.Attribute n z x = line type_byte.Attribute (decimal n)
one kind.ServerError n z x = cond (has_break (take n x)) (body type_byte.BulkError n x)
    (line type_byte.SimpleError (take n x))
one kind.Boolean n z x = line type_byte.Boolean (truth_text z)
one kind.Double n z x = line type_byte.Double (take n x)
one kind.BigNumber n z x = line type_byte.BigNumber (take n x)
one kind.Set n z x = line type_byte.Set (decimal n)
one kind.VerbatimString n z x = body type_byte.VerbatimString n x
one kind.Push n z x = line type_byte.Push (decimal n)

abbrev is_push : TokenKind → Bool
is_push kind.Push = true
is_push _ = false

-- a push of a name without bytes, and nothing else
abbrev is_empty_push : Token → Token → Bool
is_empty_push t u = is_push t.kind && (t.size == 1) && (u.size == 0)

-- the bytes of tokens, from their text
pub wire : Tokens → List ℕ → List ℕ
wire [] x = []
wire (t ∷ []) x = one t.kind t.size t.number x
wire (t ∷ u ∷ ts) x = cond (is_empty_push t u)
    (line type_byte.Push (codes "0") ++ wire ts x)
    (one t.kind t.size t.number x ++ wire (u ∷ ts) (drop (bytes_of t) x))

-- where the tokens' bytes begin doesn't matter
wire-placed : (at : ℕ) (ts : Tokens) (x : List ℕ) → wire (placed at ts) x ≡ wire ts x
unfolding wire
wire-placed at [] x = refl
wire-placed at (t ∷ []) x = refl
wire-placed at (t ∷ u ∷ ts) x = choice (is_empty_push t u)
    (ap (λ (b : List ℕ). line type_byte.Push (codes "0") ++ b) (wire-placed (at + bytes_of t + bytes_of u) ts x))
    (ap (λ (b : List ℕ). one t.kind t.size t.number x ++ b)
    (wire-placed (at + bytes_of t) (u ∷ ts) (drop (bytes_of t) x)))
  where
    choice : (b : Bool) {p q r s : List ℕ} → p ≡ q → r ≡ s → cond b p r ≡ cond b q s
    choice true e f = e
    choice false e f = f

-- a token that begins no push
wire-cons : (t : Token) (ts : Tokens) (x : List ℕ) → is_push t.kind ≡ false
    → wire (t ∷ ts) x ≡ one t.kind t.size t.number x ++ wire ts (drop (bytes_of t) x)
unfolding wire
wire-cons t [] x no_push = sym (append-nil _)
wire-cons t (u ∷ ts) x no_push = ap (λ (b : Bool). cond (b && (t.size == 1) && (u.size == 0))
    (line type_byte.Push (codes "0") ++ wire ts x)
    (one t.kind t.size t.number x ++ wire (u ∷ ts) (drop (bytes_of t) x))) no_push

-- what the spelling of a value has to do with its tokens and its text
abbrev Wired : Tokens → List ℕ → List ℕ → Type 0
Wired ts x b = (later : Tokens) (rest : List ℕ) → wire (ts ++ later) (x ++ rest) ≡ b ++ wire later rest

-- a token without text
bare : (t : Token) (b : List ℕ) → is_push t.kind ≡ false → bytes_of t ≡ 0
    → ((x : List ℕ) → one t.kind t.size t.number x ≡ b) → Wired (t ∷ []) [] b
bare t b no_push none same later rest = wire-cons t later rest no_push
    ∙ ap (λ (n : ℕ). one t.kind t.size t.number rest ++ wire later (drop n rest)) none
    ∙ ap (λ (s : List ℕ). s ++ wire later rest) (same rest)

-- a token of this text
leaf : (t : Token) (x b : List ℕ) → is_push t.kind ≡ false → bytes_of t ≡ length x
    → ((y : List ℕ) → take (length x) y ≡ x → one t.kind t.size t.number y ≡ b) → Wired (t ∷ []) x b
leaf t x b no_push all same later rest =
    let front : take (length x) (x ++ rest) ≡ x = grind (arith, common_steps) in
    let back : drop (length x) (x ++ rest) ≡ rest = grind (arith, common_steps) in
    wire-cons t later (x ++ rest) no_push ∙ ap
    (λ (n : ℕ). one t.kind t.size t.number (x ++ rest) ++ wire later (drop n (x ++ rest))) all
    ∙ ap (λ (s : List ℕ). s ++ wire later (drop (length x) (x ++ rest))) (same (x ++ rest) front)
    ∙ ap (λ (s : List ℕ). b ++ wire later s) back

-- one after another
two : (ts us : Tokens) (x y a b : List ℕ) → Wired ts x a → Wired us y b → Wired (ts ++ us) (x ++ y) (a ++ b)
two ts us x y a b f g later rest =
    ap (λ (m : Tokens). wire m ((x ++ y) ++ rest)) (append_assoc ts us later)
    ∙ ap (λ (s : List ℕ). wire (ts ++ (us ++ later)) s) (append_assoc x y rest)
    ∙ f (us ++ later) (y ++ rest) ∙ ap (λ (s : List ℕ). a ++ s) (g later rest)
    ∙ sym (append_assoc a b (wire later rest))

-- ---- parts of spellings

some-is : (a b : List ℕ) → Some a ≡ Some b → a ≡ b
some-is a b e = cc

length-line-is : (k : TypeByte) (n : ℕ) (b : List ℕ) → length_line k n ≡ Some b → line k (decimal n) ≡ b
length-line-is k n b e = (given-parts _ (line k (decimal n)) b e).1

body-is : (k : TypeByte) (bytes b : List ℕ) → body_of k bytes ≡ Some b
    → line k (decimal (length bytes)) ++ (bytes ++ crlf) ≡ b
body-is k bytes b e =
    let p = halves (length_line k (length bytes)) (Some (bytes ++ crlf)) b e in
    ap (λ (s : List ℕ). s ++ (bytes ++ crlf)) (length-line-is k (length bytes) p.first p.first_is)
    ∙ ap (λ (s : List ℕ). p.first ++ s) (some-is _ _ p.second_is) ∙ sym p.whole

-- a leaf with a body
body-wired : (t : Token) (k : TypeByte) (bytes b : List ℕ) → is_push t.kind ≡ false → bytes_of t ≡ length bytes
    → ((y : List ℕ) → one t.kind t.size t.number y ≡ body k (length bytes) y) → body_of k bytes ≡ Some b
    → Wired (t ∷ []) bytes b
body-wired t k bytes b no_push all same e = leaf t bytes b no_push all (λ y front.
    same y ∙ ap (λ (s : List ℕ). line k (decimal (length bytes)) ++ (s ++ crlf)) front ∙ body-is k bytes b e)

-- a leaf in a line
line-wired : (t : Token) (k : TypeByte) (text b : List ℕ) → is_push t.kind ≡ false → bytes_of t ≡ length text
    → ((y : List ℕ) → one t.kind t.size t.number y ≡ line k (take (length text) y)) → line k text ≡ b
    → Wired (t ∷ []) text b
line-wired t k text b no_push all same e = leaf t text b no_push all
    (λ y front. same y ∙ ap (λ (s : List ℕ). line k s) front ∙ e)

error-is : (text b : List ℕ) (broken : Bool) → has_break text ≡ broken
    → cond broken (body_of type_byte.BulkError text) (Some (line type_byte.SimpleError text)) ≡ Some b
    → cond broken (line type_byte.BulkError (decimal (length text)) ++ (text ++ crlf)) (line type_byte.SimpleError text)
    ≡ b
error-is text b true h e = body-is type_byte.BulkError text b e
error-is text b false h e = some-is _ _ e

error-wired : (error : Error) (b : List ℕ) → error_of error ≡ Some b
    → Wired (sized kind.ServerError (length (error_text_of error)) ∷ []) (error_text_of error) b
error-wired error b e =
    let text = error_text_of error in
    leaf (sized kind.ServerError (length text)) text b refl refl (λ y front.
    ap (λ (s : List ℕ). cond (has_break s) (line type_byte.BulkError (decimal (length text)) ++ (s ++ crlf))
    (line type_byte.SimpleError s)) front
    ∙ error-is text b (has_break text) refl (kept _ _ b e).1)

-- ---- elements

run-append : {A : Type 0} (f : Value → List A) (vs : List Value) (v : Value)
    → run (map f (vs ++ v ∷ [])) ≡ run (map f vs) ++ f v
run-append f [] v = append-nil (f v)
run-append f (w ∷ vs) v = ap (λ xs. f w ++ xs) (run-append f vs v) ∙ sym (append_assoc (f w) (run (map f vs)) (f v))

pairs-run : {A : Type 0} (f : Value → List A) (ps : List (Value × Value)) → run_pairs (map (λ p. (f p.0, f p.1)) ps)
    ≡ run (map f (flat ps))
pairs-run f [] = refl
pairs-run f (p ∷ ps) = ap (λ xs. f p.0 ++ (f p.1 ++ xs)) (pairs-run f ps)

abbrev Wires : ℕ → Type 0
Wires d = (v : Value) (b : List ℕ) → encoding d v ≡ Some b → Wired (tokens_of v) (text_of v) b

elements-wired : (d : ℕ) → Wires d → (vs : List Value) (b : List ℕ) → joined (encoding d) vs ≡ Some b
    → Wired (run (map tokens_of vs)) (run (map text_of vs)) b
elements-wired d wires [] b e = λ later rest. ap (λ (s : List ℕ). s ++ wire later rest) (some-is _ _ e)
elements-wired d wires (v ∷ vs) b e =
    let p = halves (encoding d v) (joined (encoding d) vs) b e in
    subst (Wired (tokens_of v ++ run (map tokens_of vs)) (text_of v ++ run (map text_of vs))) (sym p.whole)
    (two (tokens_of v) (run (map tokens_of vs)) (text_of v) (run (map text_of vs)) p.first p.second
    (wires v p.first p.first_is) (elements-wired d wires vs p.second p.second_is))

aggregate-wired : (d : ℕ) → Wires d → (t : Token) (k : TypeByte) (n : ℕ) (vs : List Value) (b : List ℕ)
    → is_push t.kind ≡ false → bytes_of t ≡ 0 → ((x : List ℕ) → one t.kind t.size t.number x ≡ line k (decimal n))
    → aggregate (encoding d) k n vs ≡ Some b → Wired (t ∷ run (map tokens_of vs)) (run (map text_of vs)) b
aggregate-wired d wires t k n vs b no_push none same e =
    let p = halves (length_line k n) (joined (encoding d) vs) b e in
    let head : line k (decimal n) ≡ p.first = length-line-is k n p.first p.first_is in
    subst (Wired (t ∷ run (map tokens_of vs)) (run (map text_of vs))) (sym p.whole)
    (two (t ∷ []) (run (map tokens_of vs)) [] (run (map text_of vs)) p.first p.second
    (bare t p.first no_push none (λ x. same x ∙ head)) (elements-wired d wires vs p.second p.second_is))

-- ---- pushes

bulk-tokens : (bytes : List ℕ) → tokens_of (BulkString bytes) ≡ sized kind.BulkString (length bytes) ∷ []
bulk-tokens bytes = ap tokens_of (sym (rolls-BulkString bytes)) ∙ fold-roll-Value Tokens tokens_step
    (Value-F.BulkString bytes)

bulk-text : (bytes : List ℕ) → text_of (BulkString bytes) ≡ bytes
bulk-text bytes = ap text_of (sym (rolls-BulkString bytes)) ∙ fold-roll-Value (List ℕ) text_step
    (Value-F.BulkString bytes)

abbrev push_tokens_of : List ℕ → List Value → Tokens
push_tokens_of name vs = sized kind.Push (suc (length vs))
    ∷ (sized kind.BulkString (length name) ∷ run (map tokens_of vs))

-- a push that has a name or data
full-push : (d : ℕ) → Wires d → (name : List ℕ) (vs : List Value) (b : List ℕ)
    → ((suc (length vs) == 1) && (length name == 0)) ≡ false
    → aggregate (encoding d) type_byte.Push (suc (length vs)) (BulkString name ∷ vs) ≡ Some b
    → Wired (push_tokens_of name vs) (name ++ run (map text_of vs)) b
unfolding wire
full-push d wires name vs b some e = λ later rest.
    let n = suc (length vs) in
    let p = halves (length_line type_byte.Push n) (joined (encoding d) (BulkString name ∷ vs)) b e in
    let head : line type_byte.Push (decimal n) ≡ p.first = length-line-is type_byte.Push n p.first p.first_is in
    let us = run (map tokens_of vs) in
    let x = name ++ run (map text_of vs) in
    let inner : Wired (sized kind.BulkString (length name) ∷ us) x p.second = subst
    (λ (ts : Tokens). Wired (ts ++ us) x p.second) (bulk-tokens name)
    (subst (λ (y : List ℕ). Wired (tokens_of (BulkString name) ++ us) (y ++ run (map text_of vs)) p.second)
    (bulk-text name) (elements-wired d wires (BulkString name ∷ vs) p.second p.second_is)) in
    ap (λ (c : Bool). cond c (line type_byte.Push (codes "0") ++ wire (us ++ later) (x ++ rest))
    (line type_byte.Push (decimal n) ++ wire (sized kind.BulkString (length name) ∷ (us ++ later)) (x ++ rest)))
    some
    ∙ ap (λ (s : List ℕ). line type_byte.Push (decimal n) ++ s) (inner later rest)
    ∙ ap (λ (s : List ℕ). s ++ (p.second ++ wire later rest)) head
    ∙ sym (append_assoc p.first p.second (wire later rest)) ∙ ap (λ (s : List ℕ). s ++ wire later rest) (sym p.whole)

not-one : (n : ℕ) → ((suc (suc n) == 1) && (0 == 0)) ≡ false
not-one n = grind (arith, common_steps)

some-name : (a : Bool) (n : ℕ) → (a && (suc n == 0)) ≡ false
some-name true n = grind (arith, common_steps)
some-name false n = refl

and-false : (a : Bool) → (a && false) ≡ false
and-false true = refl
and-false false = refl

pub push-wired : (d : ℕ) → Wires d → (k : PushKind) (vs : List Value) (b : List ℕ) → push_of (encoding d) k vs ≡ Some b
    → Wired (push_tokens_of (name_of_push_kind k) vs) (name_of_push_kind k ++ run (map text_of vs)) b
unfolding wire
push-wired d wires (push_kinds.Other []) [] b e = λ later rest. ap (λ (s : List ℕ). s ++ wire later rest)
    (some-is _ _ e)
push-wired d wires (push_kinds.Other []) (v ∷ vs) b e = full-push d wires [] (v ∷ vs) b (not-one (length vs))
    (kept (is_own_kind (push_kinds.Other [])) _ b e).1
push-wired d wires (push_kinds.Other (c ∷ name)) vs b e = full-push d wires (c ∷ name) vs b
    (some-name (suc (length vs) == 1) (length name)) (kept (is_own_kind (push_kinds.Other (c ∷ name))) _ b e).1
push-wired d wires push_kinds.Disconnection vs b e = absurd (cc)
push-wired d wires push_kinds.Invalidate vs b e = full-push d wires (codes "invalidate") vs b
    (and-false (suc (length vs) == 1)) e
push-wired d wires push_kinds.Message vs b e = full-push d wires (codes "message") vs b
    (and-false (suc (length vs) == 1)) e
push-wired d wires push_kinds.PMessage vs b e = full-push d wires (codes "pmessage") vs b
    (and-false (suc (length vs) == 1)) e
push-wired d wires push_kinds.SMessage vs b e = full-push d wires (codes "smessage") vs b
    (and-false (suc (length vs) == 1)) e
push-wired d wires push_kinds.Unsubscribe vs b e = full-push d wires (codes "unsubscribe") vs b
    (and-false (suc (length vs) == 1)) e
push-wired d wires push_kinds.PUnsubscribe vs b e = full-push d wires (codes "punsubscribe") vs b
    (and-false (suc (length vs) == 1)) e
push-wired d wires push_kinds.SUnsubscribe vs b e = full-push d wires (codes "sunsubscribe") vs b
    (and-false (suc (length vs) == 1)) e
push-wired d wires push_kinds.Subscribe vs b e = full-push d wires (codes "subscribe") vs b
    (and-false (suc (length vs) == 1)) e
push-wired d wires push_kinds.PSubscribe vs b e = full-push d wires (codes "psubscribe") vs b
    (and-false (suc (length vs) == 1)) e
push-wired d wires push_kinds.SSubscribe vs b e = full-push d wires (codes "ssubscribe") vs b
    (and-false (suc (length vs) == 1)) e

-- ---- kind by kind

abbrev tokens_form : Value-F Value → Tokens
tokens_form y = tokens_step (map-Value Value Tokens tokens_of y)

abbrev text_form : Value-F Value → List ℕ
text_form y = text_step (map-Value Value (List ℕ) text_of y)

counted : (k : TypeByte) {m n : ℕ} → m ≡ n → line k (decimal m) ≡ line k (decimal n)
counted k e = ap (λ (n : ℕ). line k (decimal n)) e

layer-wired : (d : ℕ) → Wires d → (y : Value-F Value) (b : List ℕ) → spelling (encoding d) y ≡ Some b
    → Wired (tokens_form y) (text_form y) b
layer-wired d wires Value-F.Nil b e = bare (sized kind.Nil 0) b refl refl (λ x. some-is _ _ e)
layer-wired d wires Value-F.Okay b e = bare (sized kind.Okay 0) b refl refl (λ x. some-is _ _ e)
layer-wired d wires (Value-F.Int n) b e = bare (numbered kind.Int n) b refl refl (λ x. (given-parts _ _ b e).1)
layer-wired d wires (Value-F.SimpleString text) b e = line-wired (sized kind.SimpleString (length text))
    type_byte.SimpleString text b refl refl (λ y. refl) (given-parts _ _ b e).1
layer-wired d wires (Value-F.BulkString bytes) b e = body-wired (sized kind.BulkString (length bytes))
    type_byte.BulkString bytes b refl refl (λ y. refl) e
layer-wired d wires (Value-F.Array vs) b e = aggregate-wired d wires (sized kind.Array (length (map tokens_of vs)))
    type_byte.Array (length vs) vs b refl refl (λ x. counted type_byte.Array (length-map vs tokens_of)) e
layer-wired d wires (Value-F.Map ps) b e =
    subst (λ (ts : Tokens). Wired (sized kind.Map (length (map tokens_of_pair ps)) ∷ ts)
    (run_pairs (map text_of_pair ps)) b) (sym (pairs-run tokens_of ps))
    (subst (λ (x : List ℕ). Wired (sized kind.Map (length (map tokens_of_pair ps)) ∷ run (map tokens_of (flat ps))) x b)
    (sym (pairs-run text_of ps))
    (aggregate-wired d wires (sized kind.Map (length (map tokens_of_pair ps))) type_byte.Map (length ps) (flat ps) b
    refl refl (λ x. counted type_byte.Map (length-map ps tokens_of_pair)) e))
layer-wired d wires (Value-F.Attribute v ps) b e =
    let tokens_are : run (map tokens_of (flat ps ++ v ∷ [])) ≡ run_pairs (map tokens_of_pair ps)
    ++ tokens_of v = run-append tokens_of (flat ps) v ∙ ap (λ (ts : Tokens). ts ++ tokens_of v)
    (sym (pairs-run tokens_of ps)) in
    let text_is : run (map text_of (flat ps ++ v ∷ [])) ≡ run_pairs (map text_of_pair ps)
    ++ text_of v = run-append text_of (flat ps) v ∙ ap (λ (x : List ℕ). x ++ text_of v)
    (sym (pairs-run text_of ps)) in
    subst (λ (ts : Tokens). Wired (sized kind.Attribute (length (map tokens_of_pair ps)) ∷ ts)
    (run_pairs (map text_of_pair ps) ++ text_of v) b) tokens_are
    (subst (λ (x : List ℕ). Wired (sized kind.Attribute (length (map tokens_of_pair ps))
    ∷ run (map tokens_of (flat ps ++ v ∷ []))) x b) text_is
    (aggregate-wired d wires (sized kind.Attribute (length (map tokens_of_pair ps))) type_byte.Attribute (length ps)
    (flat ps ++ v ∷ []) b refl refl (λ x. counted type_byte.Attribute (length-map ps tokens_of_pair)) e))
layer-wired d wires (Value-F.ServerError error) b e = error-wired error b e
layer-wired d wires (Value-F.Boolean true) b e = bare (numbered kind.Boolean (pos 1)) b refl refl (λ x. some-is _ _ e)
layer-wired d wires (Value-F.Boolean false) b e = bare (numbered kind.Boolean (pos 0)) b refl refl (λ x. some-is _ _ e)
layer-wired d wires (Value-F.Double text) b e = line-wired (sized kind.Double (length text)) type_byte.Double text b
    refl refl (λ y. refl) (given-parts _ _ b e).1
layer-wired d wires (Value-F.BigNumber bytes) b e = line-wired (sized kind.BigNumber (length bytes)) type_byte.BigNumber
    bytes b refl refl (λ y. refl) (given-parts _ _ b e).1
layer-wired d wires (Value-F.Set vs) b e = aggregate-wired d wires (sized kind.Set (length (map tokens_of vs)))
    type_byte.Set (length vs) vs b refl refl (λ x. counted type_byte.Set (length-map vs tokens_of)) e
layer-wired d wires (Value-F.VerbatimString fmt text) b e = body-wired
    (sized kind.VerbatimString (length (verbatim_body fmt text))) type_byte.VerbatimString (verbatim_body fmt text) b
    refl refl (λ y. refl) (kept _ _ b e).1
layer-wired d wires (Value-F.Push k vs) b e =
    subst (λ (n : ℕ). Wired (sized kind.Push (suc n)
    ∷ (sized kind.BulkString (length (name_of_push_kind k)) ∷ run (map tokens_of vs)))
    (name_of_push_kind k ++ run (map text_of vs)) b) (sym (length-map vs tokens_of))
    (push-wired d wires k vs b e)

pub wired : (d : ℕ) → Wires d
wired zero v b e = absurd (cc)
wired (suc d) v b e =
    let y = out-Value v in
    let tokens_are : tokens_of v ≡ tokens_form y = ap tokens_of (sym (roll-out-Value v))
    ∙ fold-roll-Value Tokens tokens_step y in
    let text_is : text_of v ≡ text_form y = ap text_of (sym (roll-out-Value v)) ∙ fold-roll-Value (List ℕ) text_step
    y in
    subst (λ (ts : Tokens). Wired ts (text_of v) b) (sym tokens_are)
    (subst (λ (x : List ℕ). Wired (tokens_form y) x b) (sym text_is) (layer-wired d (wired d) y b e))

-- the spelling of a value, by its flat reply
pub spelled-by-flat : (d : ℕ) (v : Value) (b : List ℕ) → encoding d v ≡ Some b
    → wire (placed 0 (tokens_of v)) (text_of v) ≡ b
unfolding wire
spelled-by-flat d v b e =
    wire-placed 0 (tokens_of v) (text_of v) ∙ ap (λ (ts : Tokens). wire ts (text_of v)) (sym (append-nil (tokens_of v)))
    ∙ ap (λ (x : List ℕ). wire (tokens_of v ++ []) x) (sym (append-nil (text_of v)))
    ∙ wired d v b e [] [] ∙ append-nil b

pub same-spelling : (d : ℕ) (v w : Value) (b c : List ℕ) → encoding d v ≡ Some b → encoding d w ≡ Some c
    → placed 0 (tokens_of v) ≡ placed 0 (tokens_of w) → text_of v ≡ text_of w → b ≡ c
same-spelling d v w b c e f tokens text =
    sym (spelled-by-flat d v b e) ∙ ap (λ (ts : Tokens). wire ts (text_of v)) tokens
    ∙ ap (λ (x : List ℕ). wire (placed 0 (tokens_of w)) x) text ∙ spelled-by-flat d w c f
