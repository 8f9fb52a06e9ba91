-- Reading as many values or pairs goes on as it began.
use Rattle.std.proofs.Common.{◌≡◌, ℕ, suc, List, [], ◌∷◌, ◌++◌, refl, sym, ap, ◌∙◌, append_assoc, append-nil, Result}
use Rattle.std.proofs.Common.{Ok, Err}
use Rattle.std.proofs.Common.{arith, Option, None, Bool, true, false, cond, ◌==◌, ◌&&◌, ◌≤◌, ◌<◌, nat_le, length}
use Rattle.std.proofs.lemmas.Bool.Decides.{nat_tests}
use Rattle.resp_value.specs.declared.value.Value.{Value}
use Rattle.resp_flat.specs.declared.token.Token.{Token}
use Rattle.resp_flat.specs.declared.reading.Place.{Place}
use Rattle.resp_flat.specs.declared.flat_error.FlatError.{FlatError}
use Rattle.resp_flat.specs.declared.flat_error.FlatError.TheVariants.{Memory, NotReply}
use Rattle.resp_flat.specs.Reading.{Read, refused, got, then, next_token, next_values, next_pairs, next_value}
use Rattle.resp_flat.specs.Reading.{after_token, may_have, first_of, value_from, Answers, Makes}

abbrev Tokens : Type 0
Tokens = List Token

abbrev Reader : Type 0
Reader = Tokens → ℕ → Read Value

-- what is there, and what is read after it
abbrev pub continued : {A : Type 0} → List A → Read (List A) → Read (List A)
continued front r = then r (λ xs. got (front ++ xs))

one_more : {A : Type 0} (front : List A) (a : A) (r : Read (List A)) → continued front (then r (λ xs. got (a ∷ xs)))
    ≡ continued (front ++ a ∷ []) r
one_more front a refused = refl
one_more front a (got xs ts at) = ap (λ (ys : List _). got ys ts at) (sym (append_assoc front (a ∷ []) xs))

-- nothing was read yet
pub begun : {A : Type 0} (r : Read (List A)) → r ≡ continued [] r
begun refused = refl
begun (got xs ts at) = refl

pub value_read : (read : Reader) (m n : ℕ) (front : List Value) (ts us : Tokens) (at from : ℕ) (v : Value) → m ≡ suc n
    → read ts at ≡ got v us from
    → continued front (next_values read m ts at) ≡ continued (front ++ v ∷ []) (next_values read n us from)
value_read read m n front ts us at from v more is =
    ap (λ (k : ℕ). continued front (next_values read k ts at)) more
    ∙ ap (λ (r : Read Value). continued front
    (then r (λ v us from. then (next_values read n us from) (λ vs. got (v ∷ vs))))) is
    ∙ one_more front v (next_values read n us from)

pub value_refused : (read : Reader) (m n : ℕ) (front : List Value) (ts : Tokens) (at : ℕ) → m ≡ suc n → read ts at
    ≡ refused
    → continued front (next_values read m ts at) ≡ refused
value_refused read m n front ts at more is =
    ap (λ (k : ℕ). continued front (next_values read k ts at)) more
    ∙ ap (λ (r : Read Value). continued front
    (then r (λ v us from. then (next_values read n us from) (λ vs. got (v ∷ vs))))) is

pub values_end : (read : Reader) (m : ℕ) (front : List Value) (ts : Tokens) (at : ℕ) → m ≡ 0
    → continued front (next_values read m ts at) ≡ got front ts at
values_end read m front ts at none =
    ap (λ (k : ℕ). continued front (next_values read k ts at)) none
    ∙ ap (λ (xs : List Value). got xs ts at) (append-nil front)

abbrev after_key : Reader → ℕ → Value → Tokens → ℕ → Read (List (Value × Value))
after_key read n k us from = then (read us from) (λ v ws to. then (next_pairs read n ws to) (λ ps. got ((k, v) ∷ ps)))

pub pair_read : (read : Reader) (m n : ℕ) (front : List (Value × Value)) (ts us ws : Tokens) (at from to : ℕ)
    (k v : Value) → m ≡ suc n → read ts at ≡ got k us from → read us from ≡ got v ws to
    → continued front (next_pairs read m ts at) ≡ continued (front ++ (k, v) ∷ []) (next_pairs read n ws to)
pair_read read m n front ts us ws at from to k v more key value =
    ap (λ (j : ℕ). continued front (next_pairs read j ts at)) more
    ∙ ap (λ (r : Read Value). continued front (then r (after_key read n))) key
    ∙ ap (λ (r : Read Value). continued front
    (then r (λ v ws to. then (next_pairs read n ws to) (λ ps. got ((k, v) ∷ ps))))) value
    ∙ one_more front (k, v) (next_pairs read n ws to)

pub key_refused : (read : Reader) (m n : ℕ) (front : List (Value × Value)) (ts : Tokens) (at : ℕ) → m ≡ suc n
    → read ts at ≡ refused
    → continued front (next_pairs read m ts at) ≡ refused
key_refused read m n front ts at more key =
    ap (λ (j : ℕ). continued front (next_pairs read j ts at)) more
    ∙ ap (λ (r : Read Value). continued front (then r (after_key read n))) key

pub entry_refused : (read : Reader) (m n : ℕ) (front : List (Value × Value)) (ts us : Tokens) (at from : ℕ) (k : Value)
    → m ≡ suc n → read ts at ≡ got k us from → read us from ≡ refused
    → continued front (next_pairs read m ts at) ≡ refused
entry_refused read m n front ts us at from k more key value =
    ap (λ (j : ℕ). continued front (next_pairs read j ts at)) more
    ∙ ap (λ (r : Read Value). continued front (then r (after_key read n))) key
    ∙ ap (λ (r : Read Value). continued front
    (then r (λ v ws to. then (next_pairs read n ws to) (λ ps. got ((k, v) ∷ ps))))) value

pub pairs_end : (read : Reader) (m : ℕ) (front : List (Value × Value)) (ts : Tokens) (at : ℕ) → m ≡ 0
    → continued front (next_pairs read m ts at) ≡ got front ts at
pairs_end read m front ts at none =
    ap (λ (k : ℕ). continued front (next_pairs read k ts at)) none
    ∙ ap (λ (xs : List (Value × Value)). got xs ts at) (append-nil front)

-- a refusal inside is one of the whole
pub refusal : {A B : Type 0} (r : Read A) (s : Read B) (e : FlatError) (p q : Place) → Answers r (Err e) p
    → (r ≡ refused → s ≡ refused) → Answers s (Err e) q
refusal r s Memory p q h stop = tt
refusal r s NotReply p q h stop = stop h

-- the same is read
pub as_read : {A : Type 0} (r s : Read A) (result : Result A FlatError) (p : Place) → r ≡ s → Answers s result p
    → Answers r result p
as_read r s (Ok a) p e h = e ∙ h
as_read r s (Err Memory) p e h = tt
as_read r s (Err NotReply) p e h = e ∙ h

-- a value by its first token
pub by_token : (x : List ℕ) (m d : ℕ) (ts us : Tokens) (at from : ℕ) (t : Token) → m ≡ suc d → next_token ts at
    ≡ got t us from
    → next_value x m ts at ≡ after_token (next_value x d) x t.kind t.size t.number us from
unfolding next_value
by_token x m d ts us at from t more is =
    ap (λ (k : ℕ). next_value x k ts at) more
    ∙ ap (λ (r : Read Token). then r (λ t. after_token (next_value x d) x t.kind t.size t.number)) is

-- ---- a value from its token on

same : (n : ℕ) → (n == n) ≡ true
same n = grind (arith, nat_tests)

token-there : (t : Token) (ts : Tokens) (b : Bool) → may_have t.kind t.size t.number ≡ b → next_token (t ∷ ts) t.start
    ≡ cond b (got t ts t.start) refused
token-there t ts b may =
    ap (λ (a : Bool). cond (a && may_have t.kind t.size t.number) (got t ts t.start) refused) (same t.start)
    ∙ ap (λ (a : Bool). cond a (got t ts t.start) refused) may

first-made : {A : Type 0} (r : Read A) (result : Result A FlatError) (p : Place) → Answers r result p
    → Makes (first_of r) result
first-made r (Ok a) p h = ap first_of h
first-made r (Err Memory) p h = tt
first-made r (Err NotReply) p h = ap first_of h

makes-same : {A : Type 0} (o q : Option A) (result : Result A FlatError) → o ≡ q → Makes q result → Makes o result
makes-same o q (Ok a) e h = e ∙ h
makes-same o q (Err Memory) e h = tt
makes-same o q (Err NotReply) e h = e ∙ h

pub from_token : (x : List ℕ) (m d : ℕ) (t : Token) (ts : Tokens) (result : Result Value FlatError) (p : Place) → m
    ≡ suc d → t.start ≤ length x → may_have t.kind t.size t.number ≡ true
    → Answers (after_token (next_value x d) x t.kind t.size t.number ts t.start) result p
    → Makes (value_from x m t ts) result
from_token x m d t ts result p more inside may h =
    let within : nat_le t.start (length x) ≡ true = grind (arith, nat_tests) in
    makes-same (value_from x m t ts) _ result
    (ap (λ (b : Bool). cond b (first_of (next_value x m (t ∷ ts) t.start)) None) within
    ∙ ap (λ (r : Read Value). first_of r)
    (by_token x m d (t ∷ ts) ts t.start t.start t more (token-there t ts true may)))
    (first-made _ result p h)

both-none : {A : Type 0} (b : Bool) (o : Option A) → o ≡ None → cond b o None ≡ None
both-none true o e = e
both-none false o e = refl

pub beyond_text : (x : List ℕ) (m : ℕ) (t : Token) (ts : Tokens) → length x < t.start → value_from x m t ts ≡ None
beyond_text x m t ts above =
    let outside : nat_le t.start (length x) ≡ false = grind (arith, nat_tests) in
    ap (λ (b : Bool). cond b (first_of (next_value x m (t ∷ ts) t.start)) None) outside

pub malformed_token : (x : List ℕ) (m d : ℕ) (t : Token) (ts : Tokens) → m ≡ suc d → may_have t.kind t.size t.number
    ≡ false → value_from x m t ts ≡ None
unfolding next_value
malformed_token x m d t ts more never =
    both-none (nat_le t.start (length x)) (first_of (next_value x m (t ∷ ts) t.start))
    (ap (λ (k : ℕ). first_of (next_value x k (t ∷ ts) t.start)) more
    ∙ ap (λ (r : Read Token). first_of (then r (λ t. after_token (next_value x d) x t.kind t.size t.number)))
    (token-there t ts false never))
