-- The tokens that C gives.
use Rattle.std.proofs.Common.{◌≡◌, ℕ, zero, suc, ◌+◌, ◌<◌, ◌==◌, ◌&&◌, add-zero, zero-add, eqb-true, nat_lt, length}
use Rattle.std.proofs.Common.{Bool, true, false, cond, get_or, map, List, [], ◌∷◌, Option, Some, None}
use Rattle.std.proofs.Common.{IsSome, IfSome, IfOk, IfErr, Result, Ok, Err, is_some, MatchOption, refl, subst, sym}
use Rattle.std.proofs.Common.{ap, ◌∙◌, arith}
use Rattle.std.proofs.lemmas.Bool.{and_from, and_parts}
use Rattle.std.proofs.lemmas.Bool.Decides.{nat_tests}
use Rattle.std.specs.Fmt.{◌++?◌}
use Rattle.std.specs.List.{list_all}
use Rattle.resp_errors.specs.declared.redis_error.RedisError.{RedisError}
use Rattle.resp_errors.specs.declared.redis_error.RedisError.TheVariants as form
use Rattle.resp_args.specs.declared.options.ProtocolVersion.{ProtocolVersion}
use Rattle.resp_flat.specs.declared.token.Token.{Token}
use Rattle.resp_flat.specs.declared.token.TokenKind.{TokenKind}
use Rattle.resp_flat.specs.declared.token.TokenKind.TheVariants as kind
use Rattle.resp_flat.specs.FlatReplies.{placed, tokens_of}
use Rattle.resp_encode.specs.Encodings.{encoding_in}
use Rattle.resp_encode.specs.FlatEncoding.{flat_encoding}
use Rattle.resp_encode.proofs.FlatWhole.{flat_is, flat_only}
use Rattle.resp_c.specs.declared.token.RespToken.{RespToken}
use Rattle.resp_c.specs.GivenTokens.{kinds, is_known, from_c, known_tokens}
use Rattle.resp_c.specs.Packing.{Refuses}
use Rattle.resp_c.specs.Replies.{in_c, number_of_kind, refusal_status, version_of, Sends, CanSend}

-- numbers of different kinds differ
kind_back : (k : TokenKind) → get_or kinds (number_of_kind k) kind.Nil ≡ k
kind_back kind.Nil = refl
kind_back kind.Okay = refl
kind_back kind.Int = refl
kind_back kind.SimpleString = refl
kind_back kind.BulkString = refl
kind_back kind.Array = refl
kind_back kind.Map = refl
kind_back kind.Attribute = refl
kind_back kind.ServerError = refl
kind_back kind.Boolean = refl
kind_back kind.Double = refl
kind_back kind.BigNumber = refl
kind_back kind.Set = refl
kind_back kind.VerbatimString = refl
kind_back kind.Push = refl

-- the kinds stand in the order of their numbers
are_numbered : ℕ → List TokenKind → Bool
are_numbered m [] = true
are_numbered m (k ∷ ks) = (number_of_kind k == m) && are_numbered (suc m) ks

numbered_at : (ks : List TokenKind) (m n : ℕ) → n < length ks → are_numbered m ks ≡ true
    → number_of_kind (get_or ks n kind.Nil) ≡ m + n
unfolding are_numbered
numbered_at [] m n below h = absurd (omega (arith, below))
numbered_at (k ∷ ks) m zero below h =
    eqb-true (number_of_kind k) m (and_parts (number_of_kind k == m) (are_numbered (suc m) ks) h).0 ∙ sym (add-zero m)
numbered_at (k ∷ ks) m (suc n) below h =
    numbered_at ks (suc m) n (omega (arith, below)) (and_parts (number_of_kind k == m) (are_numbered (suc m) ks) h).1
    ∙ (let e : suc m + n ≡ m + suc n = omega arith in e)

number_back : (n : ℕ) → n < 15 → number_of_kind (get_or kinds n kind.Nil) ≡ n
unfolding are_numbered
number_back n below = numbered_at kinds 0 n below refl ∙ zero-add n

-- a token that is given as C has it is read as it was
from_in : (t : Token) → from_c (in_c t) ≡ t
from_in t = ap (λ (k : TokenKind). record t { kind = k }) (kind_back t.kind)

number_below : (k : TokenKind) → nat_lt (number_of_kind k) 15 ≡ true
number_below kind.Nil = refl
number_below kind.Okay = refl
number_below kind.Int = refl
number_below kind.SimpleString = refl
number_below kind.BulkString = refl
number_below kind.Array = refl
number_below kind.Map = refl
number_below kind.Attribute = refl
number_below kind.ServerError = refl
number_below kind.Boolean = refl
number_below kind.Double = refl
number_below kind.BigNumber = refl
number_below kind.Set = refl
number_below kind.VerbatimString = refl
number_below kind.Push = refl

in_known : (t : Token) → is_known (in_c t) ≡ true
in_known t = number_below t.kind

in_from : (r : RespToken) → is_known r ≡ true → in_c (from_c r) ≡ r
in_from r known = ap (λ (n : ℕ). record r { kind = n }) (number_back r.kind (grind (arith, nat_tests, known)))

pub known_of : (ts : List Token) → known_tokens (map in_c ts) ≡ ts
known_of [] = refl
known_of (t ∷ ts) =
    ap (λ (b : Bool). cond b (from_c (in_c t) ∷ known_tokens (map in_c ts)) []) (in_known t)
    ∙ ap (λ (u : Token). u ∷ known_tokens (map in_c ts)) (from_in t) ∙ ap (λ us. t ∷ us) (known_of ts)

pub all_known : (ts : List Token) → list_all is_known (map in_c ts) ≡ true
all_known [] = refl
all_known (t ∷ ts) = and_from (is_known (in_c t)) (list_all is_known (map in_c ts)) (in_known t) (all_known ts)

pub known_back : (rs : List RespToken) → list_all is_known rs ≡ true → map in_c (known_tokens rs) ≡ rs
known_back [] all = refl
known_back (r ∷ rs) all =
    let p = and_parts (is_known r) (list_all is_known rs) all in
    ap (λ (b : Bool). map in_c (cond b (from_c r ∷ known_tokens rs) [])) p.0
    ∙ ap (λ (q : RespToken). q ∷ map in_c (known_tokens rs)) (in_from r p.0)
    ∙ ap (λ qs. r ∷ qs) (known_back rs p.1)

-- a kind is found exactly where the number is one's
pub kind_found : (o : Option TokenKind) (r : RespToken) → IfSome o (λ k. number_of_kind k ≡ r.kind)
    → ((k : TokenKind) → number_of_kind k ≡ r.kind → o ≡ Some k) → is_some o ≡ is_known r
kind_found (Some k) r is known = sym (ap (λ (n : ℕ). nat_lt n 15) (sym is) ∙ number_below k)
kind_found None r is known = by (is_known r) refl
  where
    by : (b : Bool) → is_known r ≡ b → false ≡ b
    by true e =
        absurd (let h = known (get_or kinds r.kind kind.Nil) (number_back r.kind (grind (arith, nat_tests, e))) in cc)
    by false e = refl

-- the next token, if its kind is one
pub next_known : (o : Option Token) (r : RespToken) (rs : List RespToken)
    → IfSome o (λ t. in_c t ≡ r) → ((t : Token) → in_c t ≡ r → o ≡ Some t)
    → MatchOption o (known_tokens (r ∷ rs) ≡ []) (λ t. known_tokens (r ∷ rs) ≡ t ∷ known_tokens rs)
next_known (Some t) r rs is known =
    ap (λ (q : RespToken). known_tokens (q ∷ rs)) (sym is)
    ∙ ap (λ (b : Bool). cond b (from_c (in_c t) ∷ known_tokens rs) []) (in_known t)
    ∙ ap (λ (u : Token). u ∷ known_tokens rs) (from_in t)
next_known None r rs is known = by (is_known r) refl
  where
    by : (b : Bool) → is_known r ≡ b → cond b (from_c r ∷ known_tokens rs) [] ≡ []
    by true e = absurd (let h = known (from_c r) (in_from r e) in cc)
    by false e = refl

pub next_given : (o : Option Token) (rs : List RespToken) (r : RespToken) (others : List RespToken) → rs ≡ r ∷ others
    → IfSome o (λ t. in_c t ≡ r) → ((t : Token) → in_c t ≡ r → o ≡ Some t)
    → MatchOption o (known_tokens rs ≡ []) (λ t. known_tokens rs ≡ t ∷ known_tokens others)
next_given o rs r others e is known = subst (λ (qs : List RespToken). MatchOption o (known_tokens qs ≡ [])
    (λ t. known_tokens qs ≡ t ∷ known_tokens others)) (sym e) (next_known o r others is known)

-- ---- what is sent

pub sends_given : (protocol : ℕ) (version : ProtocolVersion) (rs : List RespToken) (x bytes : List ℕ)
    → version_of protocol ≡ Some version → list_all is_known rs ≡ true
    → flat_encoding version 1000 (known_tokens rs) x ≡ Some bytes → Sends protocol rs x bytes
sends_given protocol version rs x bytes is all e =
    let s = flat_only version 1000 (known_tokens rs) x bytes e in
    record {
      value = s.value;
      given = record {
        tokens_are = sym (known_back rs all) ∙ ap (map in_c) s.tokens;
        text_is = s.text;
        readable = s.readable;
      };
      version = version;
      version_is = is;
      encoded = s.encoded;
    }

-- what can be sent has bytes, and tokens of kinds alone
pub given_sends : (protocol : ℕ) (version : ProtocolVersion) (rs : List RespToken) (x : List ℕ)
    → version_of protocol ≡ Some version → CanSend protocol rs x
    → IsSome (flat_encoding version 1000 (known_tokens rs) x)
given_sends protocol version rs x is can =
    let s = can.1 in
    let ts = placed 0 (tokens_of s.value) in
    let same : s.version ≡ version = (let h = s.version_is in cc) in
    let e = flat_is version 1000 (known_tokens rs) x s.value (ap known_tokens s.given.tokens_are ∙ known_of ts)
    s.given.text_is s.given.readable in
    ap is_some (e ∙ ap (λ (v : ProtocolVersion). encoding_in v 1000 s.value) (sym same) ∙ s.encoded)

pub given_known : (protocol : ℕ) (rs : List RespToken)
    (x : List ℕ) → CanSend protocol rs x → list_all is_known rs ≡ true
given_known protocol rs x can =
    let s = can.1 in
    ap (list_all is_known) s.given.tokens_are ∙ all_known (placed 0 (tokens_of s.value))

-- so what was made is sent, and what isn't made can't be
module _ (protocol : ℕ) (version : ProtocolVersion) (rs : List RespToken) (x : List ℕ)
    (version_is : version_of protocol ≡ Some version) where
  pub made_sends : {V : Type 0} (items : V → List ℕ) (r : Result V ℕ) → list_all is_known rs ≡ true
      → IfOk r (λ v. flat_encoding version 1000 (known_tokens rs) x ≡ Some (items v))
      → IfOk r (λ v. Sends protocol rs x (items v))
  made_sends items (Ok v) all e = sends_given protocol version rs x (items v) version_is all e
  made_sends items (Err status) all e = tt

  pub made_refused : {V : Type 0} (r : Result V ℕ)
      → IfErr r (Refuses (IsSome (flat_encoding version 1000 (known_tokens rs) x)))
      → IfErr r (Refuses (CanSend protocol rs x))
  made_refused (Ok v) h = tt
  made_refused (Err status) (Refuses.memory is) = Refuses.memory is
  made_refused (Err status) (Refuses.range is none) = Refuses.range is
      (λ can. none (given_sends protocol version rs x version_is can))

pub unknown_refused : (protocol : ℕ) (rs : List RespToken) (x : List ℕ) → list_all is_known rs ≡ false
    → Refuses (CanSend protocol rs x) 7
unknown_refused protocol rs x other = Refuses.range refl (λ can. let all = given_known protocol rs x can in absurd (cc))

abbrev IsOther : RedisError → Type 0
IsOther form.OutOfMemory = ⊥
IsOther _ = Unit {0}

-- a refusal that is for want of memory alone where there is something to send
pub refuses_unless : {Fits : Type 0} (e : RedisError) → (Fits → e ≡ form.OutOfMemory) → Refuses Fits (refusal_status e)
refuses_unless (form.Parse p) h = Refuses.range refl (λ fit. subst IsOther (h fit) tt)
refuses_unless (form.General k x d) h = Refuses.range refl (λ fit. subst IsOther (h fit) tt)
refuses_unless (form.Io k) h = Refuses.range refl (λ fit. subst IsOther (h fit) tt)
refuses_unless (form.Server e) h = Refuses.range refl (λ fit. subst IsOther (h fit) tt)
refuses_unless (form.Pipeline es) h = Refuses.range refl (λ fit. subst IsOther (h fit) tt)
refuses_unless (form.Aborted es) h = Refuses.range refl (λ fit. subst IsOther (h fit) tt)
refuses_unless form.OutOfMemory h = Refuses.memory refl

-- what is appended to nothing
pub appended_alone : (o : Option (List ℕ)) → (Some [] ++? o) ≡ o
appended_alone (Some x) = refl
appended_alone None = refl
