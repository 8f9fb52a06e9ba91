-- What is read and written, one after another.
use Rattle.std.proofs.Common.{◌≡◌, ℕ, zero, suc, ◌+◌, List, [], ◌∷◌, ◌++◌, length, Option, None, Some, Result, Ok}
use Rattle.std.proofs.Common.{Err}
use Rattle.std.proofs.Common.{refl, sym, ap, subst, ◌∙◌, append_assoc, append-nil, arith}
use Rattle.std.proofs.lemmas.Result.{err_from_is_err_and}
use Rattle.std.specs.Result.{IsErrAnd}
use Rattle.std.specs.Fmt.{◌++?◌}
use Rattle.resp_value.specs.declared.value.Value.{Value}
use Rattle.resp_flat.specs.declared.token.Token.{Token}
use Rattle.resp_flat.specs.Reading.{Read, refused, got, then, made_of, next_values, next_pairs}
use Rattle.resp_encode.specs.declared.write_error.WriteError.{WriteError}
use Rattle.resp_encode.specs.declared.write_error.WriteError.TheVariants.{Memory, NoSpelling}
use Rattle.resp_encode.specs.Resp2.{flat}
use Rattle.resp_encode.specs.Encoding.{joined}
use Rattle.resp_encode.specs.Appending.{Keeps, AppendsText}
use Rattle.resp_encode.specs.FlatEncoding.{spelled, after, both, AppendsRead}
use Rattle.resp_encode.proofs.AppendedTexts.{front, keeps_then}

abbrev pub Tokens : Type 0
Tokens = List Token

abbrev pub Bytes : Type 0
Bytes = List ℕ

abbrev pub Spell : Type 0 → Type 0
Spell A = A → Option Bytes

abbrev Next : Type 0 → Type 0
Next A = Tokens → ℕ → Read A

-- ---- what is appended

after_after : (a x : Bytes) (r : Read Bytes) → after a (after x r) ≡ after (a ++ x) r
after_after a x refused = refl
after_after a x (got y ts at) = ap (λ (z : Bytes). got z ts at) (sym (append_assoc a x y))

after_nothing : (r : Read Bytes) → after [] r ≡ r
after_nothing refused = refl
after_nothing (got y ts at) = refl

-- a text that needs no more of the tokens
pub text_read : (r : Result (Unit {0}) WriteError) (t : Option Bytes) (ts : Tokens) (at : ℕ) (a b : Bytes)
    → AppendsText r t a b → AppendsRead r (made_of t ts at) a b ts at
unfolding AppendsText AppendsRead
text_read (Ok done) (Some x) ts at a b h = let z : a ++ x ≡ b = cc in ap (λ (c : Bytes). got c ts at) z
text_read (Ok done) None ts at a b h = absurd (cc)
text_read (Err NoSpelling) t ts at a b h = (ap (λ (o : Option Bytes). made_of o ts at) h.0, h.1)
text_read (Err Memory) t ts at a b h = h

-- one, and what is done with what follows it
pub reads_then : (r : Result (Unit {0}) WriteError) (s : Read Bytes) (f : Next Bytes) (a b c : Bytes) (us ws : Tokens)
    (from to : ℕ) → AppendsRead (Ok tt) s a b us from → AppendsRead r (f us from) b c ws to
    → AppendsRead r (both s f) a c ws to
unfolding AppendsRead
reads_then r refused f a b c us ws from to h k = absurd (cc)
reads_then r (got x ts at) f a b c us ws from to h k =
    let z : a ++ x ≡ b = cc in
    let u : ts ≡ us = cc in
    let v : at ≡ from = cc in
    let here : f ts at ≡ f us from = ap (λ (vs : Tokens). f vs at) u ∙ ap (λ (n : ℕ). f us n) v in
    by r here (rw (← z) (front a x))
    (after_after a x (f ts at) ∙ ap (λ (y : Bytes). after y (f ts at)) z ∙ ap (λ (q : Read Bytes). after b q) here) k
  where
    by : (r : Result (Unit {0}) WriteError) → f ts at ≡ f us from → Keeps a b
        → after a (after x (f ts at)) ≡ after b (f us from) → AppendsRead r (f us from) b c ws to
        → AppendsRead r (after x (f ts at)) a c ws to
    by (Ok done) here keeps same k = same ∙ k
    by (Err NoSpelling) here keeps same k = (
      ap (λ (q : Read Bytes). after x q) (here
          ∙ k.0),
      keeps_then a b c keeps k.1,
    )
    by (Err Memory) here keeps same k = keeps_then a b c keeps k

-- the exit of a `?`: a refusal stays, whatever follows
pub reads_exit : (r : Result (Unit {0}) WriteError) (e : WriteError) (s : Read Bytes) (f : Next Bytes) (a b : Bytes)
    (us ws : Tokens) (from to : ℕ) → IsErrAnd r (λ y. y ≡ e) → AppendsRead (Err e) s a b us from
    → AppendsRead r (both s f) a b ws to
unfolding AppendsRead
reads_exit r e s f a b us ws from to x h = let p = err_from_is_err_and r x in rw (p.1, p.2) (by e h)
  where
    by : (e : WriteError) → AppendsRead (Err e) s a b us from → AppendsRead (Err e) (both s f) a b ws to
    by NoSpelling h = (ap (λ (q : Read Bytes). both q f) h.0, h.1)
    by Memory h = h

-- the same of a text
pub text_exit : (r : Result (Unit {0}) WriteError) (e : WriteError) (t : Option Bytes) (f : Next Bytes) (a b : Bytes)
    (us ws : Tokens) (from to : ℕ) → IsErrAnd r (λ y. y ≡ e) → AppendsText (Err e) t a b
    → AppendsRead r (both (made_of t us from) f) a b ws to
text_exit r e t f a b us ws from to x h = reads_exit r e (made_of t us from) f a b us ws from to x
    (text_read (Err e) t us from a b h)

pub text_then : (r : Result (Unit {0}) WriteError) (t : Option Bytes) (f : Next Bytes) (a b c : Bytes)
    (us ws : Tokens)
    (from to : ℕ) → AppendsText (Ok tt) t a b → AppendsRead r (f us from) b c ws to
    → AppendsRead r (both (made_of t us from) f) a c ws to
text_then r t f a b c us ws from to h k = reads_then r (made_of t us from) f a b c us ws from to
    (text_read (Ok tt) t us from a b h) k

pub reads_as : (r : Result (Unit {0}) WriteError) (s q : Read Bytes) (a b : Bytes) (ts : Tokens) (at : ℕ) → s ≡ q
    → AppendsRead r q a b ts at → AppendsRead r s a b ts at
reads_as r s q a b ts at e h = subst (λ (x : Read Bytes). AppendsRead r x a b ts at) (sym e) h

pub reads_refused : (s : Read Bytes) (a : Bytes) (ts : Tokens) (at : ℕ) → s ≡ refused
    → AppendsRead (Err NoSpelling) s a a ts at
unfolding AppendsRead
reads_refused s a ts at e = (e, ap (λ (x : Bytes). x) (keeps_itself a))
  where
    keeps_itself : (a : Bytes) → Keeps a a
    keeps_itself a = subst (Keeps a) (append-nil a) (front a [])

-- the exit of a `?` at what isn't read
pub refused_exit : (r : Result (Unit {0}) WriteError) (e : WriteError) (s : Read Bytes) (a : Bytes) (ts : Tokens)
    (at : ℕ)
    → IsErrAnd r (λ y. y ≡ e) → e ≡ NoSpelling → s ≡ refused → AppendsRead r s a a ts at
refused_exit r e s a ts at x is none = let p = err_from_is_err_and r x in
    rw (p.1, p.2 ∙ is) (reads_refused s a ts at none)

-- ---- what is spelled of what is read

pub then_got : {A B : Type 0} (w : Spell B) (g : A → B) (r : Read A) → spelled w (then r (λ a. got (g a)))
    ≡ spelled (λ a. w (g a)) r
then_got w g refused = refl
then_got w g (got a ts at) = refl

pub spelled_same : {A : Type 0} (f g : Spell A) (r : Read A) → ((a : A) → f a ≡ g a) → spelled f r ≡ spelled g r
spelled_same f g refused e = refl
spelled_same f g (got a ts at) e = ap (λ (o : Option Bytes). made_of o ts at) (e a)

both_same : (r : Read Bytes) (f g : Next Bytes) → ((us : Tokens) (from : ℕ) → f us from ≡ g us from)
    → both r f ≡ both r g
both_same refused f g e = refl
both_same (got x us from) f g e = ap (λ (q : Read Bytes). after x q) (e us from)

after_both : (x : Bytes) (r : Read Bytes) (g : Next Bytes) → both (after x r) g ≡ after x (both r g)
after_both x refused g = refl
after_both x (got y us from) g = sym (after_after x y (g us from))

both_both : (r : Read Bytes) (f g : Next Bytes) → both (both r f) g ≡ both r (λ us from. both (f us from) g)
both_both refused f g = refl
both_both (got x us from) f g = after_both x (f us from) g

-- a text before what is read
pub head_made : {A : Type 0} (spell : Spell A) (o : Option Bytes) (f : Next A) (us : Tokens) (from : ℕ)
    → spelled (λ a. o ++? spell a) (f us from) ≡ both (made_of o us from) (λ ts at. spelled spell (f ts at))
head_made spell None f us from = none (f us from)
  where
    none : (r : Read _) → spelled (λ a. None ++? spell a) r ≡ refused
    none refused = refl
    none (got a ts at) = refl
head_made spell (Some x) f us from = some (f us from)
  where
    made : (o : Option Bytes) (ts : Tokens) (at : ℕ) → made_of (Some x ++? o) ts at ≡ after x (made_of o ts at)
    made None ts at = refl
    made (Some y) ts at = refl

    some : (r : Read _) → spelled (λ a. Some x ++? spell a) r ≡ after x (spelled spell r)
    some refused = refl
    some (got a ts at) = made (spell a) ts at

-- one that is read and then another
pub read_both : {A B C : Type 0} (s : Spell A) (t : Spell B) (w : Spell C) (g : A → B → C) (f : Next B) (r : Read A)
    → ((a : A) (b : B) → w (g a b) ≡ (s a ++? t b))
    → spelled w (then r (λ a us from. then (f us from) (λ b. got (g a b))))
    ≡ both (spelled s r) (λ us from. spelled t (f us from))
read_both s t w g f refused e = refl
read_both s t w g f (got a us from) e =
    then_got w (g a) (f us from) ∙ spelled_same (λ b. w (g a b)) (λ b. s a ++? t b) (f us from) (e a)
    ∙ head_made t (s a) f us from

module _ (spell : Spell Value) (read : Next Value) where
  abbrev pub Values : ℕ → Next Bytes
  Values n ts at = spelled (joined spell) (next_values read n ts at)

  abbrev pub Pairs : ℕ → Next Bytes
  Pairs n ts at = spelled (λ ps. joined spell (flat ps)) (next_pairs read n ts at)

  pub values_more : (n : ℕ) (ts : Tokens) (at : ℕ) → Values (suc n) ts at
      ≡ both (spelled spell (read ts at)) (Values n)
  values_more n ts at = read_both spell (joined spell) (joined spell) (λ v vs. v ∷ vs) (next_values read n)
      (read ts at)
      (λ v vs. refl)

  -- one, and those after it
  values_first : (m n : ℕ) (ts : Tokens) (at : ℕ) → m ≡ suc n → Values m ts at
      ≡ both (spelled spell (read ts at)) (Values n)
  values_first m n ts at e = ap (λ (k : ℕ). Values k ts at) e ∙ values_more n ts at

  -- one, and what is done with those after it
  pub value_then : (r : Result (Unit {0}) WriteError) (m n : ℕ) (a b c : Bytes) (ts us ws : Tokens) (at from to : ℕ)
      → m ≡ suc n → AppendsRead (Ok tt) (spelled spell (read ts at)) a b us from
      → AppendsRead r (Values n us from) b c ws to → AppendsRead r (Values m ts at) a c ws to
  value_then r m n a b c ts us ws at from to e h k = reads_as r _ _ a c ws to (values_first m n ts at e)
      (reads_then r (spelled spell (read ts at)) (Values n) a b c us ws from to h k)

  pub value_exit : (r : Result (Unit {0}) WriteError) (e : WriteError) (m n : ℕ) (a b : Bytes) (ts us ws : Tokens)
      (at from to : ℕ) → m ≡ suc n → IsErrAnd r (λ y. y ≡ e)
      → AppendsRead (Err e) (spelled spell (read ts at)) a b us from → AppendsRead r (Values m ts at) a b ws to
  value_exit r e m n a b ts us ws at from to more x h = reads_as r _ _ a b ws to (values_first m n ts at more)
      (reads_exit r e (spelled spell (read ts at)) (Values n) a b us ws from to x h)

  pub values_none : (n : ℕ) (a : Bytes) (ts : Tokens) (at : ℕ) → n ≡ 0
      → AppendsRead (Ok tt) (Values n ts at) a a ts at
  unfolding AppendsRead
  values_none n a ts at e = ap (λ (k : ℕ). after a (Values k ts at)) e
      ∙ ap (λ (b : Bytes). got b ts at) (append-nil a)

  values_sum : (m n : ℕ) (ts : Tokens) (at : ℕ) → Values (m + n) ts at ≡ both (Values m ts at) (Values n)
  values_sum zero n ts at =
      let e : zero + n ≡ n = omega arith in
      ap (λ (k : ℕ). Values k ts at) e ∙ sym (after_nothing (Values n ts at))
  values_sum (suc m) n ts at =
      let e : suc m + n ≡ suc (m + n) = omega arith in
      ap (λ (k : ℕ). Values k ts at) e ∙ values_more (m + n) ts at
      ∙ both_same (spelled spell (read ts at)) (Values (m + n)) (λ us from. both (Values m us from) (Values n))
      (values_sum m n)
      ∙ sym (both_both (spelled spell (read ts at)) (Values m) (Values n))
      ∙ ap (λ (q : Read Bytes). both q (Values n)) (sym (values_more m ts at))

  pair_more : (n : ℕ) (ts : Tokens) (at : ℕ) → Pairs (suc n) ts at
      ≡ both (spelled spell (read ts at)) (λ us from. both (spelled spell (read us from)) (Pairs n))
  pair_more n ts at = by (read ts at)
    where
      rest : Spell (Value × List (Value × Value))
      rest p = spell p.0 ++? joined spell (flat p.1)

      second : Next (Value × List (Value × Value))
      second us from = then (read us from) (λ v ws to. then (next_pairs read n ws to) (λ ps. got (v, ps)))

      two : (k : Value) (r : Read Value)
          → spelled (λ ps. joined spell (flat ps))
          (then r (λ v ws to. then (next_pairs read n ws to) (λ ps. got ((k, v) ∷ ps))))
          ≡ spelled (λ p. spell k ++? rest p) (then r (λ v ws to. then (next_pairs read n ws to) (λ ps. got (v, ps))))
      two k refused = refl
      two k (got v ws to) =
          then_got (λ ps. joined spell (flat ps)) (λ ps. (k, v) ∷ ps) (next_pairs read n ws to)
          ∙ sym (then_got (λ p. spell k ++? rest p) (λ ps. (v, ps)) (next_pairs read n ws to))

      by : (r : Read Value)
          → spelled (λ ps. joined spell (flat ps)) (then r (λ k us from. then (read us from)
          (λ v ws to. then (next_pairs read n ws to) (λ ps. got ((k, v) ∷ ps)))))
          ≡ both (spelled spell r) (λ us from. both (spelled spell (read us from)) (Pairs n))
      by refused = refl
      by (got k us from) =
          two k (read us from) ∙ head_made rest (spell k) second us from
          ∙ both_same (made_of (spell k) us from) (λ ts at. spelled rest (second ts at))
          (λ ws to. both (spelled spell (read ws to)) (Pairs n))
          (λ ws to. read_both spell (λ ps. joined spell (flat ps)) rest (λ v ps. (v, ps)) (next_pairs read n)
          (read ws to)
          (λ v ps. refl))

  pairs_sum : (n : ℕ) (ts : Tokens) (at : ℕ) → Pairs n ts at ≡ Values (n + n) ts at
  pairs_sum zero ts at =
      let e : zero ≡ zero + zero = omega arith in
      ap (λ (k : ℕ). Values k ts at) e
  pairs_sum (suc n) ts at =
      let e : suc (suc (n + n)) ≡ suc n + suc n = omega arith in
      pair_more n ts at
      ∙ both_same (spelled spell (read ts at)) (λ us from. both (spelled spell (read us from)) (Pairs n)) (Values
      (suc (n + n)))
      (λ us from. both_same (spelled spell (read us from)) (Pairs n) (Values (n + n)) (pairs_sum n)
      ∙ sym (values_more (n + n) us from))
      ∙ sym (values_more (suc (n + n)) ts at) ∙ ap (λ (k : ℕ). Values k ts at) e

  -- as many keys and values are as many values twice
  pub pairs_twice : (n : ℕ) (ts : Tokens) (at : ℕ) → Pairs n ts at ≡ both (Values n ts at) (Values n)
  pairs_twice n ts at = pairs_sum n ts at ∙ values_sum n n ts at

  -- as many are read as were asked for
  values_counted : (w : ℕ → Spell (List Value)) (n : ℕ) (ts : Tokens) (at : ℕ)
      → spelled (λ vs. w (length vs) vs) (next_values read n ts at) ≡ spelled (w n) (next_values read n ts at)
  values_counted w zero ts at = refl
  values_counted w (suc n) ts at = by (read ts at) (λ v. values_counted (λ k vs. w (suc k) (v ∷ vs)) n)
    where
      by : (r : Read Value)
          → ((v : Value) (us : Tokens) (from : ℕ) → spelled (λ vs. w (suc (length vs)) (v ∷ vs))
          (next_values read n us from)
          ≡ spelled (λ vs. w (suc n) (v ∷ vs)) (next_values read n us from))
          → spelled (λ vs. w (length vs) vs) (then r (λ v us from. then (next_values read n us from) (λ vs. got
          (v ∷ vs))))
          ≡ spelled (w (suc n)) (then r (λ v us from. then (next_values read n us from) (λ vs. got (v ∷ vs))))
      by refused others = refl
      by (got v us from) others =
          then_got (λ vs. w (length vs) vs) (λ vs. v ∷ vs) (next_values read n us from)
          ∙ others v us from
          ∙ sym (then_got (w (suc n)) (λ vs. v ∷ vs) (next_values read n us from))

  pairs_counted : (w : ℕ → Spell (List (Value × Value))) (n : ℕ) (ts : Tokens) (at : ℕ)
      → spelled (λ ps. w (length ps) ps) (next_pairs read n ts at) ≡ spelled (w n) (next_pairs read n ts at)
  pairs_counted w zero ts at = refl
  pairs_counted w (suc n) ts at = by (read ts at) (λ k v. pairs_counted (λ m ps. w (suc m) ((k, v) ∷ ps)) n)
    where
      Others : Type 0
      Others = (k v : Value) (us : Tokens) (from : ℕ)
          → spelled (λ ps. w (suc (length ps)) ((k, v) ∷ ps)) (next_pairs read n us from)
          ≡ spelled (λ ps. w (suc n) ((k, v) ∷ ps)) (next_pairs read n us from)

      inner : (k : Value) (r : Read Value) → Others
          → spelled (λ ps. w (length ps) ps) (then r (λ v ws to. then (next_pairs read n ws to) (λ ps. got
          ((k, v) ∷ ps))))
          ≡ spelled (w (suc n)) (then r (λ v ws to. then (next_pairs read n ws to) (λ ps. got ((k, v) ∷ ps))))
      inner k refused others = refl
      inner k (got v ws to) others =
          then_got (λ ps. w (length ps) ps) (λ ps. (k, v) ∷ ps) (next_pairs read n ws to)
          ∙ others k v ws to
          ∙ sym (then_got (w (suc n)) (λ ps. (k, v) ∷ ps) (next_pairs read n ws to))

      by : (r : Read Value) → Others
          → spelled (λ ps. w (length ps) ps) (then r (λ k us from. then (read us from)
          (λ v ws to. then (next_pairs read n ws to) (λ ps. got ((k, v) ∷ ps)))))
          ≡ spelled (w (suc n)) (then r (λ k us from. then (read us from)
          (λ v ws to. then (next_pairs read n ws to) (λ ps. got ((k, v) ∷ ps)))))
      by refused others = refl
      by (got k us from) others = inner k (read us from) others

  -- a count, and as many values or pairs
  pub list_read : (w : Spell Value) (make : List Value → Value) (c : ℕ → Option Bytes) (n : ℕ) (ts : Tokens) (at : ℕ)
      → ((vs : List Value) → w (make vs) ≡ (c (length vs) ++? joined spell vs))
      → spelled w (then (next_values read n ts at) (λ vs. got (make vs))) ≡ both (made_of (c n) ts at) (Values n)
  list_read w make c n ts at e =
      then_got w make (next_values read n ts at)
      ∙ spelled_same (λ vs. w (make vs)) (λ vs. c (length vs) ++? joined spell vs) (next_values read n ts at) e
      ∙ values_counted (λ k vs. c k ++? joined spell vs) n ts at
      ∙ head_made (joined spell) (c n) (next_values read n) ts at

  pub pairs_read : (w : Spell (List (Value × Value))) (c : ℕ → Option Bytes) (n : ℕ) (ts : Tokens) (at : ℕ)
      → ((ps : List (Value × Value)) → w ps ≡ (c (length ps) ++? joined spell (flat ps)))
      → spelled w (next_pairs read n ts at) ≡ both (made_of (c n) ts at) (Pairs n)
  pairs_read w c n ts at e =
      spelled_same w (λ ps. c (length ps) ++? joined spell (flat ps)) (next_pairs read n ts at) e
      ∙ pairs_counted (λ k ps. c k ++? joined spell (flat ps)) n ts at
      ∙ head_made (λ ps. joined spell (flat ps)) (c n) (next_pairs read n) ts at
