-- One text after another.
use Rattle.std.proofs.Common.{◌≡◌, ℕ, suc, Bool, true, false, not, cond, ◌&&◌, List, [], ◌∷◌, ◌++◌, length, take}
use Rattle.std.proofs.Common.{Option, None, Some, Result, Ok, Err, refl, sym, ap, subst, ◌∙◌, append_assoc, append-nil}
use Rattle.std.proofs.Common.{◌+◌, ◌<◌, ◌≤◌, drop, get_or, drop-cons, add-one}
use Rattle.std.proofs.lemmas.List.{drop_all}
use Rattle.std.proofs.lemmas.Result.{err_from_is_err_and}
use Rattle.std.specs.Result.{IsErrAnd}
use Rattle.std.specs.Fmt.{◌++?◌}
use Rattle.std.specs.Str.{IsUtf8, is_utf8}
use Rattle.std.proofs.lemmas.Str.{IsUtf8-from_is_utf8, is_utf8-from_IsUtf8}
use Rattle.resp_value.specs.declared.value.Value.{Value}
use Rattle.resp_parse.proofs.ByteTests.{not_true}
use Rattle.resp_encode.specs.declared.write_error.WriteError.{WriteError}
use Rattle.resp_encode.specs.declared.write_error.WriteError.TheVariants.{Memory, NoSpelling}
use Rattle.resp_encode.specs.Resp2.{flat}
use Rattle.resp_encode.specs.Encoding.{joined, given, is_line, has_break}
use Rattle.resp_encode.specs.Appending.{Keeps, AppendsText}

pub front : (a x : List ℕ) → Keeps a (a ++ x)
front [] x = refl
front (c ∷ a) x = ap (λ s. c ∷ s) (front a x)

pub keeps_then : (a b c : List ℕ) → Keeps a b → Keeps b c → Keeps a c
keeps_then [] b c h k = refl
keeps_then (x ∷ a) [] c h k = absurd (cc)
keeps_then (x ∷ a) (y ∷ b) [] h k = absurd (cc)
keeps_then (x ∷ a) (y ∷ b) (z ∷ c) h k =
    let hh : y ≡ x = cc in
    let kh : z ≡ y = cc in
    let ht : Keeps a b = cc in
    let kt : Keeps b c = cc in
    let t : Keeps a c = keeps_then a b c ht kt in
    cc

-- bytes with a text that was appended
grown : (t : Option (List ℕ)) (a b : List ℕ) → (Some a ++? t) ≡ Some b → Keeps a b
grown (Some x) a b e = let z : a ++ x ≡ b = cc in rw (← z) (front a x)
grown None a b e = absurd (cc)

joined_texts : (t u : Option (List ℕ)) (a b c : List ℕ) → (Some a ++? t) ≡ Some b → (Some b ++? u) ≡ Some c
    → (Some a ++? (t ++? u)) ≡ Some c
joined_texts (Some x) (Some y) a b c e f =
    let z : a ++ x ≡ b = cc in
    let w : b ++ y ≡ c = cc in
    ap (λ s. Some s) (sym (append_assoc a x y) ∙ ap (λ s. s ++ y) z ∙ w)
joined_texts (Some x) None a b c e f = absurd (cc)
joined_texts None u a b c e f = absurd (cc)

none_then : (t u : Option (List ℕ)) → u ≡ None → (t ++? u) ≡ None
none_then (Some x) u e = rw e refl
none_then None u e = refl

-- one text, and what is done with the other
pub appends_then : (r : Result (Unit {0}) WriteError) (t u : Option (List ℕ)) (a b c : List ℕ)
    → AppendsText (Ok tt) t a b → AppendsText r u b c → AppendsText r (t ++? u) a c
unfolding AppendsText
appends_then (Ok done) t u a b c h k = joined_texts t u a b c h k
appends_then (Err NoSpelling) t u a b c h k = (none_then t u k.0, keeps_then a b c (grown t a b h) k.1)
appends_then (Err Memory) t u a b c h k = keeps_then a b c (grown t a b h) k

-- a text that isn't appended, whatever follows it
pub appends_ended : (e : WriteError) (t u : Option (List ℕ)) (a b : List ℕ) → AppendsText (Err e) t a b
    → AppendsText (Err e) (t ++? u) a b
unfolding AppendsText
appends_ended NoSpelling t u a b h = (rw (h.0) refl, h.1)
appends_ended Memory t u a b h = h

-- the exit of a `?`
pub appends_exit : (r : Result (Unit {0}) WriteError) (e : WriteError) (t : Option (List ℕ)) (a b : List ℕ)
    → IsErrAnd r (λ y. y ≡ e) → AppendsText (Err e) t a b → AppendsText r t a b
appends_exit r e t a b x h = let p = err_from_is_err_and r x in rw (p.1, p.2) h

pub appends_refused : (t : Option (List ℕ)) (a : List ℕ) → t ≡ None → AppendsText (Err NoSpelling) t a a
unfolding AppendsText
appends_refused t a e = (e, ap (take (length a)) (sym (append-nil a)) ∙ front a [])

pub appends_nothing : (a : List ℕ) → AppendsText (Ok tt) (Some []) a a
unfolding AppendsText
appends_nothing a = ap (λ s. Some s) (append-nil a)

-- the exit of a `?` at the first of two texts
pub first_exit : (r : Result (Unit {0}) WriteError) (e : WriteError) (t u : Option (List ℕ)) (a b : List ℕ)
    → IsErrAnd r (λ y. y ≡ e) → AppendsText (Err e) t a b → AppendsText r (t ++? u) a b
first_exit r e t u a b x h = appends_exit r e (t ++? u) a b x (appends_ended e t u a b h)

-- ---- tests

pub given_yes : (r : Result (Unit {0}) WriteError) (t : Bool) (x a b : List ℕ) → t ≡ true → AppendsText r (Some x) a b
    → AppendsText r (given t x) a b
given_yes r true x a b e h = h
given_yes r false x a b e h = absurd (cc)

pub given_no : (t : Bool) (x a : List ℕ) → t ≡ false → AppendsText (Err NoSpelling) (given t x) a a
given_no true x a e = absurd (cc)
given_no false x a e = appends_refused None a refl

pub line_of_text : (text : List ℕ) → IsUtf8 text → is_line text ≡ not (has_break text)
line_of_text text u = ap (λ b. b && not (has_break text)) (is_utf8-from_IsUtf8 text u)

pub line_of_bytes : (text : List ℕ) → (IsUtf8 text → ⊥) → is_line text ≡ false
line_of_bytes text none = ap (λ b. b && not (has_break text))
    (not_true (is_utf8 text) (λ t. none (IsUtf8-from_is_utf8 text t)))

pub choice_yes : (r : Result (Unit {0}) WriteError) (t : Bool) (o : Option (List ℕ)) (a b : List ℕ) → t ≡ true
    → AppendsText r o a b → AppendsText r (cond t o None) a b
choice_yes r true o a b e h = h
choice_yes r false o a b e h = absurd (cc)

pub choice_no : (t : Bool) (o : Option (List ℕ)) (a : List ℕ) → t ≡ false
    → AppendsText (Err NoSpelling) (cond t o None) a a
choice_no true o a e = absurd (cc)
choice_no false o a e = appends_refused None a refl

-- memory ran out before anything was written
pub memory_exit : (r : Result (Unit {0}) WriteError) (t : Option (List ℕ)) (a : List ℕ) → IsErrAnd r (λ y. y ≡ Memory)
    → AppendsText r t a a
unfolding AppendsText
memory_exit r t a x = let p = err_from_is_err_and r x in
    rw (p.1, p.2) (ap (take (length a)) (sym (append-nil a)) ∙ front a [])

pub both_false : (s t : Bool) → s ≡ false → (s && t) ≡ false
both_false s t e = rw e refl

pub later_false : (s t : Bool) → t ≡ false → (s && t) ≡ false
later_false true t e = e
later_false false t e = refl

pub chosen : (r : Result (Unit {0}) WriteError) (t : Bool) (o p : Option (List ℕ)) (a b : List ℕ)
    → (t ≡ true → AppendsText r o a b) → (t ≡ false → AppendsText r p a b) → AppendsText r (cond t o p) a b
chosen r true o p a b h k = h refl
chosen r false o p a b h k = k refl

-- ---- values one after another

pub append_texts : (t u w : Option (List ℕ)) → ((t ++? u) ++? w) ≡ (t ++? (u ++? w))
append_texts (Some x) (Some y) (Some z) = ap (λ s. Some s) (append_assoc x y z)
append_texts (Some x) (Some y) None = refl
append_texts (Some x) None w = refl
append_texts None u w = refl

-- the value at a place, and those after it
module _ (spell : Value → Option (List ℕ)) (vs : List Value) (i : ℕ) (v : Value) (inside : i < length vs)
    (here : get_or vs i v ≡ v) where
  from_here : joined spell (drop i vs) ≡ (spell v ++? joined spell (drop (i + 1) vs))
  from_here =
      ap (joined spell) (drop-cons vs i v inside)
      ∙ ap (λ w. spell w ++? joined spell (drop (suc i) vs)) here
      ∙ ap (λ k. spell v ++? joined spell (drop k vs)) (sym (add-one i))

  pub element_then : (r : Result (Unit {0}) WriteError) (a b c : List ℕ) → AppendsText (Ok tt) (spell v) a b
      → AppendsText r (joined spell (drop (i + 1) vs)) b c → AppendsText r (joined spell (drop i vs)) a c
  element_then r a b c h k = subst (λ t. AppendsText r t a c) (sym from_here)
      (appends_then r (spell v) (joined spell (drop (i + 1) vs)) a b c h k)

  pub element_exit : (r : Result (Unit {0}) WriteError) (e : WriteError) (a b : List ℕ) → IsErrAnd r (λ y. y ≡ e)
      → AppendsText (Err e) (spell v) a b → AppendsText r (joined spell (drop i vs)) a b
  element_exit r e a b x h = subst (λ t. AppendsText r t a b) (sym from_here)
      (first_exit r e (spell v) (joined spell (drop (i + 1) vs)) a b x h)

-- no value is left
pub elements_end : (spell : Value → Option (List ℕ)) (vs : List Value) (i : ℕ) (a : List ℕ) → length vs ≤ i
    → AppendsText (Ok tt) (joined spell (drop i vs)) a a
elements_end spell vs i a l = subst (λ x. AppendsText (Ok tt) (joined spell x) a a) (sym (drop_all i vs l))
    (appends_nothing a)

-- the pair at a place, and those after it
module _ (spell : Value → Option (List ℕ)) (ps : List (Value × Value)) (i : ℕ) (p : Value × Value)
    (inside : i < length ps) (here : get_or ps i p ≡ p) where
  pair_from_here : joined spell (flat (drop i ps))
      ≡ (spell p.0 ++? (spell p.1 ++? joined spell (flat (drop (i + 1) ps))))
  pair_from_here =
      ap (λ x. joined spell (flat x)) (drop-cons ps i p inside)
      ∙ ap (λ (w : Value × Value). spell w.0 ++? (spell w.1 ++? joined spell (flat (drop (suc i) ps)))) here
      ∙ ap (λ k. spell p.0 ++? (spell p.1 ++? joined spell (flat (drop k ps)))) (sym (add-one i))

  pub pair_then : (r : Result (Unit {0}) WriteError) (a b c d : List ℕ) → AppendsText (Ok tt) (spell p.0) a b
      → AppendsText (Ok tt) (spell p.1) b c → AppendsText r (joined spell (flat (drop (i + 1) ps))) c d
      → AppendsText r (joined spell (flat (drop i ps))) a d
  pair_then r a b c d h k l = subst (λ t. AppendsText r t a d) (sym pair_from_here)
      (appends_then r (spell p.0) _ a b d h (appends_then r (spell p.1) _ b c d k l))

  pub key_exit : (r : Result (Unit {0}) WriteError) (e : WriteError) (a b : List ℕ) → IsErrAnd r (λ y. y ≡ e)
      → AppendsText (Err e) (spell p.0) a b → AppendsText r (joined spell (flat (drop i ps))) a b
  key_exit r e a b x h = subst (λ t. AppendsText r t a b) (sym pair_from_here) (first_exit r e (spell p.0) _ a b x h)

  pub value_exit : (r : Result (Unit {0}) WriteError) (e : WriteError) (a b c : List ℕ) → IsErrAnd r (λ y. y ≡ e)
      → AppendsText (Ok tt) (spell p.0) a b → AppendsText (Err e) (spell p.1) b c
      → AppendsText r (joined spell (flat (drop i ps))) a c
  value_exit r e a b c x h k = subst (λ t. AppendsText r t a c) (sym pair_from_here)
      (appends_then r (spell p.0) _ a b c h (first_exit r e (spell p.1) _ b c x k))

-- no pair is left
pub pairs_end : (spell : Value → Option (List ℕ)) (ps : List (Value × Value)) (i : ℕ) (a : List ℕ) → length ps ≤ i
    → AppendsText (Ok tt) (joined spell (flat (drop i ps))) a a
pairs_end spell ps i a l = subst (λ x. AppendsText (Ok tt) (joined spell (flat x)) a a) (sym (drop_all i ps l))
    (appends_nothing a)

-- values, and one after them
pub joined_pushed : (spell : Value → Option (List ℕ)) (vs : List Value) (w : Value)
    → joined spell (vs ++ w ∷ []) ≡ (joined spell vs ++? spell w)
joined_pushed spell [] w = no_more (spell w)
  where
    no_more : (t : Option (List ℕ)) → (t ++? Some []) ≡ (Some [] ++? t)
    no_more (Some x) = ap (λ s. Some s) (append-nil x)
    no_more None = refl
joined_pushed spell (v ∷ vs) w = ap (λ t. spell v ++? t) (joined_pushed spell vs w)
    ∙ sym (append_texts (spell v) (joined spell vs) (spell w))

-- a count, values and one after them
pub counted_pushed : (spell : Value → Option (List ℕ)) (t : Option (List ℕ)) (vs : List Value) (w : Value)
    → (t ++? joined spell (vs ++ w ∷ [])) ≡ ((t ++? joined spell vs) ++? spell w)
counted_pushed spell t vs w = ap (λ u. t ++? u) (joined_pushed spell vs w)
    ∙ sym (append_texts t (joined spell vs) (spell w))

pub last_then : (r : Result (Unit {0}) WriteError) (spell : Value → Option (List ℕ)) (t : Option (List ℕ))
    (vs : List Value) (w : Value) (a b c : List ℕ) → AppendsText (Ok tt) (t ++? joined spell vs) a b
    → AppendsText r (spell w) b c → AppendsText r (t ++? joined spell (vs ++ w ∷ [])) a c
last_then r spell t vs w a b c h k = subst (λ u. AppendsText r u a c) (sym (counted_pushed spell t vs w))
    (appends_then r _ (spell w) a b c h k)

pub last_exit : (r : Result (Unit {0}) WriteError) (e : WriteError) (spell : Value → Option (List ℕ))
    (t : Option (List ℕ)) (vs : List Value) (w : Value) (a b : List ℕ) → IsErrAnd r (λ y. y ≡ e)
    → AppendsText (Err e) (t ++? joined spell vs) a b → AppendsText r (t ++? joined spell (vs ++ w ∷ [])) a b
last_exit r e spell t vs w a b x h = subst (λ u. AppendsText r u a b) (sym (counted_pushed spell t vs w))
    (first_exit r e _ (spell w) a b x h)

-- the exit of a `?` at the second of three texts
pub second_exit : (r : Result (Unit {0}) WriteError) (e : WriteError) (t u w : Option (List ℕ)) (a b c : List ℕ)
    → IsErrAnd r (λ y. y ≡ e) → AppendsText (Ok tt) t a b → AppendsText (Err e) u b c
    → AppendsText r (t ++? (u ++? w)) a c
second_exit r e t u w a b c x h k = appends_then r t (u ++? w) a b c h (first_exit r e u w b c x k)
