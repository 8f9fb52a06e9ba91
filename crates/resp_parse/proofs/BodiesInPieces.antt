-- Bodies that come in pieces.
use Rattle.std.proofs.Common.{◌≡◌, ℕ, zero, suc, ◌+◌, ◌-◌, ◌<◌, ◌≤◌, min, List, [], ◌∷◌, ◌++◌, length, take, drop, refl}
use Rattle.std.proofs.Common.{ap, sym, ◌∙◌, append_assoc, subst, arith, Option, Some, None, Ok, Err, true, false}
use Rattle.std.proofs.lemmas.List.{append-nil}
use Rattle.std.proofs.lemmas.Grind.{common_steps}
use Rattle.resp_value.specs.declared.value.Value.{Value}
use Rattle.resp_errors.specs.declared.kinds.FrameFault.TheVariants.{BodyEnd}
use Rattle.resp_parse.specs.declared.read_error.ReadError.{ReadError}
use Rattle.resp_parse.specs.declared.read_error.ReadError.TheVariants.{Memory, Fault}
use Rattle.resp_parse.specs.declared.body.Body.{Body}
use Rattle.resp_parse.specs.declared.machine.Machine.{Machine}
use Rattle.resp_parse.specs.declared.machine.Step.TheVariants as step
use Rattle.resp_parse.specs.PlainReading.{ReadOutcome, got, fault, incomplete, then, end_of_body, read_body, made}
use Rattle.resp_parse.specs.Shapes.{body_value}
use Rattle.resp_parse.specs.Computes.{Computes}
use Rattle.resp_parse.specs.Resume.{value_of, place, resume, depth_left, IsScanned, EndsBody, BeginsWithBody, FillsBody}
use Rattle.resp_parse.specs.Resume.{Steps}
use Rattle.resp_parse.specs.Lines.{crlf}
use Rattle.resp_parse.proofs.BodyReads.{body-got, body-reads}

pub drop-all : (n : ℕ) (xs : List ℕ) → length xs ≤ n → drop n xs ≡ []
drop-all zero [] l = refl
drop-all zero (x ∷ xs) l = absurd (omega arith)
drop-all (suc n) [] l = refl
drop-all (suc n) (x ∷ xs) l = drop-all n xs (omega arith)

pub drop-drop : (n k : ℕ) (xs : List ℕ) → drop k (drop n xs) ≡ drop (n + k) xs
drop-drop n k xs = grind (arith, common_steps)

abbrev in_body : (List ℕ → List ℕ → ReadOutcome Value) → List ℕ → ℕ → List ℕ → ReadOutcome Value
in_body K bytes n more = then (read_body n more) (λ x rest. K (bytes ++ x) rest)

one_more : (K : List ℕ → List ℕ → ReadOutcome Value) (bytes : List ℕ) (b : ℕ) (o : ReadOutcome (List ℕ)) →
    then (then o (λ x rest. got (b ∷ x) rest)) (λ x rest. K (bytes ++ x) rest)
    ≡ then o (λ x rest. K ((bytes ++ b ∷ []) ++ x) rest)
one_more K bytes b (got x rest) = ap (λ s. K s rest) (sym (append_assoc bytes (b ∷ []) x))
one_more K bytes b (fault f rest) = refl
one_more K bytes b incomplete = refl

runs : (K : List ℕ → List ℕ → ReadOutcome Value) (n : ℕ) (bytes piece : List ℕ) → length piece ≤ n → (more : List ℕ) →
    in_body K bytes n (piece ++ more) ≡ in_body K (bytes ++ piece) (n - length piece) more
runs K n bytes [] l more = let e : n - 0 ≡ n = omega arith in rw (e, append-nil bytes) refl
runs K zero bytes (b ∷ piece) l more = absurd (omega arith)
runs K (suc n) bytes (b ∷ piece) l more =
    let e : suc n - suc (length piece) ≡ n - length piece = omega arith in
    one_more K bytes b (read_body n (piece ++ more)) ∙ runs K n (bytes ++ b ∷ []) piece (omega arith) more
    ∙ ap (λ s. in_body K s (n - length piece) more) (append_assoc bytes (b ∷ []) piece)
    ∙ ap (λ k. in_body K (bytes ++ (b ∷ piece)) k more) (sym e)

-- a body that took n bytes
module _ (old new : Body) (bytes : List ℕ) (n : ℕ) (n_is : n ≡ min (length bytes) old.missing)
    (new_is : new ≡ record old { missing = old.missing - n; seen = old.seen ++ take n bytes }) where
  fills : (d : ℕ) (more : List ℕ) → value_of d (Some old) (bytes ++ more) ≡ value_of d (Some new) (drop n bytes ++ more)
  fills d more =
      let K : List ℕ → List ℕ → ReadOutcome Value = λ x rest. made (body_value old.kind x) rest in
      let l : length (take n bytes) ≡ n = grind (arith, common_steps) in
      let s : bytes ++ more ≡ take n bytes ++ (drop n bytes ++ more) = ap (λ s. s ++ more)
      (sym (Rattle.std.proofs.lemmas.List.take-append-drop n bytes))
      ∙ append_assoc (take n bytes) (drop n bytes) more in
      ap (in_body K old.seen old.missing) s
      ∙ runs K old.missing old.seen (take n bytes) (omega (arith, l, n_is)) (drop n bytes ++ more)
      ∙ ap (λ k. in_body K (old.seen ++ take n bytes) (old.missing - k) (drop n bytes ++ more)) l
      ∙ ap (λ (b : Body). value_of d (Some b) (drop n bytes ++ more)) (sym new_is)

  missing-is : new.missing ≡ old.missing - n
  missing-is = ap (λ (b : Body). b.missing) new_is

  kind-is : new.kind ≡ old.kind
  kind-is = ap (λ (b : Body). b.kind) new_is

  -- something is missing only where no byte is left
  none_left : 0 < new.missing → drop n bytes ≡ []
  none_left l = drop-all n bytes (omega (arith, missing-is, n_is, l))

  -- with no CR LF the body waits
  waits-missing : (k d : ℕ) → new.missing ≡ k → end_of_body (drop n bytes) ≡ incomplete
      → value_of d (Some new) (drop n bytes) ≡ incomplete
  waits-missing zero d e h = ap (λ k. in_body (λ x rest. made (body_value new.kind x) rest) new.seen k (drop n bytes)) e
      ∙ rw h refl
  waits-missing (suc k) d e h =
      let none : drop n bytes ≡ [] = none_left (omega (arith, e)) in
      ap (λ k. in_body (λ x rest. made (body_value new.kind x) rest) new.seen k (drop n bytes)) e
      ∙ ap (λ s. in_body (λ x rest. made (body_value new.kind x) rest) new.seen (suc k) s) none

  -- the byte after the body is a fault: nothing is missing
  none_missing : (k j : ℕ) → new.missing ≡ k → EndsBody (drop n bytes) (Err j) → k ≡ 0
  none_missing zero j e h = refl
  none_missing (suc k) j e h =
      let none : drop n bytes ≡ [] = none_left (omega (arith, e)) in
      absurd (let z : end_of_body ([] ++ []) ≡ fault BodyEnd (drop j (drop n bytes) ++ []) = ap
      (λ s. end_of_body (s ++ [])) (sym none) ∙ h.1 [] in cc)

  -- the body and its CR LF are there
  whole : (d : ℕ) (more : List ℕ) → 2 ≤ length (drop n bytes) → end_of_body (drop n bytes ++ more)
      ≡ got [] (drop 2 (drop n bytes) ++ more) →
      value_of d (Some new) (drop n bytes ++ more) ≡ made (body_value new.kind new.seen) (drop 2 (drop n bytes) ++ more)
  whole d more l h =
      let r : length (drop n bytes) ≡ length bytes - n = grind (arith, common_steps) in
      let z : new.missing ≡ 0 = omega (arith, missing-is, n_is, l, r) in
      ap (λ k. in_body (λ x rest. made (body_value new.kind x) rest) new.seen k (drop n bytes ++ more)) z
      ∙ ap (λ o. then o (λ x rest. made (body_value new.kind (new.seen ++ x)) rest)) h
      ∙ ap (λ s. made (body_value new.kind s) (drop 2 (drop n bytes) ++ more)) (append-nil new.seen)

  malformed : (d j : ℕ) → EndsBody (drop n bytes) (Err j) → (more : List ℕ)
      → value_of d (Some new) (drop n bytes ++ more) ≡ fault BodyEnd (drop (n + j) bytes ++ more)
  malformed d j h more =
      let z : new.missing ≡ 0 = none_missing new.missing j refl h in
      ap (λ k. in_body (λ x rest. made (body_value new.kind x) rest) new.seen k (drop n bytes ++ more)) z
      ∙ ap (λ o. then o (λ x rest. made (body_value new.kind (new.seen ++ x)) rest)) (h.1 more)
      ∙ ap (λ s. fault BodyEnd (s ++ more)) (drop-drop n j bytes)

-- a machine in a body that took n bytes
module _ {B : Type 0} (m : Machine B) (old new : Body) (bytes : List ℕ) (n : ℕ) (body_is : m.body ≡ Some old)
    (h : FillsBody {E = Unit {0}} old bytes new (Ok n)) where
  pub resumes : (more : List ℕ) → resume m (bytes ++ more)
      ≡ then (value_of (depth_left m.depth m.open_aggregates) (Some new) (drop n bytes ++ more))
      (place m.depth m.open_aggregates)
  resumes more =
      ap (λ o. then (value_of (depth_left m.depth m.open_aggregates) o (bytes ++ more))
      (place m.depth m.open_aggregates)) body_is
      ∙ ap (λ o. then o (place m.depth m.open_aggregates))
      (fills old new bytes n h.0 h.1 (depth_left m.depth m.open_aggregates) more)

  within : n ≤ length bytes
  within = omega (arith, h.0)

  pub body-waits : m.scanned ≡ 0 → EndsBody (drop n bytes) (Ok false) → (m' : Machine B) → m'
      ≡ record m { builder = m'.builder; body = Some new } → Steps m bytes m' (Ok (step.Waits n))
  body-waits s e m' i = rw i (record {
    within = within;
    same = resumes;
    waits = ap (λ o. then o (place m.depth m.open_aggregates))
        (waits-missing old new bytes n h.0 h.1 new.missing (depth_left m.depth m.open_aggregates) refl e);
    scanned = s;
    fresh = λ e. absurd (cc);
    begun = λ _. rw body_is refl;
  })

  pub body-malformed : (m' : Machine B) (j : ℕ) → m'.shown ≡ n + j → EndsBody (drop n bytes) (Err j)
      → Steps m bytes m' (Err (Fault BodyEnd))
  body-malformed m' j i e =
      let r : length (drop n bytes) ≡ length bytes - n = grind (arith, common_steps) in
      let l : j ≤ length (drop n bytes) = e.0 in
      rw i (
        omega (arith, r, l, within),
        λ more. resumes more
            ∙ ap (λ o. then o (place m.depth m.open_aggregates))
            (malformed old new bytes n h.0 h.1 (depth_left m.depth m.open_aggregates) j e more),
      )

  ended : EndsBody (drop n bytes) (Ok true) → (more : List ℕ) → resume m (bytes ++ more)
      ≡ then (made (body_value new.kind new.seen) (drop 2 (drop n bytes) ++ more)) (place m.depth m.open_aggregates)
  ended e more = resumes more ∙ ap (λ o. then o (place m.depth m.open_aggregates))
      (whole old new bytes n h.0 h.1 (depth_left m.depth m.open_aggregates) more e.0 (e.1 more))

  pub body-refused : EndsBody (drop n bytes) (Ok true) → (m' : Machine B) (e : ReadError) → m'.shown ≡ n + 2
      → Computes (Err e) (body_value new.kind new.seen) → Steps m bytes m' (Err e)
  body-refused e m' Memory i c = tt
  body-refused e m' (Fault f) i c =
      let r : length (drop n bytes) ≡ length bytes - n = grind (arith, common_steps) in
      let l : 2 ≤ length (drop n bytes) = e.0 in
      let d : drop 2 (drop n bytes) ≡ drop (n + 2) bytes = drop-drop n 2 bytes in
      rw i (omega (arith, r, l, within), λ more. ended e more ∙ rw (c, d) refl)

  pub body-whole : m.scanned ≡ 0 → EndsBody (drop n bytes) (Ok true) → (m' : Machine B) → m'
      ≡ record m { builder = m'.builder; body = None } → (w : Value) → Computes (Ok w) (body_value new.kind new.seen)
      → Steps m bytes m' (Ok (step.Whole (n + 2) w))
  body-whole s e m' i w c =
      let r : length (drop n bytes) ≡ length bytes - n = grind (arith, common_steps) in
      let l : 2 ≤ length (drop n bytes) = e.0 in
      let d : drop 2 (drop n bytes) ≡ drop (n + 2) bytes = drop-drop n 2 bytes in
      rw i (
        record {
          some = omega arith;
          within = omega arith;
          same = λ more. ended e more ∙ rw (c, d) refl;
          scanned = s;
        },
        refl,
      )

-- no line is looked at while a body is open
pub IsScanned-body : {B : Type 0} (m : Machine B) (b : Body) (bytes : List ℕ) → m.body ≡ Some b
    → IsScanned m.body m.scanned bytes → m.scanned ≡ 0
IsScanned-body m b bytes e h =
    let k : IsScanned (Some b) m.scanned bytes = subst (λ (o : Option Body). IsScanned o m.scanned bytes) e h in k

-- a body at the start of bytes, where it and its CR LF are there
pub begins_with_body : (n : ℕ) (bs x e : List ℕ) → n ≤ length bs → x ≡ take n bs → e ≡ drop n bs → EndsBody e (Ok true)
    → BeginsWithBody n bs x
begins_with_body n bs x e l x_is e_is h =
    let k : end_of_body e ≡ got [] (drop 2 e) = ap end_of_body (sym (append-nil e)) ∙ h.1 []
    ∙ ap (got []) (append-nil (drop 2 e)) in
    let c : e ≡ crlf ++ drop 2 e = (body-got 0 e [] (drop 2 e) k).1 in
    let s : length x ≡ n = ap length x_is ∙ grind (arith, common_steps) in
    let w : length e ≡ length bs - n = ap length e_is ∙ grind (arith, common_steps) in
    let d : drop 2 e ≡ drop (n + 2) bs = ap (drop 2) e_is ∙ drop-drop n 2 bs in
    let all : bs ≡ (x ++ crlf) ++ drop 2 e = sym (Rattle.std.proofs.lemmas.List.take-append-drop n bs)
    ∙ ap (λ s. s ++ drop n bs) (sym x_is) ∙ ap (λ s. x ++ s) (sym e_is ∙ c)
    ∙ sym (append_assoc x crlf (drop 2 e)) in
    record {
      within = omega (arith, h.0, w);
      size = s;
      reads = λ more. ap (λ b. read_body n (b ++ more)) all
          ∙ ap (read_body n) (append_assoc (x ++ crlf) (drop 2 e) more)
          ∙ body-reads n (x ++ crlf) x (drop 2 e ++ more) s refl ∙ ap (λ r. got x (r ++ more)) d;
    }
