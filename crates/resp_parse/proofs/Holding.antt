-- What a parser keeps of itself, from call to call.
use Rattle.std.proofs.Common.{◌≡◌, ◌≢◌, ℕ, zero, suc, ◌+◌, ◌-◌, ◌<◌, ◌≤◌, ◌↔◌, IsTrue, not, Bool, true, false, List, []}
use Rattle.std.proofs.Common.{◌∷◌, ◌++◌, length, drop, refl, ap, sym, ◌∙◌, append_assoc, arith, Option, Some, None, Err}
use Rattle.std.proofs.lemmas.List.{append-nil}
use Rattle.std.proofs.lemmas.Grind.{common_steps}
use Rattle.resp_value.specs.declared.value.Value.{Value}
use Rattle.resp_errors.specs.declared.kinds.FrameFault.{FrameFault}
use Rattle.resp_parse.specs.declared.read_error.ReadError.TheVariants.{Fault}
use Rattle.resp_parse.specs.declared.open_aggregates.OpenAggregate.{OpenAggregate}
use Rattle.resp_parse.specs.declared.body.Body.{Body}
use Rattle.resp_parse.specs.declared.machine.Machine.{Machine}
use Rattle.resp_parse.specs.PlainReading.{ReadOutcome, got, fault, incomplete, then, read}
use Rattle.resp_parse.specs.Prefixes.{HasWellFormedPrefix, HasMalformedPrefix, FaultShownBy, IsIncomplete}
use Rattle.resp_parse.specs.Resume.{place, resume, fresh_of, IsScanned, Waits, Completes, Runs}
use Rattle.resp_parse.specs.Costs.{least_bytes}
use Rattle.resp_parse.specs.Invariant.{Resumes, Rests, Holds}
use Rattle.resp_parse.proofs.LineAt.{Scanned-longer}
use Rattle.resp_parse.proofs.BodiesInPieces.{drop-all}
use Rattle.resp_parse.proofs.HeadersInPieces.{IsScanned-zero}
use Rattle.resp_parse.proofs.PrefixReads.{HasWellFormedPrefix-from_read, HasMalformedPrefix-from_read}
use Rattle.resp_parse.proofs.PrefixReads.{FaultShownBy-from_read, IsIncomplete-from_read}

then-nothing : (d : ℕ) (o : ReadOutcome Value) → o ≡ then o (place d [])
then-nothing d (got v rest) = refl
then-nothing d (fault f rest) = refl
then-nothing d incomplete = refl

-- nothing is open
pub record NothingOpen (b : Option Body) (fs : List OpenAggregate) : Type 0 where
  pub no_body : b ≡ None
  pub no_frame : fs ≡ []

pub nothing_open : (b : Option Body) (fs : List OpenAggregate) → fresh_of b fs ≡ true → NothingOpen b fs
nothing_open None [] e = record { no_body = refl; no_frame = refl }
nothing_open None (f ∷ fs) e = absurd (cc)
nothing_open (Some b) fs e = absurd (cc)

pub resume-fresh : {B : Type 0} (m : Machine B) → fresh_of m.body m.open_aggregates ≡ true → (bs : List ℕ) → read m.depth bs
    ≡ resume m bs
resume-fresh m e bs =
    let n = nothing_open m.body m.open_aggregates e in
    let z : m.depth - 0 ≡ m.depth = omega arith in
    rw (n.no_body, n.no_frame, z) (then-nothing m.depth (read m.depth bs))

-- a machine that has read nothing
pub Resumes-fresh : {B : Type 0} (m : Machine B) (u : List ℕ) → fresh_of m.body m.open_aggregates ≡ true → m.scanned ≡ 0
    → Resumes m u u
Resumes-fresh m u e s = record {
  scanned = IsScanned-zero m.body m.scanned u s;
  reads = λ more. resume-fresh m e (u ++ more);
  fresh = λ _. refl;
  begun = λ k. absurd (let z : true ≡ false = sym e ∙ k in cc);
  built_within = (let n = nothing_open m.body m.open_aggregates e in rw (n.no_body, n.no_frame) (omega arith));
}

drop-append : (n : ℕ) (xs ys : List ℕ) → n ≤ length xs → drop n (xs ++ ys) ≡ drop n xs ++ ys
drop-append n xs ys l = grind (arith, common_steps)

IsScanned-longer : (b : Option Body) (n : ℕ) (u more : List ℕ) → IsScanned b n u → IsScanned b n (u ++ more)
IsScanned-longer None n [] more h = IsScanned-zero None n more (omega (arith, h.within))
IsScanned-longer None n (c ∷ u) more h =
    let w : n ≤ length (c ∷ u) = h.within in
    record { within = grind (arith, common_steps); rest = Scanned-longer u more (n - 1) h.rest }
IsScanned-longer (Some b) n u more h = h

-- bytes were added
pub Resumes-fed : {B : Type 0} (m : Machine B) (u since bytes : List ℕ) → Resumes m u since
    → Resumes m (u ++ bytes) (since ++ bytes)
Resumes-fed m u since bytes h = record {
  scanned = IsScanned-longer m.body m.scanned u bytes h.scanned;
  reads = λ more. ap (read m.depth) (append_assoc since bytes more) ∙ h.reads (bytes ++ more)
      ∙ ap (resume m) (sym (append_assoc u bytes more));
  fresh = λ e. ap (λ x. x ++ bytes) (h.fresh e);
  begun = λ e. let l : length u < length since = h.begun e in grind (arith, common_steps);
  built_within = (let l : length (u ++ bytes) ≡ length u + length bytes = grind (arith, common_steps) in let k : length
      (since ++ bytes) ≡ length since + length bytes = grind (arith, common_steps) in omega
      (arith, l, k, h.built_within));
}

length-zero : (xs : List ℕ) → length xs ≡ 0 → xs ≡ []
length-zero [] e = refl
length-zero (x ∷ xs) e = absurd (omega arith)

-- a parser that reads on can tell whether bytes stand after the last value
progress : {B : Type 0} (m : Machine B) (u since : List ℕ) → Resumes m u since → (since ≡ []) ↔ Rests m u
progress m u since h = (
  (λ e. by_fresh e (fresh_of m.body m.open_aggregates) refl),
  (λ r. h.fresh r.fresh ∙ r.none),
)
  where
    by_fresh : since ≡ [] → (k : Bool) → fresh_of m.body m.open_aggregates ≡ k → Rests m u
    by_fresh e true k = record { fresh = k; none = sym (h.fresh k) ∙ e }
    by_fresh e false k = absurd
        (let l : length u < length since = h.begun k in let z : length since ≡ 0 = ap length e in omega arith)

pub Holds-working : {B : Type 0} (m : Machine B) (u since : List ℕ) (failed : Bool) → Resumes m u since
    → Holds m u since failed
Holds-working m u since failed h = record { resumes = λ _. h; progress = progress m u since h }

-- from here on the parser has failed
pub Holds-failing : {B : Type 0} (m : Machine B) (u since : List ℕ) (failed : Bool) → Holds m u since failed
    → Holds m u since true
Holds-failing m u since failed h = record
    { resumes = λ e. absurd (let z : true ≡ false = e in cc); progress = h.progress }

-- it failed at bytes that it has kept
pub Holds-failed : {B : Type 0} (m m' : Machine B) (u since : List ℕ) (failed : Bool) → Holds m u since failed
    → 0 < length u → Holds m' u since true
Holds-failed m m' u since failed h l = record {
  resumes = λ e. absurd (let z : true ≡ false = e in cc);
  progress = (
    (λ e. absurd (let r = h.progress.0 e in let z : length u ≡ 0 = ap length r.none in omega arith)),
    (λ r. absurd (let z : length u ≡ 0 = ap length r.none in omega arith)),
  );
}

-- bytes are unparsed: some stand after the last value
pub in_progress-unparsed : {B : Type 0} (m : Machine B) (buffer since : List ℕ) (consumed : ℕ) (failed : Bool)
    → Holds m (drop consumed buffer) since failed → consumed < length buffer → (b : List ℕ) → b ≡ since → b ≢ []
in_progress-unparsed m buffer since consumed failed h l b u e =
    let r = h.progress.0 (sym u ∙ e) in
    let z : length (drop consumed buffer) ≡ 0 = ap length r.none in
    grind (arith, common_steps)

-- none are: some stand after it where the machine isn't fresh
pub in_progress-machine : {B : Type 0} (m : Machine B) (buffer since : List ℕ) (consumed : ℕ) (failed : Bool)
    → Holds m (drop consumed buffer) since failed → length buffer ≡ consumed → (b : List ℕ) → b ≡ since → (fresh : Bool)
    →
    fresh ≡ fresh_of m.body m.open_aggregates → IsTrue (not fresh) ↔ (b ≢ [])
in_progress-machine m buffer since consumed failed h l b u true e = (
  (λ t n. let z : false ≡ true = t in cc),
  (λ n. absurd (n (u ∙ h.progress.1 (record { fresh = sym e; none = drop-all consumed buffer (omega arith) })))),
)
in_progress-machine m buffer since consumed failed h l b u false e = (
  (λ t n. let r = h.progress.0 (sym u ∙ n) in let z : false ≡ true = e ∙ r.fresh in cc),
  (λ n. refl),
)

-- a machine that went on in the unparsed bytes
module _ {B : Type 0} (m new : Machine B) (u since : List ℕ) (h : Resumes m u since) where
  at_end : read m.depth since ≡ resume m (u ++ [])
  at_end = ap (read m.depth) (sym (append-nil since)) ∙ h.reads []

  pub well_formed-from_reads : (n : ℕ) (v : Value) → Completes m u new n v
      → HasWellFormedPrefix m.depth since v (drop n u)
  well_formed-from_reads n v d = HasWellFormedPrefix-from_read m.depth since (drop n u) v
      (at_end ∙ d.same [] ∙ ap (λ r. got v r) (append-nil (drop n u)))

  read-fault : (f : FrameFault) → Runs m u new (Err (Fault f)) → read m.depth since ≡ fault f (drop new.shown u)
  read-fault f d = at_end ∙ d.0.1 [] ∙ ap (λ r. fault f r) (append-nil (drop new.shown u))

  pub malformed-from_runs : (f : FrameFault) → Runs m u new (Err (Fault f)) → HasMalformedPrefix m.depth since f
  malformed-from_runs f d = HasMalformedPrefix-from_read m.depth since (drop new.shown u) f (read-fault f d)

  pub shown-from_runs : (f : FrameFault) (count : ℕ) → Runs m u new (Err (Fault f)) → count + length u ≡ length since
      → FaultShownBy m.depth since (count + new.shown)
  shown-from_runs f count d l =
      let w : new.shown ≤ length u = d.0.0 in
      let r : length (drop new.shown u) ≡ length u - new.shown = grind (arith, common_steps) in
      FaultShownBy-from_read m.depth since (drop new.shown u) f (count + new.shown) (read-fault f d)
      (omega (arith, l, w, r))

  pub incomplete-from_waits : (n : ℕ) → Waits m u new n → IsIncomplete m.depth since
  incomplete-from_waits n d = IsIncomplete-from_read m.depth since
      (at_end ∙ d.same [] ∙ ap (resume new) (append-nil (drop n u)) ∙ d.waits)

  pub Resumes-waits : (n : ℕ) → Waits m u new n → new.depth ≡ m.depth → least_bytes new ≤ least_bytes m + n
      → Resumes new (drop n u) since
  Resumes-waits n d same k = record {
    scanned = d.scanned;
    reads = λ more. ap (λ l. read l (since ++ more)) same ∙ h.reads more ∙ d.same more;
    fresh = λ e. let z : n ≡ 0 = d.fresh e in h.fresh (sym (d.begun z) ∙ e) ∙ ap (λ k. drop k u) (sym z);
    begun = λ e. longer n d e (fresh_of m.body m.open_aggregates) refl;
    built_within = (let w : n ≤ length u = d.within in let r : length (drop n u) ≡ length u - n = grind (
      arith,
      common_steps,
    ) in omega (arith, w, r, k, h.built_within));
  }
    where
      longer : (n : ℕ) → Waits m u new n → fresh_of new.body new.open_aggregates ≡ false → (k : Bool)
          → fresh_of m.body m.open_aggregates ≡ k → length (drop n u) < length since
      longer zero d e true k = absurd (let z : true ≡ false = sym k ∙ sym (d.begun refl) ∙ e in cc)
      longer zero d e false k = h.begun k
      longer (suc n) d e true k =
          let w : suc n ≤ length u = d.within in
          let s : length since ≡ length u = ap length (h.fresh k) in
          let r : length (drop (suc n) u) ≡ length u - suc n = grind (arith, common_steps) in omega arith
      longer (suc n) d e false k =
          let w : suc n ≤ length u = d.within in
          let s : length u < length since = h.begun k in
          let r : length (drop (suc n) u) ≡ length u - suc n = grind (arith, common_steps) in omega arith

-- nothing is buffered
pub Holds-new : {B : Type 0} (m : Machine B) (buffer since : List ℕ) → buffer ≡ [] → since ≡ []
    → fresh_of m.body m.open_aggregates ≡ true → m.scanned ≡ 0 → Holds m (drop 0 buffer) since false
Holds-new m buffer since e k f s = rw (e, k) (Holds-working m [] [] false (Resumes-fresh m [] f s))

pub fed-fits : (buffer buffer' bytes : List ℕ) (consumed : ℕ) → consumed ≤ length buffer → buffer' ≡ buffer ++ bytes
    → consumed ≤ length buffer'
fed-fits buffer buffer' bytes consumed l e = rw e (grind (arith, common_steps))

pub fed-unparsed : (buffer buffer' bytes : List ℕ) (consumed : ℕ) → consumed ≤ length buffer → buffer' ≡ buffer ++ bytes
    → drop consumed buffer' ≡ drop consumed buffer ++ bytes
fed-unparsed buffer buffer' bytes consumed l e = ap (drop consumed) e ∙ drop-append consumed buffer bytes l
