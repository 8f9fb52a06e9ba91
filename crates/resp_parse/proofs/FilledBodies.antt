-- Bytes of a body that went straight to it.
use Rattle.std.proofs.Common.{◌≡◌, ℕ, ◌+◌, ◌≤◌, ◌<◌, Bool, true, false, List, [], ◌++◌, length, drop, refl, ap, sym}
use Rattle.std.proofs.Common.{◌∙◌, subst, append_assoc, arith, Option, Some, None, Ok}
use Rattle.std.proofs.lemmas.List.{append-nil}
use Rattle.std.proofs.lemmas.Grind.{common_steps}
use Rattle.resp_parse.specs.declared.body.Body.{Body}
use Rattle.resp_parse.specs.declared.machine.Machine.{Machine}
use Rattle.resp_parse.specs.Building.{Stands, filling, progress_of}
use Rattle.resp_parse.specs.Counts.{Counts}
use Rattle.resp_parse.specs.PlainReading.{then, read}
use Rattle.resp_parse.specs.Resume.{depth_left, value_of, place, resume, fresh_of, IsScanned, FillsBody}
use Rattle.resp_parse.specs.Filling.{lacks_of, FilledOpenBody}
use Rattle.resp_parse.specs.Invariant.{Resumes, Holds, Counted}
use Rattle.resp_parse.proofs.BodiesInPieces.{drop-all, resumes}
use Rattle.resp_parse.proofs.Holding.{Holds-working, Resumes-fed}

-- with no body open, nothing is taken
length-zero : (xs : List ℕ) → length xs ≤ 0 → xs ≡ []
length-zero xs l = drop-all 0 xs l

pub FilledOpenBody-none : {B : Type 0} (m : Machine B) (bytes : List ℕ) (c : Counts) → m.body ≡ None
    → length bytes ≤ lacks_of m.body → FilledOpenBody m bytes m c c
FilledOpenBody-none m bytes c b l =
    let z : lacks_of m.body ≡ 0 = ap lacks_of b in
    let none : bytes ≡ [] = length-zero bytes (omega (arith, z, l)) in
    record {
      same = λ more. ap (λ s. resume m (s ++ more)) none;
      depth = refl;
      open_aggregates = refl;
      looked = refl;
      fresh = refl;
      none = λ _. none;
      scanned = λ bs h. h;
      built_within = refl;
      potential = refl;
      counts = rw none (let e : c.examined + 0 ≡ c.examined = omega arith in ap (λ (k : ℕ). record c { examined = k })
          (sym e));
      iterations = omega arith;
      paid = omega arith;
    }

-- what was built stands for the open body
pub builds-body : {B : Type 0} (S : Stands B) (m : Machine B) (b : Body) → m.body ≡ Some b
    → S m.builder m.open_aggregates (progress_of m.body) → S m.builder m.open_aggregates (filling b.seen)
builds-body S m b e h = subst (λ (o : Option Body). S m.builder m.open_aggregates (progress_of o)) e h

-- the open body took all bytes
module _ {B : Type 0} (m : Machine B) (old new : Body) (bytes : List ℕ) (n : ℕ) (body_is : m.body ≡ Some old)
    (h : FillsBody {E = Unit {0}} old bytes new (Ok n)) (l : length bytes ≤ lacks_of m.body) where
  all-taken : n ≡ length bytes
  all-taken = let z : lacks_of m.body ≡ old.missing = ap lacks_of body_is in omega (arith, h.0, l, z)

  none-left : drop n bytes ≡ []
  none-left = drop-all n bytes (omega (arith, all-taken))

  pub FilledOpenBody-body : 1 ≤ length bytes → (c t d : Counts) (b : B) → t ≡ record c { iterations = c.iterations + 1 }
      → d ≡ record t { examined = t.examined + n }
      → FilledOpenBody m bytes (record m { builder = b; body = Some new }) c d
  FilledOpenBody-body some c t d b e k =
      let whole : d ≡ record c { iterations = c.iterations + 1; examined = c.examined + n } = k
      ∙ ap (λ (x : Counts). record x { examined = x.examined + n }) e in
      record {
        same = λ more. resumes m old new bytes n body_is h more
            ∙ ap (λ s. then (value_of (depth_left m.depth m.open_aggregates) (Some new) (s ++ more))
            (place m.depth m.open_aggregates)) none-left;
        depth = refl;
        open_aggregates = refl;
        looked = refl;
        fresh = rw body_is refl;
        none = λ f. absurd (let z : false ≡ true = rw body_is at f in cc);
        scanned = λ bs s. let k : IsScanned (Some old) m.scanned bs = subst
            (λ (o : Option Body). IsScanned o m.scanned bs) body_is s in k;
        built_within = rw body_is refl;
        potential = rw body_is refl;
        counts = whole ∙ ap (λ (j : ℕ). record c { iterations = c.iterations + 1; examined = c.examined + j }) all-taken
            ∙ ap (λ (t : ℕ). record c { iterations = t; examined = c.examined + length bytes })
            (sym (ap (λ (x : Counts). x.iterations) whole));
        iterations = omega (arith, ap (λ (x : Counts). x.iterations) whole);
        paid = omega (arith, some, ap (λ (x : Counts). x.iterations) whole);
      }

-- a parser whose open body took the first bytes that were fed, all before them being taken
module _ {B : Type 0} (m new : Machine B) (c d : Counts) (u since bytes : List ℕ) (h : Resumes m u since)
    (f : FilledOpenBody m bytes new c d) (apart : (more : List ℕ) → u ++ (bytes ++ more) ≡ bytes ++ (u ++ more)) where
  pub Resumes-filled : Resumes new u (since ++ bytes)
  Resumes-filled = record {
    scanned = f.scanned u h.scanned;
    reads = λ more. ap (λ d. read d ((since ++ bytes) ++ more)) f.depth
        ∙ ap (read m.depth) (append_assoc since bytes more) ∙ h.reads (bytes ++ more) ∙ ap (resume m) (apart more)
        ∙ f.same (u ++ more);
    fresh = λ e. let z : fresh_of m.body m.open_aggregates ≡ true = sym f.fresh ∙ e in ap (λ x. since ++ x) (f.none z)
        ∙ append-nil since ∙ h.fresh z;
    begun = λ e. let l : length u < length since = h.begun (sym f.fresh ∙ e) in grind (arith, common_steps);
    built_within = (let l : length (since ++ bytes) ≡ length since + length bytes = grind (arith, common_steps) in omega
        (arith, l, f.built_within, h.built_within));
  }

-- what goes straight to the body may go before what is unparsed, where one of them is empty
pub apart-taken : (u bytes : List ℕ) → u ≡ [] → (more : List ℕ) → u ++ (bytes ++ more) ≡ bytes ++ (u ++ more)
apart-taken u bytes e more = rw e refl

pub apart-none : (u bytes : List ℕ) → bytes ≡ [] → (more : List ℕ) → u ++ (bytes ++ more) ≡ bytes ++ (u ++ more)
apart-none u bytes e more = rw e refl

-- bytes came, by n calls: the first straight to the open body, the others to the buffer
module _ {B : Type 0} (n : ℕ) (m new : Machine B) (c d e : Counts)
    (buffer buffer' since since' bytes direct rest : List ℕ) (consumed : ℕ) (failed : Bool)
    (within : consumed ≤ length buffer) (w : failed ≡ false)
    (h : Holds m (drop consumed buffer) since failed) (k : Counted m (drop consumed buffer) c failed)
    (f : FilledOpenBody m direct new c d)
    (apart : (more : List ℕ) → drop consumed buffer ++ (direct ++ more) ≡ direct ++ (drop consumed buffer ++ more))
    (joined : direct ++ rest ≡ bytes)
    (buffered : buffer' ≡ buffer ++ rest) (came_since : since' ≡ since ++ bytes)
    (counted : e ≡ record d { received = d.received + length bytes; calls = d.calls + n }) where
  unparsed : drop consumed buffer' ≡ drop consumed buffer ++ rest
  unparsed = ap (drop consumed) buffered ∙ grind (arith, common_steps)

  since-now : since' ≡ (since ++ direct) ++ rest
  since-now = came_since ∙ ap (λ x. since ++ x) (sym joined) ∙ sym (append_assoc since direct rest)

  pub fed-holds : Holds new (drop consumed buffer') since' failed
  fed-holds = rw (unparsed, since-now)
      (Holds-working new (drop consumed buffer ++ rest) ((since ++ direct) ++ rest) failed
      (Resumes-fed new (drop consumed buffer) (since ++ direct) rest
      (Resumes-filled m new c d (drop consumed buffer) since direct (h.resumes w) f apart)))

  pub fed-counted : Counted new (drop consumed buffer') e failed
  fed-counted =
      let b = k.works w in
      let iterations : e.iterations ≡ d.iterations = ap (λ (x : Counts). x.iterations) counted in
      let examined : e.examined ≡ d.examined = ap (λ (x : Counts). x.examined) counted in
      let received : e.received ≡ d.received + length bytes = ap (λ (x : Counts). x.received) counted in
      let calls : e.calls ≡ d.calls + n = ap (λ (x : Counts). x.calls) counted in
      let examined' : d.examined ≡ c.examined + length direct = ap (λ (x : Counts). x.examined) f.counts in
      let received' : d.received ≡ c.received = ap (λ (x : Counts). x.received) f.counts in
      let calls' : d.calls ≡ c.calls = ap (λ (x : Counts). x.calls) f.counts in
      let looks : e.looks ≡ d.looks = ap (λ (x : Counts). x.looks) counted in
      let looks' : d.looks ≡ c.looks = ap (λ (x : Counts). x.looks) f.counts in
      let l : length bytes ≡ length direct + length rest = ap length (sym joined) ∙ grind (arith, common_steps) in
      let v : length (drop consumed buffer') ≡ length (drop consumed buffer) + length rest = ap length unparsed
      ∙ grind (arith, common_steps) in
      record {
        iterations = omega (arith, b.cost, f.paid, iterations, examined, calls, examined', calls');
        looks = omega (arith, k.looks, looks, looks', examined, examined');
        examined = omega (arith, k.examined, examined, received, examined', received', l);
        works = λ _. record {
          cost = omega (arith, b.cost, f.paid, f.potential, iterations, examined, calls, examined', calls');
          accounted = omega (arith, b.accounted, f.looked, examined, received, examined', received', l, v);
        };
      }

  -- between values no body is open
  pub fed-between : since ≡ drop consumed buffer → since' ≡ drop consumed buffer'
  fed-between e = by_fresh (fresh_of m.body m.open_aggregates) refl
    where
      by_fresh : (x : Bool) → fresh_of m.body m.open_aggregates ≡ x → since' ≡ drop consumed buffer'
      by_fresh true z = since-now ∙ ap (λ x. (since ++ x) ++ rest) (f.none z)
          ∙ ap (λ x. x ++ rest) (append-nil since ∙ e) ∙ sym unparsed
      by_fresh false z = absurd
          (let l : length (drop consumed buffer) < length since = (h.resumes w).begun z in let y : length since
          ≡ length (drop consumed buffer) = ap length e in omega (arith, l, y))
