-- A parser whose machine went on in those of the unparsed bytes that the value may have.
use Rattle.std.proofs.Common.{◌≡◌, ◌≢◌, ℕ, ◌+◌, ◌-◌, ◌≤◌, ◌<◌, true, false, List, [], ◌∷◌, ◌++◌, length, min, Option}
use Rattle.std.proofs.Common.{take, drop, refl, ap, sym, ◌∙◌, subst, arith, Ok, Err, Some, None}
use Rattle.std.proofs.lemmas.Grind.{common_steps}
use Rattle.std.proofs.lemmas.List.{append-nil, drop-append-le, drop_min, length-append, length-drop, take-append-drop}
use Rattle.std.proofs.lemmas.List.{take_min}
use Rattle.resp_value.specs.declared.value.Value.{Value}
use Rattle.resp_errors.specs.declared.kinds.FrameFault.{FrameFault}
use Rattle.resp_errors.specs.declared.kinds.FrameFault.TheVariants.{TooLong}
use Rattle.resp_errors.specs.declared.redis_error.RedisError.{RedisError}
use Rattle.resp_errors.specs.declared.parsing_error.ParsingError.TheVariants as parsing
use Rattle.resp_errors.specs.declared.redis_error.RedisError.TheVariants as form
use Rattle.resp_parse.specs.declared.read_error.ReadError.{ReadError}
use Rattle.resp_parse.specs.declared.read_error.ReadError.TheVariants as record_fault
use Rattle.resp_parse.specs.declared.machine.Machine.{Machine}
use Rattle.resp_parse.specs.declared.decoder.Decoder.TheInside.{Inside}
use Rattle.resp_parse.specs.Building.{Stands, progress_of}
use Rattle.resp_parse.specs.Limited.{HasFault, HasValue, Awaits, PassesSize, within, too_long}
use Rattle.resp_parse.specs.State.{State}
use Rattle.resp_parse.specs.Calls.{Takes, CannotTake}
use Rattle.resp_parse.specs.Resume.{Runs, Completes, IsScanned, Waits}
use Rattle.resp_parse.specs.Counts.{Counts}
use Rattle.resp_parse.specs.Costs.{least_bytes, Spent, SpentAtStop}
use Rattle.resp_parse.specs.Invariant.{Invariant, Resumes, Holds, Counted, CountsTaken, Placed, PassesLimit, limits_of}
use Rattle.resp_parse.proofs.Counting.{Counted-taken, Counted-stopped, scanned-within}
use Rattle.resp_parse.proofs.BodiesInPieces.{drop-drop}
use Rattle.resp_parse.proofs.Holding.{Resumes-fresh, Resumes-waits, Holds-working, Holds-failed, well_formed-from_reads}
use Rattle.resp_parse.proofs.Holding.{malformed-from_runs, shown-from_runs, incomplete-from_waits}
use Rattle.resp_parse.proofs.LimitedReadings.{first-value}
use Rattle.resp_parse.proofs.CountingTaken.{CountsTaken-waits, CountsTaken-fresh, Resumes-front, same-later, front-size}
use Rattle.resp_parse.proofs.FaultOffsets.{Placed-failing, Placed-passes, Placed-working}
use Rattle.resp_parse.proofs.ParserStates.{IsBetweenValues-from_same, StandsAfter-from_since, FailedAfter-from_since}

-- the bytes that were not parsed
abbrev pub unparsed : {B R : Type 0} → Inside B R → List ℕ
unparsed p = drop p.consumed p.buffer.items

-- the same, as the code takes them of the bytes held
abbrev pub from_place : ℕ → List ℕ → List ℕ
from_place place held = take (length held - place) (drop place held)

pub all_from : (place : ℕ) (held bytes : List ℕ) → held ≡ bytes → from_place place held ≡ drop place bytes
all_from place held bytes same = grind (arith, common_steps, same)

-- the unparsed bytes of a parser that works, in two: those that its value may have, and those after them
pub record Parted {B R : Type 0} (p : Inside B R) (front later : List ℕ) : Type 0 where
  pub works : p.failed ≡ false
  pub front_is : front ≡ take (p.size_limit - p.taken) (unparsed p)
  pub later_is : later ≡ drop (p.size_limit - p.taken) (unparsed p)

module _ {B R : Type 0} (p : Inside B R) (held : List ℕ) (works : p.failed ≡ false) (held_is : held ≡ p.buffer.items) where
  abbrev bytes : List ℕ
  bytes = from_place p.consumed held

  bytes_are : bytes ≡ unparsed p
  bytes_are = all_from p.consumed held p.buffer.items held_is

  pub parted_at : (place : ℕ) (front later : List ℕ) → place ≡ min (p.size_limit - p.taken) (length bytes)
      → front ≡ take place bytes → later ≡ drop place bytes → Parted p front later
  parted_at place front later most front_is later_is = record {
    works = works;
    front_is = front_is ∙ ap (λ k. take k bytes) most ∙ take_min (p.size_limit - p.taken) bytes
        ∙ ap (take (p.size_limit - p.taken)) bytes_are;
    later_is = later_is ∙ ap (λ k. drop k bytes) most ∙ drop_min (p.size_limit - p.taken) bytes
        ∙ ap (drop (p.size_limit - p.taken)) bytes_are;
  }

  pub not_parted : length bytes ≤ p.size_limit - p.taken → Parted p bytes []
  not_parted few =
      let front : bytes ≡ take (p.size_limit - p.taken) bytes = grind (arith, common_steps, few) in
      let later : [] ≡ drop (p.size_limit - p.taken) bytes = grind (arith, common_steps, few) in
      record {
        works = works;
        front_is = front ∙ ap (take (p.size_limit - p.taken)) bytes_are;
        later_is = later ∙ ap (drop (p.size_limit - p.taken)) bytes_are;
      }

module _ {B R : Type 0} {S : Stands B} {p : Inside B R} {front later : List ℕ} (kept : Invariant S p)
    (parted : Parted p front later) where
  abbrev m : Machine B
  m = p.machine

  abbrev most : ℕ
  most = p.size_limit

  abbrev rest : List ℕ
  rest = unparsed p

  spelled : CountsTaken most m rest p.since p.taken
  spelled = kept.taken parted.works

  joined : rest ≡ front ++ later
  joined = sym (take-append-drop (most - p.taken) rest) ∙ ap (λ x. x ++ drop (most - p.taken) rest) (sym parted.front_is)
      ∙ ap (λ x. front ++ x) (sym parted.later_is)

  rest-size : length rest ≡ length front + length later
  rest-size = ap length joined ∙ length-append front later

  resumes-front : Resumes m front (take most p.since)
  resumes-front = subst (λ x. Resumes m x (take most p.since)) (sym parted.front_is)
      (Resumes-front most m rest p.since p.taken spelled)

  later-since : later ≡ drop most p.since
  later-since = parted.later_is ∙ same-later most m rest p.since p.taken spelled

  size : p.taken + length front ≡ length (take most p.since)
  size = ap (λ x. p.taken + length x) parted.front_is ∙ front-size most m rest p.since p.taken spelled

  since-size : length p.since ≡ p.taken + length rest
  since-size = sym spelled.counted

  dropped : (n : ℕ) → drop n rest ≡ drop (p.consumed + n) p.buffer.items
  dropped n = drop-drop p.consumed n p.buffer.items

  fits : (n : ℕ) → n ≤ length front → p.consumed + n ≤ length p.buffer.items
  fits n l =
      let j : length rest ≡ length p.buffer.items - p.consumed = length-drop p.consumed p.buffer.items in
      omega (arith, l, j, rest-size, kept.consumed)

  pub scanned-front : IsScanned m.body m.scanned front
  scanned-front = resumes-front.scanned

  -- the machine was in the front, and is now `new`
  module _ (new : Machine B) (same : new.depth ≡ m.depth) where
    -- the value may have all bytes, and more are needed
    module _ (n : ℕ) (none : later ≡ []) (d : Runs m front new (Ok (n, None))) where
      all : front ≡ rest
      all = sym (joined ∙ ap (λ x. front ++ x) none ∙ append-nil front)

      waits : Waits m rest new n
      waits = subst (λ x. Waits m x new n) all d

      few : length p.since ≤ most
      few =
          let l : length later ≡ length p.since - most = ap length later-since ∙ length-drop most p.since in
          let z : length later ≡ 0 = ap length none in
          omega (arith, l, z)

      pub waits-kept : {value_len : ℕ} (t e : Counts) → least_bytes new ≤ least_bytes m + n
          → t ≡ record p.counts { calls = p.counts.calls + 1 } → Spent m new t e n
          → length new.open_aggregates ≤ new.depth → S new.builder new.open_aggregates (progress_of new.body)
          → Invariant S (record p { consumed = p.consumed + n; taken = p.taken + n; value_len = value_len; machine = new; counts = e })
      waits-kept t e k i spent deep stands =
          let resumes = kept.holds.resumes parted.works in
          record {
            consumed = fits n d.within;
            limits = rw same kept.limits;
            depth = deep;
            holds = subst (λ x. Holds new x p.since p.failed) (dropped n)
                (Holds-working new (drop n rest) p.since p.failed (Resumes-waits m new rest p.since resumes n waits same k));
            counted = subst (λ x. Counted new x e p.failed) (dropped n)
                (Counted-taken m new rest p.counts t e p.failed n waits.within
                (scanned-within new.body new.scanned (drop n rest) waits.scanned) kept.counted parted.works i spent);
            taken = λ _. subst (λ x. CountsTaken most new x p.since (p.taken + n)) (dropped n)
                (CountsTaken-waits most m new rest p.since p.taken n resumes (sym since-size) few waits same k);
            builds = λ _. stands;
            placed = Placed-working (limits_of m most p.push_limit) (limits_of new most p.push_limit) p.fault_offset
                p.since p.since p.failed parted.works kept.placed;
          }

      pub waits-takes : {aside : ℕ} (s : State) → s.limits ≡ limits_of new most aside → s.failed ≡ p.failed → s.since
          ≡ p.since → (b : List ℕ) → b ≡ p.since → Takes b s (Ok None)
      waits-takes {aside} s l f k b e =
          let here : Awaits (limits_of m most aside) p.since = record
          { few = few; incomplete = incomplete-from_waits m new rest p.since (kept.holds.resumes parted.works) n waits } in (
            rw (l ∙ ap (λ x. record { depth = x; bytes = most; pushes = aside }) same)
                (subst (Awaits (limits_of m most aside)) (sym e) here),
            StandsAfter-from_since s b (f ∙ parted.works) (e ∙ sym k),
          )

    -- a value was read
    module _ (n : ℕ) (v : Value) (d : Completes m front new n v) (now : List ℕ)
        (now_is : now ≡ drop (p.consumed + n) p.buffer.items) where
      examined : n ≤ length rest
      examined = let l : n ≤ length front = d.within in omega (arith, l, rest-size)

      after : drop n front ++ drop most p.since ≡ drop (p.consumed + n) p.buffer.items
      after = ap (λ x. drop n front ++ x) (sym later-since) ∙ sym (drop-append-le n front later d.within)
          ∙ ap (drop n) (sym joined) ∙ dropped n

      pub value-kept : {value_len : ℕ} (t e : Counts) → t ≡ record p.counts { calls = p.counts.calls + 1 }
          → Spent m new t e n → length new.open_aggregates ≤ new.depth
          → S new.builder new.open_aggregates (progress_of new.body)
          → Invariant S (record p { consumed = p.consumed + n; taken = 0; value_len = value_len; machine = new; since = now; counts = e })
      value-kept t e i spent deep stands =
          let after_value = drop (p.consumed + n) p.buffer.items in
          record {
            consumed = fits n d.within;
            limits = rw same kept.limits;
            depth = deep;
            holds = subst (λ x. Holds new after_value x p.failed) (sym now_is)
                (Holds-working new after_value after_value p.failed (Resumes-fresh new after_value d.fresh d.scanned));
            counted = subst (λ x. Counted new x e p.failed) (dropped n)
                (Counted-taken m new rest p.counts t e p.failed n examined (omega (arith, d.scanned)) kept.counted
                parted.works i spent);
            taken = λ _. CountsTaken-fresh most new after_value now d.fresh d.scanned (sym now_is);
            builds = λ _. stands;
            placed = Placed-working (limits_of m most p.push_limit) (limits_of new most p.push_limit) p.fault_offset
                p.since now p.failed parted.works kept.placed;
          }

      pub value-takes : {aside : ℕ} (s : State) → s.limits ≡ limits_of new most aside → s.failed ≡ p.failed → s.since ≡ now
          → s.unparsed ≡ drop (p.consumed + n) p.buffer.items → s.value_len ≡ p.taken + n → (b : List ℕ) → b ≡ p.since
          → Takes b s (Ok (Some v))
      value-takes {aside} s l f k x z b e =
          let l' = limits_of m most aside in
          let here : HasValue l' p.since v (drop n front ++ drop most p.since) = first-value l' p.since (drop n front) v
          (well_formed-from_reads m new front (take most p.since) resumes-front n v d) in record {
            value = rw (l ∙ ap (λ x. record { depth = x; bytes = most; pushes = aside }) same)
                (subst (λ r. HasValue l' b v r) (after ∙ sym x)
                (subst (λ y. HasValue l' y v (drop n front ++ drop most p.since)) (sym e) here));
            rest = IsBetweenValues-from_same s (f ∙ parted.works) (k ∙ now_is ∙ sym x);
            size =
                let all : length b ≡ p.taken + length rest = ap length e ∙ since-size in
                let left : length s.unparsed ≡ length rest - n = ap length (x ∙ sym (dropped n)) ∙ length-drop n rest in
                omega (arith, all, left, z, examined);
          }

    -- it is known of a parser that fails
    abbrev Failing : Counts → Option ℕ → Type 0
    Failing counts offset = Invariant S (record p { machine = new; counts = counts; failed = true; fault_offset = offset })

    failing : (counts : Counts) (offset : Option ℕ) → 0 < length rest → length new.open_aggregates ≤ new.depth
        → Counted new rest counts true → Placed (limits_of new most p.push_limit) offset p.since true → Failing counts offset
    failing counts offset some deep counted placed = record {
      consumed = kept.consumed;
      limits = rw same kept.limits;
      depth = deep;
      holds = Holds-failed m new rest p.since p.failed kept.holds some;
      counted = counted;
      taken = λ z. absurd (let y : true ≡ false = z in cc);
      builds = λ z. absurd (let y : true ≡ false = z in cc);
      placed = placed;
    }

    -- no value can be read
    module _ (why : ReadError) (d : Runs m front new (Err why)) (t e : Counts)
        (i : t ≡ record p.counts { calls = p.counts.calls + 1 }) (spent : SpentAtStop m front t e)
        (deep : length new.open_aggregates ≤ new.depth) where
      stops-kept : (offset : Option ℕ) → Placed (limits_of new most p.push_limit) offset p.since true → Failing e offset
      stops-kept offset placed =
          let l : 0 < length front = d.1 in
          let most-looked : e.examined + m.scanned ≤ t.examined + length rest =
          (let z = spent.0.most in omega (arith, z, rest-size)) in
          failing e offset (omega (arith, l, rest-size)) deep
          (Counted-stopped m new rest p.counts t e p.failed kept.counted parted.works i
          (record { same = spent.0.same; once = spent.0.once; most = most-looked }, spent.1) rest) placed

      -- for want of memory
      pub memory-kept : Failing e p.fault_offset
      memory-kept = stops-kept p.fault_offset
          (Placed-failing (limits_of m most p.push_limit) (limits_of new most p.push_limit) p.fault_offset p.since p.failed
          (ap (λ k. record { depth = k; bytes = most; pushes = p.push_limit }) same) kept.placed)

      -- by a fault
      pub fault-kept : (f : FrameFault) → Runs m front new (Err (record_fault.Fault f)) → Failing e (Some (p.taken + new.shown))
      fault-kept f met = stops-kept (Some (p.taken + new.shown)) (rw same (record {
        works = λ z. absurd (let y : true ≡ false = z in cc);
        shows = within (shown-from_runs m new front (take most p.since) resumes-front f p.taken met size);
      }))

    pub stops-fault : {aside : ℕ} (s : State) → s.limits ≡ limits_of new most aside → s.failed ≡ true → s.since ≡ p.since
        → (f : FrameFault) → Runs m front new (Err (record_fault.Fault f)) → (b : List ℕ) → b ≡ p.since
        → Takes b s (Err (form.Parse (parsing.Fault f)))
    stops-fault {aside} s l k y f d b e =
        let here : HasFault (limits_of m most aside) p.since f = within
        (malformed-from_runs m new front (take most p.since) resumes-front f d) in (
          CannotTake.malformed f refl
              (rw (l ∙ ap (λ x. record { depth = x; bytes = most; pushes = aside }) same)
              (subst (λ x. HasFault (limits_of m most aside) x f) (sym e) here)),
          FailedAfter-from_since s b k (e ∙ sym y),
        )

    pub stops-memory : (s : State) → s.failed ≡ true → s.since ≡ p.since → (b : List ℕ) → b ≡ p.since
        → Takes b s (Err form.OutOfMemory)
    stops-memory s k y b e = (CannotTake.out_of_memory refl, FailedAfter-from_since s b k (e ∙ sym y))

    -- the value in progress is longer than one may be
    module _ (n : ℕ) (some : later ≢ []) (d : Runs m front new (Ok (n, None))) where
      later-size : 0 < length later
      later-size = by_length later some
        where
          by_length : (x : List ℕ) → x ≢ [] → 0 < length x
          by_length [] z = absurd (z refl)
          by_length (c ∷ x) z = omega arith

      passes : {aside : ℕ} → PassesSize (limits_of m most aside) p.since
      passes {aside} = record {
        more = (let l : length later ≡ length p.since - most = ap length later-since
            ∙ length-drop most p.since in omega (arith, l, later-size));
        incomplete = incomplete-from_waits m new front (take most p.since) resumes-front n d;
      }

      pub long-kept : (t e : Counts) → t ≡ record p.counts { calls = p.counts.calls + 1 } → Spent m new t e n
          → length new.open_aggregates ≤ new.depth → (why : RedisError) (offset : Option ℕ) → PassesLimit most why offset
          → Failing e offset
      long-kept t e i spent deep why offset r =
          let l : n ≤ length front = d.within in
          let s : new.scanned ≤ length (drop n front) = scanned-within new.body new.scanned (drop n front) d.scanned in
          let a : length (drop n front) ≡ length front - n = length-drop n front in
          let b : length (drop n rest) ≡ length rest - n = length-drop n rest in
          let now = Counted-taken m new rest p.counts t e p.failed n (omega (arith, l, rest-size))
          (omega (arith, l, s, a, b, rest-size)) kept.counted parted.works i spent in
          failing e offset (omega (arith, later-size, rest-size)) deep (record {
            iterations = now.iterations;
            looks = now.looks;
            examined = now.examined;
            works = λ z. absurd (let y : true ≡ false = z in cc);
          }) (rw same (Placed-passes (limits_of m most p.push_limit) offset p.since why passes r))

      pub long-takes : {aside : ℕ} (s : State) (e : RedisError) (offset : Option ℕ) → s.limits ≡ limits_of new most aside
          → s.failed ≡ true → s.since ≡ p.since → PassesLimit most e offset → (b : List ℕ) → b ≡ p.since
          → Takes b s (Err e)
      long-takes {aside} s e offset l k y (PassesLimit.fault i j) b z =
          let here : HasFault (limits_of m most aside) p.since TooLong = too_long refl passes in (
            CannotTake.malformed TooLong i
                (rw (l ∙ ap (λ x. record { depth = x; bytes = most; pushes = aside }) same)
                (subst (λ x. HasFault (limits_of m most aside) x TooLong) (sym z) here)),
            FailedAfter-from_since s b k (z ∙ sym y),
          )
      long-takes {aside} s e offset l k y (PassesLimit.out_of_memory i j) b z =
          (CannotTake.out_of_memory i, FailedAfter-from_since s b k (z ∙ sym y))
