-- What a parser keeps of itself doesn't depend on the memory that its builder has.
use Rattle.std.proofs.Common.{◌≡◌, ℕ, ◌≤◌, List, length, drop, Bool, false, sym, subst}
use Rattle.std.specs.declared.vec.Vec.{Vec}
use Rattle.std.specs.declared.alloc.Global.{Global}
use Rattle.resp_parse.specs.declared.machine.Machine.{Machine}
use Rattle.resp_parse.specs.declared.decoder.Decoder.TheInside.{Inside}
use Rattle.resp_parse.specs.Counts.{Counts}
use Rattle.resp_parse.specs.Building.{Stands, progress_of}
use Rattle.resp_parse.specs.Invariant.{Resumes, Holds, Counted, CountsTaken, Invariant}

module _ {B : Type 0} (m : Machine B) (b : B) where
  abbrev rebuilt : Machine B
  rebuilt = record m { builder = b }

  resumes : (u since : List ℕ) → Resumes m u since → Resumes rebuilt u since
  resumes u since h = record
      { scanned = h.scanned; reads = h.reads; fresh = h.fresh; begun = h.begun; built_within = h.built_within }

  holds : (u since : List ℕ) (failed : Bool) → Holds m u since failed → Holds rebuilt u since failed
  holds u since failed h = record {
    resumes = λ w. resumes u since (h.resumes w);
    progress = (
      (λ e. let r = h.progress.0 e in record { fresh = r.fresh; none = r.none }),
      λ r. h.progress.1 (record { fresh = r.fresh; none = r.none }),
    );
  }

  counted : (u : List ℕ) (c : Counts) (failed : Bool) → Counted m u c failed → Counted rebuilt u c failed
  counted u c failed h = record {
    iterations = h.iterations;
    looks = h.looks;
    examined = h.examined;
    works = λ w. let k = h.works w in record { cost = k.cost; accounted = k.accounted };
  }

  taken : (most : ℕ) (u since : List ℕ) (count : ℕ) → CountsTaken most m u since count
      → CountsTaken most rebuilt u since count
  taken most u since count h = record {
    counted = h.counted;
    kept = h.kept;
    before = h.before;
    later = h.later;
    unparsed_is = h.unparsed_is;
    since_is = h.since_is;
    resumes = resumes h.kept h.before h.resumes;
    few = h.few;
  }

module _ {B R : Type 0} (S : Stands B) (p : Inside B R) where
  Invariant-rebuilt : (b : B) → (p.failed ≡ false → S b p.machine.open_aggregates (progress_of p.machine.body))
      → Invariant S p → Invariant S (record p { machine = record p.machine { builder = b } })
  Invariant-rebuilt b k h = record {
    consumed = h.consumed;
    limits = h.limits;
    depth = h.depth;
    holds = holds p.machine b _ p.since p.failed h.holds;
    counted = counted p.machine b _ p.counts p.failed h.counted;
    taken = λ w. taken p.machine b p.size_limit _ p.since p.taken (h.taken w);
    builds = k;
    placed = h.placed;
  }

  pub Invariant-same : (m : Machine B) → m ≡ record p.machine { builder = m.builder }
      → (S p.machine.builder p.machine.open_aggregates (progress_of p.machine.body)
      → S m.builder m.open_aggregates (progress_of m.body)) → Invariant S p → Invariant S (record p { machine = m })
  Invariant-same m e k h =
      let b : S p.machine.builder p.machine.open_aggregates (progress_of p.machine.body)
      → S m.builder p.machine.open_aggregates (progress_of p.machine.body) =
      subst (λ (n : Machine B). S p.machine.builder p.machine.open_aggregates (progress_of p.machine.body)
      → S m.builder n.open_aggregates (progress_of n.body)) e k in
      subst (λ (n : Machine B). Invariant S (record p { machine = n })) (sym e)
      (Invariant-rebuilt m.builder (λ w. b (h.builds w)) h)

  -- nor on the room that the buffer has
  pub Invariant-roomier : (buffer : Vec ℕ Global) → buffer.items ≡ p.buffer.items → Invariant S p
      → Invariant S (record p { buffer = buffer })
  Invariant-roomier buffer e h = record {
    consumed = subst (λ x. p.consumed ≤ length x) (sym e) h.consumed;
    limits = h.limits;
    depth = h.depth;
    holds = subst (λ x. Holds p.machine (drop p.consumed x) p.since p.failed) (sym e) h.holds;
    counted = subst (λ x. Counted p.machine (drop p.consumed x) p.counts p.failed) (sym e) h.counted;
    taken = λ w. subst (λ x. CountsTaken p.size_limit p.machine (drop p.consumed x) p.since p.taken) (sym e)
        (h.taken w);
    builds = h.builds;
    placed = h.placed;
  }
