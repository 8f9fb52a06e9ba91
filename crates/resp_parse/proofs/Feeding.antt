-- A parser that bytes came to: the first go straight to the open body, the others to the buffer.
use Rattle.std.proofs.Common.{◌≡◌, ℕ, ◌+◌, ◌≤◌, ◌⊎◌, inl, inr, List, [], false, ◌++◌, length, take, drop, ap, ◌∙◌}
use Rattle.std.proofs.lemmas.List.{take-append-drop}
use Rattle.std.specs.declared.alloc.Global.{Global}
use Rattle.std.specs.declared.vec.Vec.{Vec}
use Rattle.resp_parse.specs.declared.decoder.Decoder.TheInside.{Inside}
use Rattle.resp_parse.specs.declared.machine.Machine.{Machine}
use Rattle.resp_parse.specs.Building.{Stands, progress_of}
use Rattle.resp_parse.specs.Counts.{Counts}
use Rattle.resp_parse.specs.Invariant.{Invariant, limits_of}
use Rattle.resp_parse.specs.Filling.{FilledOpenBody}
use Rattle.resp_parse.proofs.CountingTaken.{CountsTaken-fed, within-limit}
use Rattle.resp_parse.proofs.FaultOffsets.{Placed-working}
use Rattle.resp_parse.proofs.FilledBodies.{apart-taken, apart-none, fed-holds, fed-counted, fed-between}
use Rattle.resp_parse.proofs.Holding.{fed-fits, fed-unparsed}

-- the bytes that came, in two. None is unparsed where some go straight to the body, and those may be of its value
pub record Came {B R : Type 0} (p : Inside B R) (bytes direct rest : List ℕ) (count : ℕ) : Type 0 where
  pub joined : direct ++ rest ≡ bytes
  pub one : (drop p.consumed p.buffer.items ≡ []) ⊎ (direct ≡ [])
  pub size : length direct ≡ count
  pub fits : p.taken + count ≤ p.size_limit

-- they were cut at this place
pub came-cut : {B R : Type 0} {p : Inside B R} {bytes direct rest : List ℕ} {count : ℕ} (place : ℕ)
    → direct ≡ take place bytes → rest ≡ drop place bytes → (drop p.consumed p.buffer.items ≡ []) ⊎ (place ≡ 0)
    → length direct ≡ count → p.taken + count ≤ p.size_limit → Came p bytes direct rest count
came-cut {B} {R} {p} {bytes} place front back one size fits = record {
  joined = rw (front, back) (take-append-drop place bytes);
  one = elim one [ inl none ↦ inl none | inr zero ↦ inr (front ∙ ap (λ k. take k bytes) zero) ];
  size = size;
  fits = fits;
}

-- the machine is now `new`, after n calls
module _ {B R : Type 0} {S : Stands B} {p : Inside B R} {bytes direct rest since : List ℕ} {count : ℕ} {new : Machine B}
    (n : ℕ) (d e : Counts) (buffer : Vec ℕ Global) (kept : Invariant S p) (works : p.failed ≡ false)
    (came : Came p bytes direct rest count) (fills : FilledOpenBody p.machine direct new p.counts d)
    (held : buffer.items ≡ p.buffer.items ++ rest) (after : since ≡ p.since ++ bytes)
    (counted : e ≡ record d { received = d.received + length bytes; calls = d.calls + n }) where
  abbrev unparsed : List ℕ
  unparsed = drop p.consumed p.buffer.items

  apart : (more : List ℕ) → unparsed ++ (direct ++ more) ≡ direct ++ (unparsed ++ more)
  apart = elim came.one [ inl none ↦ apart-taken unparsed direct none | inr none ↦ apart-none unparsed direct none ]

  pub fed-kept : {chunk : Vec ℕ Global} → S new.builder new.open_aggregates (progress_of new.body) → Invariant S
      (record p { buffer = buffer; taken = p.taken + count; machine = new; since = since; counts = e; chunk = chunk })
  fed-kept stands = record {
    consumed = fed-fits p.buffer.items buffer.items rest p.consumed kept.consumed held;
    limits = rw fills.depth kept.limits;
    depth = rw (fills.depth, fills.open_aggregates) kept.depth;
    holds = fed-holds n p.machine new p.counts d e p.buffer.items buffer.items p.since since bytes direct rest p.consumed
        p.failed kept.consumed works kept.holds kept.counted fills apart came.joined held after counted;
    counted = fed-counted n p.machine new p.counts d e p.buffer.items buffer.items p.since since bytes direct rest
        p.consumed p.failed kept.consumed works kept.holds kept.counted fills apart came.joined held after counted;
    taken = λ _. rw (← came.size)
        (CountsTaken-fed p.size_limit p.machine new p.counts d unparsed (drop p.consumed buffer.items) p.since since bytes
        direct rest p.taken (kept.taken works) fills (rw came.size came.fits) came.joined
        (fed-unparsed p.buffer.items buffer.items rest p.consumed kept.consumed held) after came.one);
    builds = λ _. stands;
    placed = Placed-working (limits_of p.machine p.size_limit p.push_limit) (limits_of new p.size_limit p.push_limit)
        p.fault_offset p.since since p.failed works kept.placed;
  }

  -- between values it stays
  pub fed-rests : p.since ≡ unparsed → since ≡ drop p.consumed buffer.items
  fed-rests = fed-between n p.machine new p.counts d e p.buffer.items buffer.items p.since since bytes direct rest
      p.consumed p.failed kept.consumed works kept.holds kept.counted fills apart came.joined held after counted

-- what the machine took is within the limit
pub few-taken : {B R : Type 0} {S : Stands B} {p : Inside B R} → Invariant S p → p.failed ≡ false → p.taken ≤ p.size_limit
few-taken {B} {R} {S} {p} kept works =
    within-limit p.size_limit p.machine (drop p.consumed p.buffer.items) p.since p.taken (kept.taken works)
