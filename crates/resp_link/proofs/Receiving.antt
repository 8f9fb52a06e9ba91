-- Reading on: what was received before, and then what is received next.
use Rattle.std.proofs.Common.{◌≡◌, ℕ, ◌+◌, ◌-◌, ◌<◌, ◌≤◌, Option, List, [], ◌∷◌, ◌++◌, length, drop, refl, sym, ap}
use Rattle.std.proofs.Common.{◌∙◌}
use Rattle.std.proofs.Common.{subst, append_assoc, append-nil, length-append, arith, Ok, Err, None, Some}
use Rattle.std.specs.Io.KnownBytes.{Consumes}
use Rattle.std.proofs.lemmas.Grind.{common_steps}
use Rattle.resp_value.specs.declared.value.Value.{Value}
use Rattle.resp_value.specs.declared.value.PushInfo.{PushInfo}
use Rattle.resp_errors.specs.declared.kinds.FrameFault.TheVariants.{TooManyPushes}
use Rattle.resp_errors.specs.declared.redis_error.RedisError.{RedisError}
use Rattle.resp_errors.specs.declared.redis_error.RedisError.TheVariants as form
use Rattle.resp_parse.specs.declared.limits.Limits.{Limits}
use Rattle.resp_parse.specs.Source.{Source}
use Rattle.resp_parse.specs.State.{State, StandsAfter, IsBetweenValues}
use Rattle.resp_parse.specs.Calls.{AsNeeded, Parses, CannotParse, malformed, early_end, source_failed, out_of_memory}
use Rattle.resp_parse.specs.Limited.{HasValue, Awaits}
use Rattle.resp_parse.proofs.ParserStates.{StandsAfter-from_since, StandsAfter-works, StandsAfter-since}
use Rattle.resp_parse.proofs.ParserStates.{FailedAfter-since, IsBetweenValues-same}
use Rattle.resp_command.specs.Taken.{as_push, Frame, Aside, aside_of, replies_in, pushes_in, push_bytes, PrefixReads}
use Rattle.resp_command.specs.Taken.{FollowsPush, MeetsFault, in_bytes, too_many_pushes, Taken, IsShort}
use Rattle.resp_command.specs.Taken.{ArrivedAsNeeded}
use Rattle.resp_command.proofs.KnownBytes.{prefix-longer}
use Rattle.resp_command.proofs.Values.{reads_nothing, reads_one, reads_both, replies_in-append, pushes_in-append}
use Rattle.resp_command.proofs.Values.{frame_of, push_bytes-append, count-append, ends_at_nothing, ends_after_pushes}
use Rattle.resp_command.proofs.Values.{ends_after_both}
use Rattle.resp_link.specs.Receiving as receiving
use Rattle.resp_link.specs.Receiving.{Inflow, inflow_of, room, read_size, Reads, StopsReceiving, Receives}
use Rattle.resp_link.specs.Receiving.{CannotReceive}
use Rattle.resp_link.specs.Receiving.{CannotSetAside}

-- ---- bytes that came because too few were there

-- after frames that hold fewer than n replies more is awaited
short-of : (l : Limits) (room n : ℕ) (b rest : List ℕ) (fs : List Frame) → PrefixReads l b fs rest
    → length (replies_in fs) < n → push_bytes fs ≤ room → Awaits l rest → IsShort l room n b
unfolding Taken
short-of l room n b rest fs h few fits more = record {
  aside = aside_of fs;
  ends = record { frames = fs; rest = rest; prefix = h; few = few; aside_is = refl; fits = fits; follows = more };
}

-- and so where more replies are needed, and other frames come first
short-after : (l : Limits) (room left m n : ℕ) (b c : List ℕ) (fs : List Frame) → PrefixReads l b fs c
    → length (replies_in fs) + m ≤ n → push_bytes fs + left ≤ room → IsShort l left m c → IsShort l room n b
unfolding Taken
short-after l room left m n b c fs h within fits short =
    let k = short.ends in
    let more : push_bytes k.frames ≤ left = rw (← ap (λ (z : Aside). z.bytes) k.aside_is) k.fits in
    short-of l room n b k.rest (fs ++ k.frames) (reads_both l b c k.rest fs k.frames h k.prefix)
    (let both = count-append fs k.frames in let few = k.few in omega (arith, both, few, within))
    (let both = push_bytes-append fs k.frames in omega (arith, both, more, fits)) k.follows

pub needed-none : (l : Limits) (room n : ℕ) (b : List ℕ) → ArrivedAsNeeded l room read_size n b []
needed-none l room n b = record {
  before = [];
  last = [];
  whole = refl;
  some = λ _. refl;
  size = omega arith;
  short = λ some. absurd (some refl);
}

-- for more replies
needed-for : (l : Limits) (room m n : ℕ) (b arrived : List ℕ) → m ≤ n → ArrivedAsNeeded l room read_size m b arrived
    → ArrivedAsNeeded l room read_size n b arrived
needed-for l room m n b arrived within h = record {
  before = h.before;
  last = h.last;
  whole = h.whole;
  some = h.some;
  size = h.size;
  short = λ some. short-after l room room m n (b ++ h.before) (b ++ h.before) [] (reads_nothing l (b ++ h.before))
      (omega (arith, within)) (omega arith) (h.short some);
}

-- a value was read, or is awaited still
pub needed-value : (l : Limits) (room n : ℕ) (b filled : List ℕ) → 0 < n → AsNeeded l b filled
    → ArrivedAsNeeded l room read_size n b filled
needed-value l room n b filled some h = record {
  before = h.before;
  last = h.last;
  whole = h.whole;
  some = h.some;
  size = h.size;
  short = λ more. short-of l room n (b ++ h.before) (b ++ h.before) [] (reads_nothing l (b ++ h.before)) some
      (omega arith) (h.awaited more);
}

-- bytes that came first and made frames, and then others
pub needed-both : (l : Limits) (room left k m n : ℕ) (b c first second : List ℕ) (fs : List Frame)
    → PrefixReads l (b ++ first) fs c → k ≤ n → length (replies_in fs) + m ≤ n → push_bytes fs + left ≤ room →
    ArrivedAsNeeded l room read_size k b first → ArrivedAsNeeded l left read_size m c second
    → ArrivedAsNeeded l room read_size n b (first ++ second)
needed-both l room left k m n b c first second fs reads fewer within fits h j = by_last j.last refl
  where
    by_last : (last : List ℕ) → j.last ≡ last → ArrivedAsNeeded l room read_size n b (first ++ second)
    by_last [] e =
        let none : second ≡ [] = j.whole ∙ rw (e, j.some e) refl in
        subst (ArrivedAsNeeded l room read_size n b) (sym (append-nil first) ∙ ap (λ z. first ++ z) (sym none))
        (needed-for l room k n b first fewer h)
    by_last (x ∷ last) e = record {
      before = first ++ j.before;
      last = j.last;
      whole = ap (λ z. first ++ z) j.whole ∙ sym (append_assoc first j.before j.last);
      some = λ none. absurd (let z : x ∷ last ≡ [] = sym e ∙ none in cc);
      size = j.size;
      short = λ some. subst (IsShort l room n) (append_assoc b first j.before)
          (short-after l room left m n ((b ++ first) ++ j.before) (c ++ j.before) fs
          (prefix-longer l (b ++ first) c j.before fs reads) within fits (j.short some));
    }

-- ---- what a source lost

pub consumed-nothing : (known : Option (List ℕ)) → Consumes known known []
consumed-nothing None = tt
consumed-nothing (Some xs) = refl

pub consumed-both : (s t u : Option (List ℕ)) (a b : List ℕ) → Consumes s t a → Consumes t u b → Consumes s u (a ++ b)
consumed-both None t u a b h k = tt
consumed-both (Some x) None u a b h k = absurd h
consumed-both (Some x) (Some y) None a b h k = k
consumed-both (Some x) (Some y) (Some z) a b h k = h ∙ ap (λ w. a ++ w) k ∙ sym (append_assoc a b z)

-- ---- frames that are read one after another

pub reads-none : (n : ℕ) (at : Inflow) → Reads n at at [] at.received
reads-none n at = record {
  arrived = [];
  came = sym (append-nil at.came);
  to_come = consumed-nothing at.to_come;
  needed = needed-none at.limits (room at) n at.received;
  prefix = subst (λ b. PrefixReads at.limits b [] at.received) (sym (append-nil at.received))
      (reads_nothing at.limits at.received);
  fits = omega arith;
  limits = refl;
  pushes = sym (append-nil at.pushes);
  size = omega arith;
}

pub reads-both : (k m n : ℕ) (a b c : Inflow) (vs ws : List Frame) (rest : List ℕ) → k ≤ n
    → length (replies_in vs) + m ≤ n → Reads k a b vs b.received → Reads m b c ws rest → Reads n a c (vs ++ ws) rest
reads-both k m n a b c vs ws rest fewer within h j =
    let left : push_bytes vs + room b ≤ room a =
    (let s = h.size in let f = h.fits in let l = ap (λ (z : Limits). z.pushes) h.limits in omega (arith, s, f, l)) in
    let both = push_bytes-append vs ws in
    record {
      arrived = h.arrived ++ j.arrived;
      came = j.came ∙ ap (λ z. z ++ j.arrived) h.came ∙ append_assoc a.came h.arrived j.arrived;
      to_come = consumed-both a.to_come b.to_come c.to_come h.arrived j.arrived h.to_come j.to_come;
      needed = needed-both a.limits (room a) (room b) k m n a.received b.received h.arrived j.arrived vs h.prefix fewer
          within left h.needed (subst (λ l. ArrivedAsNeeded l (room b) read_size m b.received j.arrived) h.limits
          j.needed);
      prefix = subst (λ z. PrefixReads a.limits z (vs ++ ws) rest) (append_assoc a.received h.arrived j.arrived)
          (reads_both a.limits ((a.received ++ h.arrived) ++ j.arrived) (b.received ++ j.arrived) rest vs ws
          (prefix-longer a.limits (a.received ++ h.arrived) b.received j.arrived vs h.prefix)
          (subst (λ l. PrefixReads l (b.received ++ j.arrived) ws rest) h.limits j.prefix));
      fits = (let f = j.fits in omega (arith, both, left, f));
      limits = j.limits ∙ h.limits;
      pushes = j.pushes ∙ ap (λ l. l ++ pushes_in ws) h.pushes ∙ append_assoc a.pushes (pushes_in vs) (pushes_in ws)
          ∙ ap (λ l. a.pushes ++ l) (sym (pushes_in-append vs ws));
      size = (let s = h.size in let t = j.size in omega (arith, both, s, t));
    }

pub stands_since : (s : State) → IsBetweenValues s → StandsAfter s s.since
stands_since s h = StandsAfter-from_since s s.since (StandsAfter-works s s.unparsed h.stands) refl

-- nothing was received so far
pub received_nothing : (s : State) → IsBetweenValues s → s.unparsed ≡ [] → s.since ≡ []
received_nothing s h none = IsBetweenValues-same s h ∙ none

-- a value that was parsed, and what follows it
pub value_since : (s t : Source) (was new : State) (v : Value) → new.limits ≡ was.limits
    → (parsed : Parses was.since was new s t (Ok v)) → HasValue was.limits (was.since ++ parsed.filled) v new.since
value_since s t was new v same parsed = rw (IsBetweenValues-same new parsed.rest) (rw same at parsed.value)

-- its frame
abbrev pub frame_since : (s t : Source) (was new : State) (v : Value) → new.limits ≡ was.limits
    → Parses was.since was new s t (Ok v) → Frame
frame_since s t was new v same parsed = frame_of (value_since s t was new v same parsed)

-- the parser counted its bytes
pub frame_size : (s t : Source) (was new : State) (v : Value) → (same : new.limits ≡ was.limits)
    → (parsed : Parses was.since was new s t (Ok v))
    → length (frame_since s t was new v same parsed).bytes ≡ new.value_len
frame_size s t was new v same parsed =
    let here = value_since s t was new v same parsed in
    let whole = ap length here.whole ∙ length-append here.prefix new.since in
    let rest = ap length (IsBetweenValues-same new parsed.rest) in
    let counted = parsed.size in
    omega (arith, whole, rest, counted)

reads-frame : (s t : Source) (was new : State) (v : Value) → (same : new.limits ≡ was.limits)
    → (parsed : Parses was.since was new s t (Ok v))
    → PrefixReads was.limits (was.since ++ parsed.filled) (frame_since s t was new v same parsed ∷ []) new.since
reads-frame s t was new v same parsed =
    reads_one was.limits (was.since ++ parsed.filled) new.since v (value_since s t was new v same parsed)

-- it was set aside where it is a push
reads-value : (s t : Source) (was new : State) (p p' : List PushInfo) (n n' : ℕ) (v : Value)
    → (same : new.limits ≡ was.limits) → (parsed : Parses was.since was new s t (Ok v))
    → p' ≡ p ++ pushes_in (frame_since s t was new v same parsed ∷ [])
    → n' ≡ n + push_bytes (frame_since s t was new v same parsed ∷ [])
    → push_bytes (frame_since s t was new v same parsed ∷ []) ≤ was.limits.pushes - n →
    Reads 1 (inflow_of was s p n) (inflow_of new t p' n') (frame_since s t was new v same parsed ∷ []) new.since
reads-value s t was new p p' n n' v same parsed listed counted fits = record {
  arrived = parsed.filled;
  came = parsed.source_gave.came;
  to_come = parsed.source_gave.to_come;
  needed = needed-value was.limits (was.limits.pushes - n) 1 was.since parsed.filled (omega arith)
      (rw same at parsed.needed);
  prefix = reads-frame s t was new v same parsed;
  fits = fits;
  limits = same;
  pushes = listed;
  size = counted;
}

-- none was, after bytes that came
module _ (s t : Source) (was new : State) (p : List PushInfo) (n : ℕ) (same : new.limits ≡ was.limits) (filled : List ℕ)
  where
    pub reads-no_value : t.came ≡ s.came ++ filled → Consumes s.to_come t.to_come filled
        → AsNeeded new.limits was.since filled
        → Reads 1 (inflow_of was s p n) (inflow_of new t p n) [] (was.since ++ filled)
    reads-no_value came to_come needed = record {
      arrived = filled;
      came = came;
      to_come = to_come;
      needed = needed-value was.limits (was.limits.pushes - n) 1 was.since filled (omega arith) (rw same at needed);
      prefix = reads_nothing was.limits (was.since ++ filled);
      fits = omega arith;
      limits = same;
      pushes = sym (append-nil p);
      size = omega arith;
    }

-- no value comes next
cannot_read : (s t : Source) (was new : State) (p : List PushInfo) (n : ℕ) (e : RedisError) → new.limits ≡ was.limits
    → CannotParse was.since e was new s t → CannotReceive 1 (inflow_of was s p n) (inflow_of new t p n) e
cannot_read s t was new p n e same (malformed f filled is bad failed) = record {
  frames = [];
  rest = was.since ++ filled;
  reads = reads-no_value s t was new p n same filled failed.source_gave.came failed.source_gave.to_come failed.needed;
  stops = receiving.malformed f (omega arith) is (in_bytes (rw same at bad)) failed.failures;
}
cannot_read s t was new p n e same (early_end filled is incomplete end failed) = record {
  frames = [];
  rest = was.since ++ filled;
  reads = reads-no_value s t was new p n same filled failed.source_gave.came failed.source_gave.to_come failed.needed;
  stops = receiving.early_end (omega arith) is (rw same at incomplete) end failed.failures;
}
cannot_read s t was new p n e same (source_failed kind is midway) = record {
  frames = [];
  rest = was.since ++ midway.filled;
  reads = reads-no_value s t was new p n same midway.filled midway.source_gave.came midway.source_gave.to_come
      midway.needed;
  stops = receiving.source_failed kind (omega arith) is (rw same at midway.awaits)
      (sym (StandsAfter-since new (was.since ++ midway.filled) midway.stands)) midway.failures;
}
cannot_read s t was new p n e same (out_of_memory filled is failed) = record {
  frames = [];
  rest = was.since ++ filled;
  reads = reads-no_value s t was new p n same filled failed.source_gave.came failed.source_gave.to_come failed.needed;
  stops = receiving.out_of_memory is (sym (FailedAfter-since new (was.since ++ filled) failed.failed)) failed.failures;
}

-- a stop after other frames, where more is needed still
stops-after : (Needed More : Type 0) (a b c : Inflow) (rest : List ℕ) (e : RedisError) → (Needed → More)
    → b.limits ≡ a.limits → b.failures ≡ a.failures → StopsReceiving Needed b c rest e → StopsReceiving More a c rest e
stops-after Needed More a b c rest e f l n (receiving.malformed fault need is bad same) = receiving.malformed fault
    (f need) is (subst (λ z. MeetsFault z (room c) rest fault) l bad) (same ∙ n)
stops-after Needed More a b c rest e f l n (receiving.early_end need is incomplete end same) = receiving.early_end
    (f need) is (rw l at incomplete) end (same ∙ n)
stops-after Needed More a b c rest e f l n (receiving.source_failed kind need is awaits left counted) =
    receiving.source_failed kind (f need) is (rw l at awaits) left (rw n at counted)
stops-after Needed More a b c rest e f l n (receiving.out_of_memory is left same) = receiving.out_of_memory is left
    (same ∙ n)
stops-after Needed More a b c rest e f l n (receiving.no_room is push same) = receiving.no_room is (rw l at push)
    (same ∙ n)

-- ---- replies

-- pushes alone came so far
pub record OnlyPushes (old at : Inflow) : Type 0 where
  pub frames : List Frame
  pub reads : Reads 1 old at frames at.received
  pub none : replies_in frames ≡ []
  pub failures : at.failures ≡ old.failures

pub only_pushes_none : (at : Inflow) → OnlyPushes at at
only_pushes_none at = record { frames = []; reads = reads-none 1 at; none = refl; failures = refl }

-- one value more
module _ (old : Inflow) (s t : Source) (was new : State) (p p' : List PushInfo) (n n' : ℕ) (v : Value)
    (so_far : OnlyPushes old (inflow_of was s p n)) (same : new.limits ≡ was.limits)
    (parsed : Parses was.since was new s t (Ok v)) where
  abbrev frame : Frame
  frame = frame_since s t was new v same parsed

  with-value : p' ≡ p ++ pushes_in (frame ∷ []) → n' ≡ n + push_bytes (frame ∷ [])
      → push_bytes (frame ∷ []) ≤ was.limits.pushes - n
      → Reads 1 old (inflow_of new t p' n') (so_far.frames ++ frame ∷ []) new.since
  with-value listed counted fits =
      let none = ap length so_far.none in
      reads-both 1 1 1 old (inflow_of was s p n) (inflow_of new t p' n') so_far.frames (frame ∷ []) new.since
      (omega arith) (omega (arith, none)) so_far.reads
      (reads-value s t was new p p' n n' v same parsed listed counted fits)

  -- the bytes of a push are those that the parser counted
  push_size : (info : PushInfo) → as_push v ≡ Some info → push_bytes (frame ∷ []) ≡ new.value_len
  push_size info push = rw push (ap length (append-nil frame.bytes)) ∙ frame_size s t was new v same parsed

  -- a push
  pub only_pushes_more : (info : PushInfo) → as_push v ≡ Some info
      → receiving.SetsAside info new.value_len new.limits.pushes p p' n n' → OnlyPushes old (inflow_of new t p' n')
  only_pushes_more info push aside = record {
    frames = so_far.frames ++ frame ∷ [];
    reads = with-value (aside.listed ∙ rw push refl) (aside.counted ∙ ap (λ z. n + z) (sym (push_size info push)))
        (rw (push_size info push) (rw same at aside.fits));
    none = replies_in-append so_far.frames (frame ∷ []) ∙ rw (so_far.none, push) refl;
    failures = parsed.failures ∙ so_far.failures;
  }

  -- the reply after the pushes
  pub received_one : as_push v ≡ None → p' ≡ p → n' ≡ n → Receives 1 old (inflow_of new t p' n') (v ∷ [])
  received_one reply listed counted =
      let no_bytes : push_bytes (frame ∷ []) ≡ 0 = rw reply refl in
      record {
        frames = so_far.frames ++ frame ∷ [];
        reads = with-value (listed ∙ sym (append-nil p) ∙ rw reply refl) (omega (arith, counted, no_bytes))
            (omega (arith, no_bytes));
        ends = ends_after_pushes so_far.frames frame so_far.none reply;
        replies_are = sym (replies_in-append so_far.frames (frame ∷ []) ∙ rw (so_far.none, reply) refl);
        failures = parsed.failures ∙ so_far.failures;
      }

-- what comes after frames that were read
cannot_receive-after : (k m n : ℕ) (a b c : Inflow) (fs : List Frame) (e : RedisError) → k ≤ n
    → length (replies_in fs) + m ≤ n → Reads k a b fs b.received → b.failures ≡ a.failures → CannotReceive m b c e
    → CannotReceive n a c e
cannot_receive-after k m n a b c fs e fewer within h same stop = record {
  frames = fs ++ stop.frames;
  rest = stop.rest;
  reads = reads-both k m n a b c fs stop.frames stop.rest fewer within h stop.reads;
  stops = stops-after _ _ a b c stop.rest e (λ more. let both = count-append fs stop.frames in omega
      (arith, both, more, within)) h.limits same stop.stops;
}

-- no reply after the pushes
pub received_none : (old : Inflow) (s t : Source) (was new : State) (p : List PushInfo) (n : ℕ) (e : RedisError)
    → OnlyPushes old (inflow_of was s p n) → new.limits ≡ was.limits → Parses was.since was new s t (Err e)
    → CannotReceive 1 old (inflow_of new t p n) e
received_none old s t was new p n e so_far same parses =
    let none = ap length so_far.none in
    cannot_receive-after 1 1 1 old (inflow_of was s p n) (inflow_of new t p n) so_far.frames e (omega arith)
    (omega (arith, none)) so_far.reads so_far.failures (cannot_read s t was new p n e same parses)

-- a push that passes the limit, or found no room in memory
module _ (old : Inflow) (s t : Source) (was new : State) (p : List PushInfo) (n : ℕ) (v : Value) (info : PushInfo)
    (so_far : OnlyPushes old (inflow_of was s p n)) (same : new.limits ≡ was.limits)
    (parsed : Parses was.since was new s t (Ok v)) (push : as_push v ≡ Some info) where
  abbrev follows : FollowsPush was.limits (was.since ++ parsed.filled) new.since
  follows = record {
    push = frame_since s t was new v same parsed;
    prefix = reads-frame s t was new v same parsed;
    is_push = rw push refl;
  }

  stopped : (e : RedisError) → StopsReceiving (0 < 1) (inflow_of was s p n) (inflow_of new t p n)
      (was.since ++ parsed.filled) e → CannotReceive 1 old (inflow_of new t p n) e
  stopped e stops =
      let none = ap length so_far.none in
      cannot_receive-after 1 1 1 old (inflow_of was s p n) (inflow_of new t p n) so_far.frames e (omega arith)
      (omega (arith, none)) so_far.reads so_far.failures (record {
        frames = [];
        rest = was.since ++ parsed.filled;
        reads = reads-no_value s t was new p n same parsed.filled parsed.source_gave.came parsed.source_gave.to_come
            parsed.needed;
        stops = stops;
      })

  pub not_aside : (e : RedisError) → CannotSetAside new.value_len new.limits.pushes n e
      → CannotReceive 1 old (inflow_of new t p n) e
  not_aside e (receiving.too_many is passes) = stopped e (receiving.malformed TooManyPushes (omega arith) is
      (too_many_pushes refl (record {
        later = new.since;
        follows = follows;
        passes = subst (λ z. new.limits.pushes - n < z)
            (sym (push_size old s t was new p p n n v so_far same parsed info push)) passes;
      })) parsed.failures)
  not_aside e (receiving.out_of_room is) = stopped e (receiving.no_room is follows parsed.failures)

pub receives_none : (at : Inflow) → Receives 0 at at []
receives_none at = record {
  frames = [];
  reads = reads-none 0 at;
  ends = ends_at_nothing;
  replies_are = refl;
  failures = refl;
}

pub receives_both : (m n : ℕ) (a b c : Inflow) (rs ss : List Value) → Receives m a b rs → Receives n b c ss
    → Receives (m + n) a c (rs ++ ss)
receives_both m n a b c rs ss h k = record {
  frames = h.frames ++ k.frames;
  reads = (let some = h.ends.enough in reads-both m n (m + n) a b c h.frames k.frames c.received (omega arith)
      (omega (arith, some)) h.reads k.reads);
  ends = ends_after_both m n h.frames k.frames h.ends k.ends;
  replies_are = ap (λ l. l ++ ss) h.replies_are ∙ ap (λ l. replies_in h.frames ++ l) k.replies_are
      ∙ sym (replies_in-append h.frames k.frames);
  failures = k.failures ∙ h.failures;
}

pub cannot_receive_after : (m k n : ℕ) (a b c : Inflow) (rs : List Value) (e : RedisError) → m + k ≤ n
    → Receives m a b rs → CannotReceive k b c e → CannotReceive n a c e
cannot_receive_after m k n a b c rs e within h stop =
    let some = h.ends.enough in
    cannot_receive-after m k n a b c h.frames e (omega (arith, within)) (omega (arith, some, within)) h.reads h.failures
    stop

-- replies that came, and for which there was no room
pub no_room_after : (m n : ℕ) (a b : Inflow) (rs : List Value) → m ≤ n → Receives m a b rs
    → CannotReceive n a b form.OutOfMemory
no_room_after m n a b rs within h = record {
  frames = h.frames;
  rest = b.received;
  reads = record {
    arrived = h.reads.arrived;
    came = h.reads.came;
    to_come = h.reads.to_come;
    needed = needed-for a.limits (room a) m n a.received h.reads.arrived within h.reads.needed;
    prefix = h.reads.prefix;
    fits = h.reads.fits;
    limits = h.reads.limits;
    pushes = h.reads.pushes;
    size = h.reads.size;
  };
  stops = receiving.out_of_memory refl refl h.failures;
}

-- what is kept of replies whose first were dropped
pub kept_after : (n : ℕ) (a b : Inflow) (dropped kept : List Value) → Receives n a b dropped
    → kept ≡ drop n (dropped ++ kept)
kept_after n a b dropped kept h = let len : length dropped ≡ n = ap length h.replies_are ∙ h.ends.enough in
    rw (← len) (grind (arith, common_steps))
