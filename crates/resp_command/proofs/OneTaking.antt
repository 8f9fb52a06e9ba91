-- From any bytes n replies take one thing: there is one, and there is no other.
use Rattle.std.proofs.Common.{◌≡◌, ℕ, zero, suc, ◌+◌, ◌-◌, ◌<◌, ◌≤◌, Option, None, Some, List, [], ◌∷◌, ◌++◌, length}
use Rattle.std.proofs.Common.{refl}
use Rattle.std.proofs.Common.{sym, ap, ◌∙◌, subst, append_assoc, length-append, arith, ◌⊎◌, inl, inr}
use Rattle.std.proofs.lemmas.List.{append_cancel_right}
use Rattle.resp_value.specs.declared.value.Value.{Value}
use Rattle.resp_value.specs.declared.value.PushInfo.{PushInfo}
use Rattle.resp_errors.specs.declared.kinds.FrameFault.{FrameFault}
use Rattle.resp_errors.specs.declared.kinds.FrameFault.TheVariants.{TooManyPushes}
use Rattle.resp_parse.specs.declared.limits.Limits.{Limits}
use Rattle.resp_parse.specs.Limited as limited
use Rattle.resp_parse.specs.Limited.{WellFormedWithin, HasValue, HasFault, Awaits, Found}
use Rattle.resp_parse.proofs.LimitedReadings.{one_reading, found}
use Rattle.resp_command.specs.Taken.{as_push, Frame, bytes_of, Aside, aside_of, push_bytes, replies_in}
use Rattle.resp_command.specs.Taken.{PrefixReads, MeetsFault, in_bytes, too_many_pushes, Taking}
use Rattle.resp_command.specs.Taken.{took, met_fault, ended_early, TakesAll, TakesFewer, Taken, TakesOneThing}
use Rattle.resp_command.specs.Taken.{no_pushes}
use Rattle.resp_command.proofs.PackedReadsBack.{well_formed_some}
use Rattle.resp_command.proofs.Values.{reads_nothing, reads_one, reads_both, value_first, frame_of, count-append}
use Rattle.resp_command.proofs.Values.{push_bytes-append, ends_at_nothing}

-- two readings of the same bytes: they are one, or one goes on where the other ends
data Compared (l : Limits) (vs ws : List Frame) (r s : List ℕ) : Type 0 where
  same : vs ≡ ws → r ≡ s → Compared l vs ws r s
  first_shorter : (w : Frame) (after : List Frame) → ws ≡ vs ++ w ∷ after → PrefixReads l r (w ∷ after) s
      → Compared l vs ws r s
  second_shorter : (v : Frame) (after : List Frame) → vs ≡ ws ++ v ∷ after → PrefixReads l s (v ∷ after) r
      → Compared l vs ws r s

one_more : (l : Limits) (vs ws : List Frame) (r s : List ℕ) (v : Frame) → Compared l vs ws r s
    → Compared l (v ∷ vs) (v ∷ ws) r s
one_more l vs ws r s v (same e f) = same (ap (λ z. v ∷ z) e) f
one_more l vs ws r s v (first_shorter w after e h) = first_shorter w after (ap (λ z. v ∷ z) e) h
one_more l vs ws r s v (second_shorter w after e h) = second_shorter w after (ap (λ z. v ∷ z) e) h

-- the frame at the start is one
one_frame : (l : Limits) (b : List ℕ) (v w : Frame) (r s : List ℕ) → b ≡ v.bytes ++ r → b ≡ w.bytes ++ s
    → WellFormedWithin l v.bytes v.value → WellFormedWithin l w.bytes w.value → (v ≡ w) × (r ≡ s)
one_frame l b v w r s e f g h =
    let one = (one_reading l b).values v.value w.value r s (record { prefix = v.bytes; whole = e; well_formed = g })
    (record { prefix = w.bytes; whole = f; well_formed = h }) in
    let bytes : v.bytes ≡ w.bytes = append_cancel_right v.bytes w.bytes s
    (rw (← one.1) (sym e ∙ f ∙ ap (λ z. w.bytes ++ z)
    (sym one.1))) in
    (rw (bytes, one.0) refl, one.1)

compare : (l : Limits) (b : List ℕ) (vs ws : List Frame) (r s : List ℕ) → PrefixReads l b vs r → PrefixReads l b ws s
    → Compared l vs ws r s
compare l b [] [] r s h k = same refl (sym h.whole ∙ k.whole)
compare l b [] (w ∷ ws) r s h k = first_shorter w ws refl (subst (λ z. PrefixReads l z (w ∷ ws) s) h.whole k)
compare l b (v ∷ vs) [] r s h k = second_shorter v vs refl (subst (λ z. PrefixReads l z (v ∷ vs) r) k.whole h)
compare l b (v ∷ vs) (w ∷ ws) r s h k =
    let left = h.whole ∙ append_assoc v.bytes (bytes_of vs) r in
    let right = k.whole ∙ append_assoc w.bytes (bytes_of ws) s in
    let one = one_frame l b v w (bytes_of vs ++ r) (bytes_of ws ++ s) left right h.frames_are.0 k.frames_are.0 in
    subst (λ z. Compared l (v ∷ vs) (z ∷ ws) r s) one.0
    (one_more l vs ws r s v (compare l (bytes_of vs ++ r) vs ws r s (record {
      whole = refl;
      frames_are = h.frames_are.1;
    })
    (record { whole = one.1; frames_are = k.frames_are.1 })))

-- no frame for which there is room stands where something else follows
abbrev NoFrame : Limits → ℕ → (List ℕ → Type 0) → Type 0
NoFrame l room After = (r more : List ℕ) (f : Frame) (fs : List Frame) → After r → PrefixReads l r (f ∷ fs) more
    → push_bytes (f ∷ []) ≤ room → ⊥

awaits_no_frame : (l : Limits) (room : ℕ) → NoFrame l room (Awaits l)
awaits_no_frame l room r more f fs h g fits =
    (one_reading l r).value_or_more f.value (bytes_of fs ++ more) (value_first l r more f fs g) h

fault_no_frame : (l : Limits) (room : ℕ) (fault : FrameFault) → NoFrame l room (λ r. MeetsFault l room r fault)
fault_no_frame l room fault r more f fs (in_bytes h) g fits =
    (one_reading l r).value_or_fault f.value (bytes_of fs ++ more) fault (value_first l r more f fs g) h
fault_no_frame l room fault r more f fs (too_many_pushes e p) g fits =
    let push = p.follows.push in
    let one = one_frame l r f push (bytes_of fs ++ more) ([] ++ p.later)
    (g.whole ∙ append_assoc f.bytes (bytes_of fs) more) (p.follows.prefix.whole ∙ append_assoc push.bytes [] p.later)
    g.frames_are.0 p.follows.prefix.frames_are.0 in
    let size : push_bytes (f ∷ []) ≡ push_bytes (push ∷ []) = ap (λ z. push_bytes (z ∷ [])) one.0 in
    let passes = p.passes in
    omega (arith, size, passes, fits)

-- the replies that come first are as many at most
at_most : (vs ws after : List Frame) (w : Frame) → ws ≡ vs ++ w ∷ after
    → length (replies_in vs) ≤ length (replies_in ws)
at_most vs ws after w e = let c = ap (λ z. length (replies_in z)) e ∙ count-append vs (w ∷ after) in omega arith

-- and for the next frame there is room
next_fits : (room : ℕ) (vs ws after : List Frame) (w : Frame) → ws ≡ vs ++ w ∷ after → push_bytes ws ≤ room
    → push_bytes (w ∷ []) ≤ room - push_bytes vs
next_fits room vs ws after w e fits =
    let all = ap push_bytes e ∙ push_bytes-append vs (w ∷ after) in
    let one = push_bytes-append (w ∷ []) after in
    omega (arith, all, one, fits)

module _ (l : Limits) (room n : ℕ) (b : List ℕ) where
  all_all : (rs ss : List Value) (p q : Aside) (r s : List ℕ) → TakesAll l room n b rs p r → TakesAll l room n b ss q s
      → took rs p r ≡ took ss q s
  all_all rs ss p q r s h k = elim (compare l b h.frames k.frames r s h.prefix k.prefix) [
    | same e f ↦ (
        let i : rs ≡ ss = h.replies_are ∙ ap replies_in e ∙ sym k.replies_are in
        let j : p ≡ q = h.aside_is ∙ ap aside_of e ∙ sym k.aside_is in
        rw (i, j, f) refl)
    | first_shorter w after e g ↦ absurd
        (let fewer = k.ends.least h.frames after w e in let m = h.ends.enough in omega arith)
    | second_shorter v after e g ↦ absurd
        (let fewer = h.ends.least k.frames after v e in let m = k.ends.enough in omega arith)
  ]

  -- all replies are there, or they aren't
  all_fewer : (rs : List Value) (p q : Aside) (r : List ℕ) (After : List ℕ → Type 0) → NoFrame l (room - q.bytes) After
      → TakesAll l room n b rs p r → TakesFewer l room n b q After → ⊥
  all_fewer rs p q r After nothing h k = elim (compare l b h.frames k.frames r k.rest h.prefix k.prefix) [
    | same e f ↦ (let c = ap (λ z. length (replies_in z)) e in let m = h.ends.enough in let few = k.few in omega arith)
    | first_shorter w after e g ↦ (let c = at_most h.frames k.frames after w e in let m = h.ends.enough in
        let few = k.few in omega arith)
    | second_shorter v after e g ↦ nothing k.rest r v after k.follows g (rw (ap (λ (z : Aside). z.bytes) k.aside_is)
        (next_fits room k.frames h.frames after v e (rw (← ap (λ (z : Aside). z.bytes) h.aside_is) h.fits)))
  ]

  -- what comes before something else is one
  fewer_fewer : (p q : Aside) (After After' : List ℕ → Type 0) → NoFrame l (room - p.bytes) After
      → NoFrame l (room - q.bytes) After'
      → (h : TakesFewer l room n b p After) → (k : TakesFewer l room n b q After') → (p ≡ q) × (h.rest ≡ k.rest)
  fewer_fewer p q After After' nothing nothing' h k =
      elim (compare l b h.frames k.frames h.rest k.rest h.prefix k.prefix) [
        | same e f ↦ (h.aside_is ∙ ap aside_of e ∙ sym k.aside_is, f)
        | first_shorter w after e g ↦ absurd (nothing h.rest k.rest w after h.follows g
            (rw (ap (λ (z : Aside). z.bytes) h.aside_is) (next_fits room h.frames k.frames after w e
            (rw (← ap (λ (z : Aside). z.bytes) k.aside_is) k.fits))))
        | second_shorter v after e g ↦ absurd (nothing' k.rest h.rest v after k.follows g
            (rw (ap (λ (z : Aside). z.bytes) k.aside_is) (next_fits room k.frames h.frames after v e
            (rw (← ap (λ (z : Aside). z.bytes) h.aside_is) h.fits))))
      ]

  -- a fault, or the end of the bytes
  fault_or_more : (r : List ℕ) (f : FrameFault) (left : ℕ) → MeetsFault l left r f → Awaits l r → ⊥
  fault_or_more r f left (in_bytes h) k = (one_reading l r).fault_or_more f h k
  fault_or_more r f left (too_many_pushes e p) k = (one_reading l r).value_or_more p.follows.push.value
      ([] ++ p.later) (value_first l r p.later p.follows.push [] p.follows.prefix) k

  fault_early : (f : FrameFault) (p q : Aside) → TakesFewer l room n b p (λ r. MeetsFault l (room - p.bytes) r f)
      → TakesFewer l room n b q (Awaits l) → ⊥
  fault_early f p q h k =
      let e = (fewer_fewer p q _ _ (fault_no_frame l (room - p.bytes) f) (awaits_no_frame l (room - q.bytes)) h k).1 in
      fault_or_more k.rest f (room - p.bytes) (subst (λ r. MeetsFault l (room - p.bytes) r f) e h.follows) k.follows

  -- one fault is met
  one_fault : (r : List ℕ) (f g : FrameFault) (left right : ℕ) → MeetsFault l left r f → MeetsFault l right r g → f ≡ g
  one_fault r f g left right (in_bytes h) (in_bytes k) = (one_reading l r).faults f g h k
  one_fault r f g left right (in_bytes h) (too_many_pushes e p) = absurd ((one_reading l r).value_or_fault
      p.follows.push.value ([] ++ p.later) f (value_first l r p.later p.follows.push [] p.follows.prefix) h)
  one_fault r f g left right (too_many_pushes e p) (in_bytes k) = absurd ((one_reading l r).value_or_fault
      p.follows.push.value ([] ++ p.later) g (value_first l r p.later p.follows.push [] p.follows.prefix) k)
  one_fault r f g left right (too_many_pushes e p) (too_many_pushes e' q) = e ∙ sym e'

  only_one : (t u : Taking) → Taken l room n b t → Taken l room n b u → t ≡ u
  unfolding Taken
  only_one (took rs p r) (took ss q s) h k = all_all rs ss p q r s h k
  only_one (took rs p r) (met_fault g q) h k = absurd (all_fewer rs p q r _ (fault_no_frame l (room - q.bytes) g) h k)
  only_one (took rs p r) (ended_early q) h k = absurd (all_fewer rs p q r _ (awaits_no_frame l (room - q.bytes)) h k)
  only_one (met_fault f p) (took ss q s) h k = absurd (all_fewer ss q p s _ (fault_no_frame l (room - p.bytes) f) k h)
  only_one (met_fault f p) (met_fault g q) h k =
      let e = fewer_fewer p q _ _ (fault_no_frame l (room - p.bytes) f) (fault_no_frame l (room - q.bytes) g) h k in
      let same_fault : f ≡ g = one_fault k.rest f g (room - p.bytes) (room - q.bytes)
      (subst (λ r. MeetsFault l (room - p.bytes) r f) e.1 h.follows) k.follows in
      rw (same_fault, e.0) refl
  only_one (met_fault f p) (ended_early q) h k = absurd (fault_early f p q h k)
  only_one (ended_early p) (took ss q s) h k = absurd (all_fewer ss q p s _ (awaits_no_frame l (room - p.bytes)) k h)
  only_one (ended_early p) (met_fault g q) h k = absurd (fault_early g q p k h)
  only_one (ended_early p) (ended_early q) h k = ap ended_early
      (fewer_fewer p q _ _ (awaits_no_frame l (room - p.bytes)) (awaits_no_frame l (room - q.bytes)) h k).0

-- the frame of a value that comes before, a push or a reply, and what is taken after it
module _ (l : Limits) (room n m : ℕ) (b rest : List ℕ) (v : Value) (g : HasValue l b v rest)
    (count : length (replies_in (frame_of g ∷ [])) + m ≡ n) (some : 0 < n)
    (fits : push_bytes (frame_of g ∷ []) ≤ room) where
  abbrev frame : Frame
  frame = frame_of g

  abbrev left : ℕ
  left = room - push_bytes (frame ∷ [])

  all_after : (rs : List Value) (p : Aside) (r : List ℕ) → (h : TakesAll l left m rest rs p r)
      → TakesAll l room n b (replies_in (frame ∷ h.frames)) (aside_of (frame ∷ h.frames)) r
  all_after rs p r h = record {
    frames = frame ∷ h.frames;
    prefix = reads_both l b rest r (frame ∷ []) h.frames (reads_one l b rest v g) h.prefix;
    ends = record {
      enough = (let c = count-append (frame ∷ []) h.frames in let e = h.ends.enough in omega arith);
      least = λ before after w e. earlier before after w e;
    };
    replies_are = refl;
    aside_is = refl;
    fits = both_fit h.frames (rw (← ap (λ (z : Aside). z.bytes) h.aside_is) h.fits);
  }
    where
      earlier : (before after : List Frame) (w : Frame) → frame ∷ h.frames ≡ before ++ w ∷ after
          → length (replies_in before) < n
      earlier [] after w e = some
      earlier (x ∷ before) after w e =
          let first : frame ≡ x = cc in
          let fewer = h.ends.least before after w (cc) in
          let c = count-append (x ∷ []) before in
          let one = ap (λ z. length (replies_in (z ∷ []))) first in
          omega arith

      both_fit : (fs : List Frame) → push_bytes fs ≤ left → push_bytes (frame ∷ fs) ≤ room
      both_fit fs k = let c = push_bytes-append (frame ∷ []) fs in omega (arith, c, k, fits)

  -- and what follows, where it was met with the room that the frames left
  fewer_after : (p : Aside) (Then Now : List ℕ → Type 0) → (h : TakesFewer l left m rest p Then)
      → ((r : List ℕ) → Then r → Now r) → TakesFewer l room n b (aside_of (frame ∷ h.frames)) Now
  fewer_after p Then Now h f = record {
    frames = frame ∷ h.frames;
    rest = h.rest;
    prefix = reads_both l b rest h.rest (frame ∷ []) h.frames (reads_one l b rest v g) h.prefix;
    few = (let c = count-append (frame ∷ []) h.frames in let e = h.few in omega arith);
    aside_is = refl;
    fits = (let c = push_bytes-append (frame ∷ []) h.frames in
        let k : push_bytes h.frames ≤ left = rw (← ap (λ (z : Aside). z.bytes) h.aside_is) h.fits in
        omega (arith, c, k, fits));
    follows = f h.rest h.follows;
  }

  value_before : (t : Taking) → Taken l left m rest t → (u : Taking) × Taken l room n b u
  unfolding Taken
  value_before (took rs p r) h =
      (took (replies_in (frame ∷ h.frames)) (aside_of (frame ∷ h.frames)) r, all_after rs p r h)
  value_before (met_fault f p) h =
      let same : left - p.bytes ≡ room - push_bytes (frame ∷ h.frames) =
      (let c = push_bytes-append (frame ∷ []) h.frames in let k = ap (λ (z : Aside). z.bytes) h.aside_is in
      omega (arith, c, k)) in (
        met_fault f (aside_of (frame ∷ h.frames)),
        fewer_after p _ _ h (λ r k. subst (λ z. MeetsFault l z r f) same k),
      )
  value_before (ended_early p) h = (ended_early (aside_of (frame ∷ h.frames)), fewer_after p _ _ h (λ r k. k))

-- a value takes a byte at least
shorter : (l : Limits) (b rest : List ℕ) (v : Value) → HasValue l b v rest → length rest < length b
shorter l b rest v h = by_prefix h.prefix h.whole h.well_formed
  where
    by_prefix : (x : List ℕ) → b ≡ x ++ rest → WellFormedWithin l x v → length rest < length b
    by_prefix [] e g = absurd (well_formed_some l.depth v g.well_formed)
    by_prefix (c ∷ x) e g = let size = ap length e ∙ length-append (c ∷ x) rest in omega arith

-- a frame is a push, or one reply more, which takes none of the room
data OneFrame (f : Frame) : Type 0 where
  push : replies_in (f ∷ []) ≡ [] → OneFrame f
  reply : length (replies_in (f ∷ [])) ≡ 1 → push_bytes (f ∷ []) ≡ 0 → OneFrame f

one_or_other : (f : Frame) → OneFrame f
one_or_other f = either (as_push f.value) refl
  where
    either : (o : Option PushInfo) → as_push f.value ≡ o → OneFrame f
    either (Some info) e = push (rw e refl)
    either None e = reply (rw e refl) (rw e refl)

-- there is room, or there isn't
within_room : (n room : ℕ) → (n ≤ room) ⊎ (room < n)
within_room zero room = inl (omega arith)
within_room (suc n) zero = inr (omega arith)
within_room (suc n) (suc room) = elim (within_room n room)
    [ inl h ↦ inl (omega (arith, h)) | inr h ↦ inr (omega (arith, h)) ]

some_taking : (l : Limits) (size room n : ℕ) (b : List ℕ) → length b < size → (t : Taking) × Taken l room n b t
unfolding Taken
some_taking l zero room n b few = absurd (omega arith)
some_taking l (suc size) room zero b few = (
  took [] no_pushes b,
  record {
    frames = [];
    prefix = reads_nothing l b;
    ends = ends_at_nothing;
    replies_are = refl;
    aside_is = refl;
    fits = omega arith;
  },
)
some_taking l (suc size) room (suc n) b few = next (some_taking l size) (found l b)
  where
    nothing_but : (After : List ℕ → Type 0) → After b → TakesFewer l room (suc n) b no_pushes After
    nothing_but After h = record {
      frames = [];
      rest = b;
      prefix = reads_nothing l b;
      few = omega arith;
      aside_is = refl;
      fits = omega arith;
      follows = h;
    }

    next : ((room m : ℕ) (c : List ℕ) → length c < size → (t : Taking) × Taken l room m c t) → Found l b
        → (t : Taking) × Taken l room (suc n) b t
    next deeper (limited.value v rest g) =
        let smaller = shorter l b rest v g in
        elim (one_or_other (frame_of g)) [
          | push is ↦ elim (within_room (push_bytes (frame_of g ∷ [])) room) [
            | inl fits ↦ (let t = deeper (room - push_bytes (frame_of g ∷ [])) (suc n) rest (omega (
              arith,
              smaller,
              few,
            )) in
                value_before l room (suc n) (suc n) b rest v g (let none = ap length is in omega (arith, none))
                (omega arith)
                fits t.0 t.1)
            | inr passes ↦ (
              met_fault TooManyPushes no_pushes,
              nothing_but _ (too_many_pushes refl (record {
                later = rest;
                follows = record { push = frame_of g; prefix = reads_one l b rest v g; is_push = is };
                passes = omega (arith, passes);
              })),
            )
          ]
          | reply one none ↦ (let t = deeper (room - push_bytes (frame_of g ∷ [])) n rest (omega (
            arith,
            smaller,
            few,
          )) in
              value_before l room (suc n) n b rest v g (omega (arith, one)) (omega arith) (omega (arith, none)) t.0 t.1)
        ]
    next deeper (limited.fault f h) = (met_fault f no_pushes, nothing_but _ (in_bytes h))
    next deeper (limited.more h) = (ended_early no_pushes, nothing_but _ h)

pub takes_one_thing : (l : Limits) (room n : ℕ) (b : List ℕ) → TakesOneThing l room n b
takes_one_thing l room n b = let t = some_taking l (suc (length b)) room n b (omega arith) in
    record { taking = t.0; taken = t.1; only = λ u h. only_one l room n b u t.0 h t.1 }
