-- What the calls of a parser mean for the session that holds it.
use Rattle.std.proofs.Common.{◌≡◌, ◌≢◌, ◌⊎◌, ◌↔◌, ℕ, true, false, List, [], ◌∷◌, Option, Some, None, inl, Result, Ok}
use Rattle.std.proofs.Common.{Err, is_err, IsSome, refl, sym, ap, subst, ◌∙◌, IfSome, ◌+◌, ◌-◌, ◌++◌, length, arith}
use Rattle.std.proofs.lemmas.List.{length-append}
use Rattle.std.specs.Option.{unwrap_or}
use Rattle.std.proofs.lemmas.Bool.{false_from_ne_true}
use Rattle.resp_errors.specs.declared.kinds.FrameFault.{FrameFault}
use Rattle.resp_errors.specs.declared.parsing_error.ParsingError.TheVariants as parsing
use Rattle.resp_errors.specs.declared.redis_error.RedisError.{RedisError}
use Rattle.resp_errors.specs.declared.redis_error.RedisError.TheVariants as form
use Rattle.resp_parse.specs.declared.limits.Limits.{Limits}
use Rattle.resp_parse.specs.Limited.{HasValue, HasFault, FaultShownAt, Awaits}
use Rattle.resp_parse.specs.State.{State, StandsAfter, FailedAfter, HasOffset}
use Rattle.resp_parse.specs.Calls.{CannotTake, Feeds}
use Rattle.resp_c.specs.declared.session.Session.{Session}
use Rattle.resp_c.proofs.Bools.{true_is_not_false}
use Rattle.resp_c.specs.Sessions.{HasFailed, Works, Fed, Taken, FirstOf, status_of, with_fault}

-- a parser that works stands after the bytes since its last value
pub stands_now : (s : State) → s.failed ≡ false → StandsAfter s s.since
unfolding StandsAfter
stands_now s h = (h, refl)

pub failed_after : (s : State) (b : List ℕ) → FailedAfter s b → s.failed ≡ true
unfolding FailedAfter
failed_after s b h = h.0

abbrev IsSome' : List ℕ → Type 0
IsSome' [] = ⊥
IsSome' (x ∷ xs) = Unit {0}

pub stands_works : (s : State) (b : List ℕ) → StandsAfter s b → s.failed ≡ false
unfolding StandsAfter
stands_works s b h = h.0

-- bytes that aren't some are none
pub none_unless : (b : List ℕ) → (b ≢ [] → ⊥) → b ≡ []
none_unless [] h = refl
none_unless (x ∷ xs) h = absurd (h (λ e. subst IsSome' e tt))

abbrev fault_or : FrameFault → RedisError → FrameFault
fault_or d (form.Parse (parsing.Fault f)) = f
fault_or d _ = d

abbrev IsParse : RedisError → Type 0
IsParse (form.Parse p) = Unit {0}
IsParse _ = ⊥

-- the fault that was answered is the one that shows
pub has_fault : (l : Limits) (b : List ℕ) (f : FrameFault) → CannotTake l b (form.Parse (parsing.Fault f))
    → HasFault l b f
has_fault l b f (CannotTake.malformed g eq shown) = subst (λ (h : FrameFault). HasFault l b h)
    (sym (ap (fault_or f) eq)) shown
has_fault l b f (CannotTake.out_of_memory eq) = absurd (subst IsParse eq tt)

-- what a parser that worked answers where there is no value
abbrev Refuses : Session → Session → RedisError → Type 0
Refuses s t e = (b : List ℕ) → StandsAfter s.parser b → CannotTake t.parser.limits b e × FailedAfter t.parser b

memory_ran_out : (s t : Session) (e : RedisError) → Works s → Refuses s t e → Taken s t 3
memory_ran_out s t e w h =
    let after : (b : List ℕ) → StandsAfter s.parser b → FailedAfter t.parser b = λ b stands. (h b stands).1 in
    Taken.memory refl w (failed_after t.parser s.parser.since (after s.parser.since (stands_now s.parser w))) after

-- where a fault shows of which an offset was kept
shown_at : (l : Limits) (bytes : List ℕ) (taken : ℕ) (o p : Option ℕ) → IsSome o → p ≡ o
    → IfSome p (FaultShownAt l bytes) → taken ≡ unwrap_or p 0 → FaultShownAt l bytes taken
shown_at l bytes taken o (Some n) some same shown is = subst (FaultShownAt l bytes) (sym is) shown
shown_at l bytes taken o None some same shown is = absurd (true_is_not_false (sym (subst IsSome (sym same) some)))

-- m is the session after its parser refused, which told this place
pub refused : (s m : Session) (e : RedisError) (p : Option ℕ) (place : ℕ) → Works s → Refuses s m e
    → HasOffset e m.parser.fault_offset → p ≡ m.parser.fault_offset
    → ((b : List ℕ) → FailedAfter m.parser b → IfSome p (FaultShownAt m.parser.limits b)) → place ≡ unwrap_or p 0
    → Taken s (with_fault e place m) (status_of e)
refused s m (form.Parse (parsing.Fault f)) p place w h some same shows is = Taken.malformed refl w (λ b g. record {
  fault = f;
  shown = has_fault m.parser.limits b f (h b g).0;
  number = refl;
  place = shown_at m.parser.limits b place m.parser.fault_offset p some same (shows b (h b g).1) is;
  failed = (h b g).1;
})
refused s m (form.Parse (parsing.Described d)) p place w h some same shows is = memory_ran_out s m _ w h
refused s m (form.Parse parsing.OutOfMemory) p place w h some same shows is = memory_ran_out s m _ w h
refused s m (form.General k x d) p place w h some same shows is = memory_ran_out s m _ w h
refused s m (form.Io k) p place w h some same shows is = memory_ran_out s m _ w h
refused s m (form.Server e) p place w h some same shows is = memory_ran_out s m _ w h
refused s m (form.Pipeline es) p place w h some same shows is = memory_ran_out s m _ w h
refused s m (form.Aborted es) p place w h some same shows is = memory_ran_out s m _ w h
refused s m form.OutOfMemory p place w h some same shows is = memory_ran_out s m _ w h

pub note_refused : (s m t : Session) (e : RedisError) (p : Option ℕ) (place status : ℕ) → Works s → Refuses s m e
    → HasOffset e m.parser.fault_offset → p ≡ m.parser.fault_offset
    → ((b : List ℕ) → FailedAfter m.parser b → IfSome p (FaultShownAt m.parser.limits b)) → place ≡ unwrap_or p 0
    → status ≡ status_of e → t ≡ with_fault e place m → Taken s t status
note_refused s m t e p place status w h some same shows is status_is noted =
    subst (Taken s t) (sym status_is) (subst (λ (u : Session). Taken s u (status_of e)) (sym noted)
    (refused s m e p place w h some same shows is))

-- what is kept where a fault is noted, and all where none is
pub with_fault-keeps : (e : RedisError) (place : ℕ) (m : Session) → ((with_fault e place m).parser ≡ m.parser)
    × ((with_fault e place m).reply ≡ m.reply) × ((status_of e ≡ 2 → ⊥) → with_fault e place m ≡ m)
with_fault-keeps (form.Parse (parsing.Fault f)) place m = (refl, refl, λ fine. absurd (fine refl))
with_fault-keeps (form.Parse (parsing.Described d)) place m = (refl, refl, λ fine. refl)
with_fault-keeps (form.Parse parsing.OutOfMemory) place m = (refl, refl, λ fine. refl)
with_fault-keeps (form.General k x d) place m = (refl, refl, λ fine. refl)
with_fault-keeps (form.Io k) place m = (refl, refl, λ fine. refl)
with_fault-keeps (form.Server e) place m = (refl, refl, λ fine. refl)
with_fault-keeps (form.Pipeline es) place m = (refl, refl, λ fine. refl)
with_fault-keeps (form.Aborted es) place m = (refl, refl, λ fine. refl)
with_fault-keeps form.OutOfMemory place m = (refl, refl, λ fine. refl)

-- a session whose parser says that it hasn't failed works
pub works_unless : (s : Session) → (false ≡ true ↔ HasFailed s) → Works s
works_unless s h = false_from_ne_true s.parser.failed (λ f. true_is_not_false (sym (h.1 f)))

-- what `in_progress` says of a session that works
pub none_held : (s : State) → ((b : List ℕ) → StandsAfter s b ⊎ FailedAfter s b → (false ≡ true ↔ (b ≢ [])))
    → (b : List ℕ) → StandsAfter s b → b ≡ []
none_held s h b st = none_unless b (λ some. true_is_not_false (sym ((h b (inl st)).1 some)))

-- a refused feed changes nothing
pub feed_refused : (s t : State) (bytes : List ℕ) (r : Result (Unit {0}) RedisError) → s.failed ≡ false
    → ((b : List ℕ) → StandsAfter s b → Feeds b bytes s t r) → is_err r ≡ true → t ≡ s
feed_refused s t bytes (Ok u) w h e = absurd (true_is_not_false (sym e))
feed_refused s t bytes (Err x) w h e = (h s.since (stands_now s w)).1

-- after a feed that was done the parser stands after these bytes, too
pub fed_stands : (bytes : List ℕ) (s t : Session) (status : ℕ) → Fed bytes s t status → status ≡ 1
    → (b : List ℕ) → StandsAfter s.parser b → StandsAfter t.parser (b ++ bytes)
fed_stands bytes s t status (Fed.done is w stands limits same) one = stands
fed_stands bytes s t status (Fed.memory is w same) one = absurd (omega (arith, is, one))
fed_stands bytes s t status (Fed.failed is w same) one = absurd (omega (arith, is, one))

-- what a parser takes that held no bytes before these is what stands at their start
pub first_taken : (bytes : List ℕ) (s t : Session) (taken status : ℕ) → StandsAfter s.parser bytes → Taken s t status
    → (status ≡ 1 → taken ≡ length bytes - length t.parser.unparsed) → (status ≡ 2 → taken ≡ t.place)
    → ((status ≡ 1 → ⊥) → (status ≡ 2 → ⊥) → taken ≡ 0) → FirstOf bytes taken t status
first_taken bytes s t taken status stands (Taken.more is w h) counted shown none =
    FirstOf.more is (h bytes stands).0 (none (λ e. omega (arith, is, e)) (λ e. omega (arith, is, e)))
first_taken bytes s t taken status stands (Taken.value is w h) counted shown none =
    let gives = h bytes stands in
    let rest = t.parser.unparsed in
    let spelled = gives.spelled in
    let size : length bytes ≡ length spelled.prefix + length rest = ap length spelled.whole
    ∙ length-append spelled.prefix rest in
    FirstOf.value is (record {
      value = gives.value;
      rest = rest;
      spelled = spelled;
      reply = gives.reply;
      taken_is = omega (arith, size, counted is);
    })
first_taken bytes s t taken status stands (Taken.malformed is w h) counted shown none =
    let meets = h bytes stands in
    FirstOf.malformed is meets.fault meets.shown meets.number
    (subst (FaultShownAt t.parser.limits bytes) (sym (shown is)) meets.place) (sym (shown is))
first_taken bytes s t taken status stands (Taken.memory is w failed h) counted shown none =
    FirstOf.memory is (none (λ e. omega (arith, is, e)) (λ e. omega (arith, is, e)))
first_taken bytes s t taken status stands (Taken.failed is failed same) counted shown none =
    absurd (true_is_not_false (sym failed ∙ stands_works s.parser bytes stands))

-- the same beside another parser with these limits
pub first_beside : (bytes : List ℕ) (taken status : ℕ) (t : Session) (p : State) → p.limits ≡ t.parser.limits
    → FirstOf bytes taken t status → FirstOf bytes taken (record t { parser = p }) status
first_beside bytes taken status t p le (FirstOf.more is awaits none) = FirstOf.more is
    (subst (λ (l : Limits). Awaits l bytes) (sym le) awaits) none
first_beside bytes taken status t p le (FirstOf.value is gives) = FirstOf.value is (record {
  value = gives.value;
  rest = gives.rest;
  spelled = subst (λ (l : Limits). HasValue l bytes gives.value gives.rest) (sym le) gives.spelled;
  reply = gives.reply;
  taken_is = gives.taken_is;
})
first_beside bytes taken status t p le (FirstOf.malformed is f has number shown place) = FirstOf.malformed is f
    (subst (λ (l : Limits). HasFault l bytes f) (sym le) has) number
    (subst (λ (l : Limits). FaultShownAt l bytes taken) (sym le) shown) place
first_beside bytes taken status t p le (FirstOf.memory is none) = FirstOf.memory is none
