-- What a greeting answers, and what it leaves of a connection that worked.
use Rattle.std.proofs.Common.{◌≡◌, ◌≢◌, ◌∙◌, sym, ap, refl, inl, inr, false, ℕ, List, [], ◌∷◌, ◌++◌, append_assoc, Result, Ok, Err}
use Rattle.std.specs.Prelude.{IfOk}
use Rattle.resp_errors.specs.declared.redis_error.RedisError.{RedisError}
use Rattle.resp_value.specs.declared.value.Value.{Value}
use Rattle.resp_args.specs.declared.options.ProtocolVersion.{ProtocolVersion}
use Rattle.resp_args.specs.declared.options.ProtocolVersion.TheVariants as version
use Rattle.resp_command.specs.Connection.{Connection, Exchange, ExchangeOf, replied, malformed, early_end, sink_failed, source_failed}
use Rattle.resp_command.specs.Connection.{out_of_memory, routes}
use Rattle.resp_connect.specs.declared.greeting.GreetingError.{GreetingError}
use Rattle.resp_connect.specs.declared.greeting.GreetingError.TheVariants.{Refused, Failed}
use Rattle.resp_connect.specs.Targets.{Settings}
use Rattle.resp_connect.specs.Greeting.{Said, Says, Refusal, IsVerdict, Greets, Greeted, in_old, in_new, fell_back}
use Rattle.resp_connect.specs.Greeting.{no_hello, not_begun, refusals, request, steps_of, verdict, hello, after_hello}
use Rattle.resp_connect.specs.Greeting.{in_resp2, IsLackOfHello, MayHaveSaid}
use Rattle.resp_connect.proofs.Greetings.{request-append}

-- ---- another answer for the same replies

module _ {A B : Type 0} (old new : Connection) (said : List Said) (a : A) (b : B) where
  verdict_ok : (xs : List Refusal) → Ok a ≡ verdict a xs → Ok b ≡ verdict b xs
  verdict_ok [] h = refl
  verdict_ok (x ∷ xs) h = cc

  verdict_err : (e : GreetingError) (xs : List Refusal) → Err e ≡ verdict a xs → Err e ≡ verdict b xs
  verdict_err e [] h = cc
  verdict_err e (x ∷ xs) h = (let k : e ≡ Refused x.step x.error = cc in ap Err k)

  pub says_done : Says old new said a (Ok a) → Says old new said b (Ok b)
  says_done h = record { replies = h.replies; call = h.call; answer = by_replies h.replies h.answer }
    where
      by_replies : (replies : Result (List Value) RedisError) → IsVerdict said a replies (Ok a)
          → IsVerdict said b replies (Ok b)
      by_replies (Ok all) h = verdict_ok (refusals (steps_of said) all) h
      by_replies (Err e) h = cc

  pub says_refused : (e : GreetingError) → Says old new said a (Err e) → Says old new said b (Err e)
  says_refused e h = record { replies = h.replies; call = h.call; answer = by_replies h.replies h.answer }
    where
      by_replies : (replies : Result (List Value) RedisError) → IsVerdict said a replies (Err e)
          → IsVerdict said b replies (Err e)
      by_replies (Ok all) h = verdict_err e (refusals (steps_of said) all) h
      by_replies (Err f) h = (let k : e ≡ Failed f = cc in ap Err k)

-- ---- what was sent

-- these commands were sent whole and answered
record Sent (old new : Connection) (said : List Said) : Type 0 where
  sent : new.sent ≡ old.sent ++ request said
  flushed : new.unflushed ≡ false
  works : new.broken ≡ false
  policy : new.policy ≡ old.policy

exchanged : (old new : Connection) (said : List Said) (n : ℕ) (all : List Value) (answers : List Value → Type 0)
    → Exchange old new (request said) n (Ok all) answers → Sent old new said
exchanged old new said n all answers h = by_case h.of
  where
    by_case : ExchangeOf (record { incoming = old.received ++ h.arrived; left = new.received; sent = h.gone }) old new
        (request said) n (Ok all) answers → Sent old new said
    by_case (replied r) = record {
      sent = h.moves.sent ∙ ap (λ q. old.sent ++ q) r.sent.all;
      flushed = r.sent.flushed;
      works = r.usable;
      policy = h.same.policy;
    }
    by_case (malformed f) = absurd (let k = f.answer in cc)
    by_case (early_end f) = absurd (let k = f.answer in cc)
    by_case (sink_failed f) = absurd f.answer
    by_case (source_failed f) = absurd f.answer
    by_case (out_of_memory f) = absurd (let k = f.answer in cc)

module _ {A : Type 0} (old new : Connection) (said : List Said) (done : A) (works : old.broken ≡ false)
    (own : old.policy ≢ routes) where
  sent_by : (r : Result A GreetingError) → ((e : RedisError) → r ≡ Err (Failed e) → ⊥) → Says old new said done r
      → Sent old new said
  sent_by r not_failed h = by_replies h.replies refl
    where
      by_replies : (replies : Result (List Value) RedisError) → h.replies ≡ replies → Sent old new said
      by_replies (Ok all) is =
          let call = rw is at h.call in exchanged old new said _ all _ ((call.when_working works own).otherwise (λ k. k) (λ k. k))
      by_replies (Err e) is = absurd (not_failed e (rw is at h.answer))

-- one exchange after another
both_sent : (old between new : Connection) (first second : List Said) → Sent old between first
    → Sent between new second → Sent old new (first ++ second)
both_sent old between new first second h k = record {
  sent = k.sent ∙ ap (λ s. s ++ request second) h.sent ∙ append_assoc old.sent (request first) (request second)
      ∙ ap (λ q. old.sent ++ q) (sym (request-append first second));
  flushed = k.flushed;
  works = k.works;
  policy = k.policy ∙ h.policy;
}

-- ---- greeted

version_of : (old new : Connection) (said : List Said) (v w : ProtocolVersion) → Says old new said v (Ok w) → w ≡ v
version_of old new said v w h = by_replies h.replies h.answer
  where
    by_refusals : (xs : List Refusal) → Ok w ≡ verdict v xs → w ≡ v
    by_refusals [] e = cc
    by_refusals (x ∷ xs) e = cc

    by_replies : (replies : Result (List Value) RedisError) → IsVerdict said v replies (Ok w) → w ≡ v
    by_replies (Ok all) e = by_refusals (refusals (steps_of said) all) e
    by_replies (Err f) e = cc

-- a server's refusal isn't a failure of the connection
not_lost : (e : GreetingError) (f : RedisError) → IsLackOfHello e → e ≡ Failed f → ⊥
not_lost (Refused step error) f lacks is = cc
not_lost (Failed g) f lacks is = lacks

module _ (old new : Connection) (s : Settings) (works : old.broken ≡ false) (own : old.policy ≢ routes) where
  -- in this order
  in_turn : (between : Connection) (first second : List Said) (v : ProtocolVersion)
      → Sent old between first → (between.broken ≡ false → between.policy ≢ routes → Sent between new second)
      → Sent old new (first ++ second)
  in_turn between first second v h k = both_sent old between new first second h (k h.works (λ p. own (sym h.policy ∙ p)))

  from_sent : (said : List Said) (v : ProtocolVersion) → MayHaveSaid s v said → Sent old new said
      → Greeted old new s v
  from_sent said v may h = record {
    said = said;
    allowed = may;
    sent = h.sent;
    flushed = h.flushed;
    works = h.works;
  }

  accepted : {A : Type 0} (from to : Connection) (said : List Said) (v w : A) → from.broken ≡ false → from.policy ≢ routes
      → Says from to said v (Ok w) → Sent from to said
  accepted from to said v w works own h = sent_by from to said v works own (Ok w) (λ e is. cc) h

  pub greeted : (v : ProtocolVersion) → Greets old new s (Ok v) → Greeted old new s v
  greeted v (in_old old2 h) = rw (version_of old new (in_resp2 s) version.RESP2 v h)
      (from_sent (in_resp2 s) version.RESP2 (inl (old2, refl))
      (accepted old new (in_resp2 s) version.RESP2 v works own h))
  greeted v (in_new new3 between h k) = rw (version_of between new (after_hello s) version.RESP3 v k)
      (from_sent (hello s ++ after_hello s) version.RESP3 (new3, refl)
      (in_turn between (hello s) (after_hello s) v (accepted old between (hello s) (tt {0}) (tt {0}) works own h)
      (λ w p. accepted between new (after_hello s) version.RESP3 v w p k)))
  greeted v (fell_back between e h back k) = rw (version_of between new (in_resp2 s) version.RESP2 v k)
      (from_sent (hello s ++ in_resp2 s) version.RESP2 (inr (back.0, refl))
      (in_turn between (hello s) (in_resp2 s) v
      (sent_by old between (hello s) (tt {0}) works own (Err e) (λ f is. not_lost e f back.1 (let k : e ≡ Failed f = cc in k)) h)
      (λ w p. accepted between new (in_resp2 s) version.RESP2 v w p k)))
  greeted v (no_hello new3 e h back is) = absurd (let k = is in cc)
  greeted v (not_begun is same) = absurd (let k = is in cc)

  pub greeted_if : (r : Result ProtocolVersion GreetingError) → Greets old new s r → IfOk r (Greeted old new s)
  greeted_if (Ok v) h = greeted v h
  greeted_if (Err e) h = tt
