-- What is said of a call over a link holds of it as a connection that reconnects.
use Rattle.std.proofs.Common.{◌≡◌, ◌≢◌, ℕ, Bool, true, false, List, Option, None, Some, Result, Ok, Err, refl, sym, ◌∙◌}
use Rattle.resp_value.specs.declared.value.Value.{Value}
use Rattle.resp_errors.specs.declared.redis_error.RedisError.{RedisError}
use Rattle.resp_command.specs.Call.{Call, refused, replaced}
use Rattle.resp_command.specs.Connection.{Connection, stays, reconnects, routes}
use Rattle.resp_command.proofs.OtherKinds.{asks}
use Rattle.resp_connect.specs.Reconnecting.{replaceable, reconnecting, Reaches}

module _ {A : Type 0} (IsEmpty IsUnanswered : Type 0) (q : List ℕ) (n : ℕ) (r : Result A RedisError)
    (answers : List Value → Type 0) where
  -- over a link that works
  over_link : (old new : Connection) → old.broken ≡ false → old.policy ≢ routes → Call old new IsEmpty IsUnanswered q n r answers
      → Call (replaceable old) (replaceable new) IsEmpty IsUnanswered q n r answers
  over_link old new works own h = record {
    policy = refl;
    when_broken = λ b _. absurd (let k : true ≡ false = sym b ∙ works in cc);
    when_lost = λ b _. absurd (let k : true ≡ false = sym b ∙ works in cc);
    when_routed = λ p. absurd (let k : reconnects ≡ routes = p in cc);
    when_working = λ _ _. asks (λ several. several) reconnects old new q n r answers IsEmpty IsUnanswered (h.when_working works own);
  }

  -- over another that works, in place of one that is lost
  over_other : (lost old new : Connection) → lost.broken ≡ true → lost.policy ≡ reconnects → old.broken ≡ false
      → old.policy ≢ routes → Call old new IsEmpty IsUnanswered q n r answers → Call lost (replaceable new) IsEmpty IsUnanswered q n r answers
  over_other lost old new broken again works own h = record {
    policy = sym again;
    when_broken = λ _ never. absurd (let k : reconnects ≡ stays = sym again ∙ never in cc);
    when_lost = λ _ _. replaced (replaceable old) works (asks (λ several. several) reconnects old new q n r answers IsEmpty IsUnanswered (h.when_working works own));
    when_routed = λ p. absurd (let k : reconnects ≡ routes = sym again ∙ p in cc);
    when_working = λ w _. absurd (let k : true ≡ false = sym broken ∙ w in cc);
  }

  -- none was had
  not_reached : (lost : Connection) (e : RedisError) → lost.broken ≡ true → lost.policy ≡ reconnects → r ≡ Err e
      → Call lost lost IsEmpty IsUnanswered q n r answers
  not_reached lost e broken again is = record {
    policy = refl;
    when_broken = λ _ never. absurd (let k : reconnects ≡ stays = sym again ∙ never in cc);
    when_lost = λ _ _. refused e (record { answer = is; same = refl });
    when_routed = λ p. absurd (let k : reconnects ≡ routes = sym again ∙ p in cc);
    when_working = λ w _. absurd (let k : true ≡ false = sym broken ∙ w in cc);
  }

  module _ {L : Type 0} (of_link : L → Connection) where
    always : (link : Option L) → (reconnecting of_link link).policy ≡ reconnects
    always None = refl
    always (Some link) = refl

    -- a link was had, and the call was made over it
    pub called : ((link : L) → (of_link link).policy ≢ routes) → (old : Option L) (before after : L)
        → Reaches of_link old (Some before) (Ok tt)
        → Call (of_link before) (of_link after) IsEmpty IsUnanswered q n r answers
        → Call (reconnecting of_link old) (reconnecting of_link (Some after)) IsEmpty IsUnanswered q n r answers
    called own old before after h call = by_old (reconnecting of_link old).broken refl
      where
        works : (of_link before).broken ≡ false
        works = h.reached tt refl

        by_old : (b : Bool) → (reconnecting of_link old).broken ≡ b
            → Call (reconnecting of_link old) (reconnecting of_link (Some after)) IsEmpty IsUnanswered q n r answers
        by_old false w = rw (sym (h.kept w).0) (over_link (of_link before) (of_link after) works (own before) call)
        by_old true broken = over_other (reconnecting of_link old) (of_link before) (of_link after) broken (always old)
            works (own before) call

    -- none was had, and the call is refused
    pub unreached : (old new : Option L) (e : RedisError) → Reaches of_link old new (Err e) → r ≡ Err e
        → Call (reconnecting of_link old) (reconnecting of_link new) IsEmpty IsUnanswered q n r answers
    unreached old new e h is = by_old (reconnecting of_link old).broken refl
      where
        by_old : (b : Bool) → (reconnecting of_link old).broken ≡ b
            → Call (reconnecting of_link old) (reconnecting of_link new) IsEmpty IsUnanswered q n r answers
        by_old false w = absurd (let k = (h.kept w).1 in cc)
        by_old true broken = rw (h.refused e refl) (not_reached (reconnecting of_link old) e broken (always old) is)
