-- What a call over a connection answers.
use Rattle.std.specs.Prelude.{◌≡◌, ◌≢◌, ℕ, true, false, List, [], ◌∷◌, drop, Result, Ok, Err, None, codes, if◌then◌else◌}
use Rattle.std.specs.Prelude.{MatchOption, IsOkAnd}
use Rattle.resp_value.specs.declared.value.Value.{Value, Nil}
use Rattle.resp_errors.specs.declared.kinds.ErrorKind.TheVariants as kind
use Rattle.resp_errors.specs.declared.redis_error.RedisError.{RedisError}
use Rattle.resp_errors.specs.declared.redis_error.RedisError.TheVariants.{General, Server}
use Rattle.resp_value.specs.FirstError.{first_error}
use Rattle.resp_from.specs.Conversion.{ConvertsCall}
use Rattle.resp_command.specs.Packed.{packed}
use Rattle.resp_command.specs.Parted.{Parted}
use Rattle.resp_command.specs.Command.{Command}
use Rattle.resp_command.specs.Connection.{Connection, Exchange, stays, reconnects, routes}
use Rattle.resp_command.specs.Subscriptions.{IsUnanswered}

-- what a connection answers that broke before
abbrev pub broken_link : RedisError
broken_link = General kind.Io (codes "link is broken") None

-- what an empty command is refused with
abbrev pub no_command : RedisError
no_command = General kind.Client (codes "empty command") None

-- what a command is refused with that would get no reply
abbrev pub no_reply : RedisError
no_reply = General kind.Client
    (codes "a subscription has no reply: set_no_response, then next_push") None

-- the call is refused, and nothing changes
pub record Refuses {A : Type 0} (old new : Connection) (e : RedisError)
    (r : Result A RedisError) : Type 0 where
  pub answer : r ≡ Err e
  pub same : new ≡ old

-- a connection that broke and reconnects: no other was had, the call is refused with what that
-- failed of, and nothing changes; or another that works stands in its place, over which the call is
-- made
pub data Reconnects {A : Type 0} (old new : Connection) (r : Result A RedisError)
    (MadeOver : Connection → Type 0) : Type 0 where
  refused : (e : RedisError) → Refuses old new e r → Reconnects old new r MadeOver
  replaced : (other : Connection) → other.broken ≡ false → MadeOver other
      → Reconnects old new r MadeOver

-- a connection that routes: the call is refused; or it is made over the link that it belongs to,
-- which works; or its commands are parted over several such links
pub data Routes {A : Type 0} (r : Result A RedisError) (MadeOver : Connection → Type 0)
    (IsParted : Type 0) : Type 0 where
  not_carried : (e : RedisError) → r ≡ Err e → Routes r MadeOver IsParted
  carried : (other : Connection) → other.broken ≡ false → MadeOver other → Routes r MadeOver IsParted
  parted : IsParted → Routes r MadeOver IsParted

-- a call over a connection that works: refused where the command is empty, or where no reply would
-- come to it, and else an exchange
pub record Asks {A : Type 0} (old new : Connection) (IsEmpty IsUnanswered : Type 0)
    (q : List ℕ) (n : ℕ) (r : Result A RedisError) (answers : List Value → Type 0) : Type 0 where
  pub when_empty : IsEmpty → Refuses old new no_command r
  pub when_unanswered : IsUnanswered → Refuses old new no_reply r
  pub otherwise : (IsEmpty → ⊥) → (IsUnanswered → ⊥) → Exchange old new q n r answers

-- the contract of a call that sends q and needs n replies: refused of a connection that broke, if
-- it stays with its link
pub record Call {A : Type 0} (old new : Connection) (IsEmpty IsUnanswered : Type 0)
    (q : List ℕ) (n : ℕ) (r : Result A RedisError) (answers : List Value → Type 0) : Type 0 where
  pub policy : new.policy ≡ old.policy
  pub when_broken : old.broken ≡ true → old.policy ≡ stays → Refuses old new broken_link r
  pub when_lost : old.broken ≡ true → old.policy ≡ reconnects →
      Reconnects old new r (λ other. Asks other new IsEmpty IsUnanswered q n r answers)
  pub when_routed : old.policy ≡ routes →
      Routes r (λ other. Asks other new IsEmpty IsUnanswered q n r answers) (Parted q n answers)
  pub when_working : old.broken ≡ false → old.policy ≢ routes →
      Asks old new IsEmpty IsUnanswered q n r answers

-- how many replies a command needs
abbrev pub needed : Command → ℕ
needed c = if c.no_response then 0 else 1

-- what answers the replies to a command: its one reply, or nil for a command that needs none
abbrev pub AnswersReply : (Value → Type 0) → List Value → Type 0
AnswersReply answers [] = answers Nil
AnswersReply answers (reply ∷ []) = answers reply
AnswersReply answers (reply ∷ next ∷ more) = ⊥

-- a call that sends a command
abbrev pub CommandCall : {A : Type 0} → Connection → Connection → Command →
    Result A RedisError → (Value → Type 0) → Type 0
CommandCall old new c r answers =
    Call old new (c.args ≡ []) (IsUnanswered c) (packed c.args) (needed c) r (AnswersReply answers)

-- a call that sends a packed command and answers its reply
abbrev pub PackedCall : Connection → Connection → List ℕ → Result Value RedisError → Type 0
PackedCall old new q r = Call old new (q ≡ []) ⊥ q 1 r (AnswersReply (λ reply. r ≡ Ok reply))

-- the replies after the first of them are answered
abbrev pub AnswersFrom : {V : Type 0} → (V → List Value) → ℕ → Result V RedisError →
    List Value → Type 0
AnswersFrom items offset r replies = IsOkAnd r (λ v. items v ≡ drop offset replies)

-- what a query makes of a reply: its first server error, if there is one, else its conversion
abbrev pub Answers : {A : Type 0} → (Value → A → Type 0) → Result A RedisError → Value → Type 0
Answers of_value r reply =
    MatchOption (first_error reply) (ConvertsCall (of_value reply) r) (λ e. r ≡ Err (Server e))
