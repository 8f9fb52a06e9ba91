-- A request whose last argument was read as it was sent, and then its reply.
use Rattle.std.proofs.Common.{◌≡◌, ℕ, List, [], ◌∷◌, ◌++◌, length, Bool, true, false, refl, ap, sym, ◌∙◌, subst}
use Rattle.std.proofs.Common.{append-nil, append_assoc, Result, Ok, Err}
use Rattle.resp_value.specs.declared.value.Value.{Value, Nil}
use Rattle.resp_errors.specs.declared.redis_error.RedisError.{RedisError}
use Rattle.resp_errors.specs.declared.redis_error.RedisError.TheVariants.{OutOfMemory}
use Rattle.resp_args.specs.Args.{Args}
use Rattle.resp_parse.specs.Lines.{crlf}
use Rattle.resp_parse.specs.Source.{Source}
use Rattle.resp_command.specs.Call.{needed}
use Rattle.resp_command.specs.Command.{Command}
use Rattle.resp_command.specs.Subscriptions.{IsUnanswered}
use Rattle.resp_command.specs.Connection.{Connection, IsPrefix}
use Rattle.resp_command.specs.Packed.{packed}
use Rattle.resp_link.specs.Linking.{connection_of}
use Rattle.resp_link.specs.Receiving.{Inflow, Receives, CannotReceive}
use Rattle.resp_link.specs.SendingBodies.{before_body, SentRequest, StopsRequest, SendsWith, SendsFrom}
use Rattle.resp_link.specs.Sink.{Sink, SendsAll}
use Rattle.resp_link.proofs.LinkExchanges.{unsent, replied, unanswered}
use Rattle.resp_link.proofs.Receiving.{consumed-nothing, receives_none}
use Rattle.resp_link.proofs.RequestsWithBodies.{with-body}

module _ (i : Inflow) (k k' : Sink) (broken : Bool) (head : List ℕ) (args : Args) (n : ℕ)
    (head_is : head ≡ before_body args n) (s t : Source) where
  request-is : (body : List ℕ) → length body ≡ n → head ++ (body ++ crlf) ≡ packed (args ++ body ∷ [])
  request-is body size = ap (λ z. z ++ (body ++ crlf)) (head_is ∙ ap (before_body args) (sym size)) ∙ sym (with-body args body)

  begins : (part gone : List ℕ) → IsPrefix gone (head ++ part) → (body : List ℕ) → length body ≡ n → IsPrefix part body
      → IsPrefix gone (packed (args ++ body ∷ []))
  begins part gone h body size p = record {
    rest = h.rest ++ (p.rest ++ crlf);
    whole = sym (request-is body size) ∙ ap (λ z. head ++ (z ++ crlf)) p.whole
        ∙ ap (λ z. head ++ z) (append_assoc part p.rest crlf) ∙ sym (append_assoc head part (p.rest ++ crlf))
        ∙ ap (λ z. z ++ (p.rest ++ crlf)) h.whole ∙ append_assoc gone h.rest (p.rest ++ crlf);
  }

  -- not all of it was sent
  pub from-stopped : (m : ℕ) (e : RedisError) → StopsRequest head n k k' s t e
      → SendsWith (connection_of i k broken) (connection_of i k' true) args n m s t (Err e)
  from-stopped m e (StopsRequest.body_read kind is h) = SendsWith.exchange (record {
    body = h.body;
    size = h.size;
    gave = h.gave;
    failures = h.source;
    exchange = rw is (unsent i k k' broken (packed (args ++ h.body ∷ [])) m kind _
        (subst (λ q. SendsAll k k' q (Err kind)) (request-is h.body h.size) h.sends));
  })
  from-stopped m e (StopsRequest.in_body h) = SendsWith.stopped (record {
    error = e;
    answer = refl;
    same = record { pipelines = refl; policy = refl; limits = refl; read_size = refl };
    gone = h.gone;
    moves = record {
      came = sym (append-nil i.came);
      sent = h.sends.sent;
      to_come = consumed-nothing i.to_come;
      holds = h.sends.holds;
    };
    unread = record { received = refl; came = refl };
    pushes = refl;
    push_bytes = refl;
    part = h.part;
    few = h.few;
    gave = h.gave;
    prefix = λ body size p. begins h.part h.gone h.prefix body size p;
    stops = h.stops;
    source = refl;
    broken = refl;
  })

  -- it was
  module _ (h : SentRequest head n k k' s t (Ok tt)) where
    sending : SendsAll k k' (packed (args ++ h.body ∷ [])) (Ok tt)
    sending = subst (λ q. SendsAll k k' q (Ok tt)) (request-is h.body h.size) h.sends

    pub from-alone : SendsWith (connection_of i k broken) (connection_of i k' false) args n 0 s t (Ok Nil)
    from-alone = SendsWith.exchange (record {
      body = h.body;
      size = h.size;
      gave = h.gave;
      failures = h.source;
      exchange = replied i i k k' broken (packed (args ++ h.body ∷ [])) 0 [] (Ok Nil) _ sending (receives_none i) refl;
    })

    pub from-replied : (i' : Inflow) (v : Value) → Receives 1 i i' (v ∷ [])
        → SendsWith (connection_of i k broken) (connection_of i' k' false) args n 1 s t (Ok v)
    from-replied i' v r = SendsWith.exchange (record {
      body = h.body;
      size = h.size;
      gave = h.gave;
      failures = h.source;
      exchange = replied i i' k k' broken (packed (args ++ h.body ∷ [])) 1 (v ∷ []) (Ok v) _ sending r refl;
    })

    pub from-missed : (i' : Inflow) (e : RedisError) → CannotReceive 1 i i' e
        → SendsWith (connection_of i k broken) (connection_of i' k' true) args n 1 s t (Err e)
    from-missed i' e r = SendsWith.exchange (record {
      body = h.body;
      size = h.size;
      gave = h.gave;
      failures = h.source;
      exchange = unanswered i i' k k' broken (packed (args ++ h.body ∷ [])) 1 e _ sending r;
    })

-- a call that isn't refused
pub from-called : (old new : Connection) (c : Command) (n m : ℕ) (s t : Source) (r : Result Value RedisError)
    → old.broken ≡ false → (c.args ≡ [] → ⊥) → (IsUnanswered c → ⊥) → m ≡ needed c → SendsWith old new c.args n m s t r
    → SendsFrom old new c n s t r
from-called old new c n m s t r works some waits count h = record {
  when_broken = λ e. absurd (let k : true ≡ false = sym e ∙ works in cc);
  when_empty = λ _ none. absurd (some none);
  when_unanswered = λ _ none. absurd (waits none);
  otherwise = λ _ _ _. rw count at h;
}

pub from-nothing : (old : Connection) (c : Command) (n : ℕ) (s : Source) (e : RedisError)
    → old.broken ≡ false → (c.args ≡ [] → ⊥) → (IsUnanswered c → ⊥) → e ≡ OutOfMemory → SendsFrom old old c n s s (Err e)
from-nothing old c n s e works some waits is =
    from-called old old c n (needed c) s s (Err e) works some waits refl (SendsWith.no_memory (ap Err is) refl refl)
