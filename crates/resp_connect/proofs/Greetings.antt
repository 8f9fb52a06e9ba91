-- Greetings: what is packed to be sent, and what the exchanges of a greeting make together.
use Rattle.std.proofs.Common.{◌≡◌, ◌∙◌, ◌+◌, suc, length, arith, Result, Ok, Err, sym, ap, refl, subst, ℕ, List, [], ◌∷◌, ◌++◌, append_assoc}
use Rattle.resp_errors.specs.declared.redis_error.RedisError.{RedisError}
use Rattle.resp_value.specs.declared.value.Value.{Value}
use Rattle.resp_command.specs.Call.{Call, AnswersFrom}
use Rattle.resp_command.specs.Connection.{Connection}
use Rattle.resp_command.specs.Packed.{packed}
use Rattle.resp_command.proofs.Queries.{call_err, call_ok}
use Rattle.resp_connect.specs.declared.greeting.GreetingError.TheVariants.{Failed}
use Rattle.resp_connect.specs.declared.greeting.GreetingStep.{GreetingStep}
use Rattle.resp_connect.specs.Greeting.{Said, Says, refusals, request, steps_of, verdict}
use Rattle.resp_connect.specs.Steps.{Adds, Holds}

pub request-append : (xs ys : List Said) → request (xs ++ ys) ≡ request xs ++ request ys
request-append [] ys = refl
request-append (x ∷ xs) ys = ap (λ b. packed x.args ++ b) (request-append xs ys)
    ∙ sym (append_assoc (packed x.args) (request xs) (request ys))

steps-append : (xs ys : List Said) → steps_of (xs ++ ys) ≡ steps_of xs ++ steps_of ys
steps-append [] ys = refl
steps-append (x ∷ xs) ys = ap (λ s. x.step ∷ s) (steps-append xs ys)

-- one part after another
holds_more : (bytes bytes' : List ℕ) (steps steps' : List GreetingStep) (said more : List Said)
    → Holds bytes steps said → Adds bytes steps bytes' steps' more → Holds bytes' steps' (said ++ more)
holds_more bytes bytes' steps steps' said more h a = (
  a.0 ∙ ap (λ b. b ++ request more) h.0 ∙ sym (request-append said more),
  a.1 ∙ ap (λ s. s ++ steps_of more) h.1 ∙ sym (steps-append said more),
)

pub holds_four : (b0 b1 b2 b3 b4 : List ℕ) (s0 s1 s2 s3 s4 : List GreetingStep) (w x y z : List Said)
    → Holds b0 s0 [] → Adds b0 s0 b1 s1 w → Adds b1 s1 b2 s2 x → Adds b2 s2 b3 s3 y → Adds b3 s3 b4 s4 z
    → Holds b4 s4 (w ++ (x ++ (y ++ z)))
holds_four b0 b1 b2 b3 b4 s0 s1 s2 s3 s4 w x y z none h i j k =
    subst (λ said. Holds b4 s4 said) (append_assoc (w ++ x) y z ∙ append_assoc w x (y ++ z))
    (holds_more b3 b4 s3 s4 ((w ++ x) ++ y) z
    (holds_more b2 b3 s2 s3 (w ++ x) y (holds_more b1 b2 s1 s2 w x (holds_more b0 b1 s0 s1 [] w none h) i) j) k)

pub no_replies : (steps : List GreetingStep) → refusals steps [] ≡ []
no_replies [] = refl
no_replies (step ∷ steps) = refl

steps-length : (said : List Said) → length (steps_of said) ≡ length said
steps-length [] = refl
steps-length (x ∷ xs) = ap (λ n. suc n) (steps-length xs)

-- what the call of the connection answered
module _ {A V : Type 0} (items : V → List Value) (old new : Connection) (bytes : List ℕ) (steps : List GreetingStep)
    (said : List Said) (holds : Holds bytes steps said) (sent : Result V RedisError)
    (h : Call old new ⊥ ⊥ bytes (0 + length steps) sent (AnswersFrom items 0 sent)) (done : A) where
  asked : Call old new ⊥ ⊥ (request said) (length said) sent (AnswersFrom items 0 sent)
  asked =
      let count : 0 + length steps ≡ length said =
      (let len = ap length holds.1 ∙ steps-length said in omega (arith, len)) in
      rw (holds.0, count) at h

  pub says_failed : (e : RedisError) → sent ≡ Err e → Says old new said done (Err (Failed e))
  says_failed e is = record {
    replies = Err e;
    call = call_err {A = V} {B = List Value} old new (request said) (length said) (AnswersFrom items 0 (Err e)) _ ⊥ ⊥ e
        (λ replies k. k) (rw is at asked);
    answer = refl;
  }

  pub says_answered : (v : V) → sent ≡ Ok v → Says old new said done (verdict done (refusals steps (items v)))
  says_answered v is = record {
    replies = Ok (items v);
    call = call_ok {A = V} {B = List Value} old new (request said) (length said) (AnswersFrom items 0 (Ok v)) _ ⊥ ⊥ v
        (Ok (items v)) (λ replies _ all. ap Ok all) (rw is at asked);
    answer = ap (λ s. verdict done (refusals s (items v))) holds.1;
  }
