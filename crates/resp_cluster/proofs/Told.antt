-- A link that was told something still works.
use Rattle.std.proofs.Common.{◌≡◌, ◌≢◌, ℕ, false, List, [], Result, Ok, Err, OnOk}
use Rattle.resp_value.specs.declared.value.Value.{Value}
use Rattle.resp_errors.specs.declared.redis_error.RedisError.{RedisError}
use Rattle.resp_command.specs.Call.{PackedCall}
use Rattle.resp_command.specs.Connection as connection
use Rattle.resp_command.specs.Connection.{Bytes, Connection, ExchangeOf, routes}
use Rattle.resp_cluster.specs.Links.{IsTold, without_reply}

-- an exchange that is answered leaves a connection that works
module _ {A : Type 0} (old new : Connection) (q : List ℕ) (n : ℕ) (v : A) (answers : List Value → Type 0) where
  usable_of : (bytes : Bytes) → ExchangeOf bytes old new q n (Ok v) answers → new.broken ≡ false
  usable_of bytes (connection.replied h) = h.usable
  usable_of bytes (connection.malformed h) = absurd (let e = h.answer in cc)
  usable_of bytes (connection.early_end h) = absurd (let e = h.answer in cc)
  usable_of bytes (connection.sink_failed h) = absurd h.answer
  usable_of bytes (connection.source_failed h) = absurd h.answer
  usable_of bytes (connection.out_of_memory h) = absurd (let e = h.answer in cc)

module _ (told : List ℕ) (some : told ≢ []) (old new : Connection) (works : old.broken ≡ false) (unrouted : old.policy ≢ routes) where
  by_answer : (answer : Result Value RedisError) → PackedCall old new told answer → Ok tt ≡ without_reply answer
      → (new.broken ≡ false) × (new.policy ≡ old.policy)
  by_answer (Ok reply) call is =
      let exchange = (call.when_working works unrouted).otherwise (λ none. absurd (some none)) (λ never. never) in
      (usable_of old new told 1 reply _ _ exchange.of, call.policy)
  by_answer (Err e) call is = cc

  pub told_works : IsTold told old new (Ok tt) → (new.broken ≡ false) × (new.policy ≡ old.policy)
  told_works h = by_answer h.answer h.calls h.is

  pub still_works : (r : Result (Unit {0}) RedisError) → IsTold told old new r → OnOk r (new.broken ≡ false)
  still_works (Ok done) h = let w = told_works h in w.0
  still_works (Err e) h = tt
