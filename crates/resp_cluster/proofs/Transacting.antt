-- A transaction that was replied to.
use Rattle.std.proofs.Common.{◌≡◌, ℕ, List, Bool, true, false, ◌||◌, Result, Ok, Err, IfOk, is_err, length, subst, sym, ap, ◌∙◌}
use Rattle.std.specs.Global.{Vec}
use Rattle.resp_value.specs.declared.value.Value.{Value}
use Rattle.resp_errors.specs.declared.redis_error.RedisError.{RedisError}
use Rattle.resp_command.specs.Command.{Command}
use Rattle.resp_command.specs.Connection.{Connection}
use Rattle.resp_pipeline.specs.Outcome.{Outcome}
use Rattle.resp_pipeline.specs.Pipeline.{Plan, replies_needed, request}
use Rattle.resp_cluster.specs.Cluster.{Cluster}
use Rattle.resp_cluster.specs.Links.{Links}
use Rattle.resp_cluster.specs.Routing.{WasSentWhole}
use Rattle.resp_cluster.specs.Spread.{SendsGroup}
use Rattle.resp_cluster.specs.Transactions.{RequestTogether, SendsWhole, no_transaction, replied, sent, unsent}
use Rattle.resp_cluster.specs.declared.node.NodeAddr.{NodeAddr}
use Rattle.resp_cluster.specs.declared.node.SlotRange.{SlotRange}
use Rattle.resp_cluster.specs.declared.read_from.ReadFrom.{ReadFrom}
use Rattle.resp_cluster.proofs.Spreading.{or_false, or_true}

-- the replies came over these parts of a cluster
module _ {L : Type 0} (of_link : L → Connection) {X : Type 0} (p : Plan) (of_value : Value → X → Type 0) (node : NodeAddr)
    (ready : Cluster L) (links : Links L) (map : List SlotRange) (budget : ℕ) (reads : ReadFrom) (stale : Bool) (sent : Cluster L)
    (view : record { links = links; map = map; budget = budget; reads = reads; stale = stale } ≡ sent) (replies : Vec Value)
    (result : Result X RedisError) (sends : SendsGroup of_link ready sent node (request p) (replies_needed p) (Ok replies))
    (makes : Outcome p of_value result replies.items) where
  abbrev left : Bool → Cluster L
  left failed = record { links = links; map = map; budget = budget; reads = reads; stale = failed }

  pub made_error : is_err result ≡ true → SendsWhole of_link p of_value node ready (left true) result
  made_error is = replied replies sent sends makes (subst (λ s. left true ≡ record s { stale = s.stale || is_err result }) view
      (ap left (or_true stale ∙ ap (λ b. stale || b) (sym is))))

module _ {L : Type 0} (of_link : L → Connection) {X : Type 0} (p : Plan) (of_value : Value → X → Type 0) (node : NodeAddr)
    (ready sent : Cluster L) (replies : Vec Value) (result : Result X RedisError) where
  pub made_value : SendsGroup of_link ready sent node (request p) (replies_needed p) (Ok replies)
      → Outcome p of_value result replies.items → is_err result ≡ false → SendsWhole of_link p of_value node ready sent result
  made_value sends makes is = replied replies sent sends makes
      (ap (λ s. record sent { stale = s }) (or_false sent.stale ∙ ap (λ b. sent.stale || b) (sym is)))

-- ---- packed

module _ {L : Type 0} (between new : Cluster L) (holds : Bool) where
  -- the map is to be asked for as before
  pub as_before : holds ≡ false → new ≡ between → new ≡ record between { stale = between.stale || holds }
  as_before none is = is ∙ ap (λ s. record between { stale = s }) (or_false between.stale ∙ ap (λ b. between.stale || b) (sym none))

  -- or it is asked for, over these parts of a cluster
  module _ (links : Links L) (map : List SlotRange) (budget : ℕ) (reads : ReadFrom) (stale : Bool)
      (view : record { links = links; map = map; budget = budget; reads = reads; stale = stale } ≡ between) where
    abbrev parts : Bool → Cluster L
    parts failed = record { links = links; map = map; budget = budget; reads = reads; stale = failed }

    pub then_stale : holds ≡ true → new ≡ parts true → new ≡ record between { stale = between.stale || holds }
    then_stale one is = is ∙ subst (λ s. parts true ≡ record s { stale = s.stale || holds }) view
        (ap parts (or_true stale ∙ ap (λ b. stale || b) (sym one)))

-- one that was replied to was sent whole
pub sent_whole : {L : Type 0} (of_link : L → Connection) (commands : List Command) (request : List ℕ) (old new : Cluster L)
    (result : Result (Vec Value) RedisError) → RequestTogether of_link commands request old new result
    → IfOk result (λ replies. WasSentWhole of_link request (length commands) replies new)
sent_whole of_link commands request old new (Err e) h = tt
sent_whole of_link commands request old new (Ok replies) (no_transaction none same is) = absurd (let h = is in cc)
sent_whole of_link commands request old new (Ok replies) (unsent inside e are finds is) = absurd (let h = is in cc)
sent_whole of_link commands request old new (Ok replies) (sent inside ready between node are finds sends new_is) = record {
  ready = ready;
  sent = between;
  node = node;
  sends = sends;
  links = ap (λ k. k.links) new_is;
}
