-- A transaction over the nodes of a cluster.
use Rattle.std.specs.Prelude.{◌≡◌, ◌≢◌, ◌||◌, ℕ, Bool, List, [], ◌∷◌, ◌++◌, Some, None, true, false, Result, Ok, Err, is_err}
use Rattle.std.specs.Prelude.{MatchResult, codes, drop, length}
use Rattle.std.specs.Global.{Vec}
use Rattle.std.specs.List.{list_any}
use Rattle.resp_errors.specs.declared.kinds.ErrorKind.TheVariants as kind
use Rattle.resp_errors.specs.declared.redis_error.RedisError.{RedisError}
use Rattle.resp_errors.specs.declared.redis_error.RedisError.TheVariants.{General, OutOfMemory}
use Rattle.resp_value.specs.declared.value.Value.{Value, out-Value}
use Rattle.resp_value.specs.declared.value.Value.TheOpen.{Value-F}
use Rattle.resp_command.specs.Command.{Command}
use Rattle.resp_command.specs.Connection.{Connection}
use Rattle.resp_pipeline.specs.Outcome.{Outcome}
use Rattle.resp_pipeline.specs.Pipeline.{Plan, replies_needed, request}
use Rattle.resp_routing.specs.declared.routes.Route.{Route}
use Rattle.resp_cluster.specs.Cluster.{Cluster, Readies, first_node, no_node, routed_args}
use Rattle.resp_cluster.specs.Gathered.{request_of}
use Rattle.resp_cluster.specs.LinkCommands.{is_alone}
use Rattle.resp_cluster.specs.Spread.{SendsGroup}
use Rattle.resp_cluster.specs.Together.{CannotGoTogether, GoTogether}
use Rattle.resp_cluster.specs.declared.node.NodeAddr.{NodeAddr}

module _ {L : Type 0} (of_link : L → Connection) (commands : List Command) where
  -- the node that commands go to together: the primary of their slot, or any where none has a key; or why there is none
  pub data FindsNode (old new : Cluster L) (r : Result NodeAddr RedisError) : Type 0 where
    cannot : (e : RedisError) → (e ≢ OutOfMemory → CannotGoTogether commands e) → new ≡ old → r ≡ Err e → FindsNode old new r
    nowhere : (route : Route) → GoTogether commands route → Readies of_link old new → first_node false route new ≡ None
        → r ≡ Err no_node → FindsNode old new r
    no_memory : (route : Route) → GoTogether commands route → Readies of_link old new → r ≡ Err OutOfMemory → FindsNode old new r
    found : (route : Route) (node : NodeAddr) → GoTogether commands route → Readies of_link old new
        → first_node false route new ≡ Some node → r ≡ Ok node → FindsNode old new r

module _ {L : Type 0} (of_link : L → Connection) {X : Type 0} (p : Plan) (of_value : Value → X → Type 0) where
  -- it is sent to this node as one request, and answers what the replies to its commands, to MULTI and to EXEC make; where
  -- that is an error, the map is asked for before the next command
  pub data SendsWhole (node : NodeAddr) (ready new : Cluster L) (result : Result X RedisError) : Type 0 where
    refused : (e : RedisError) → SendsGroup of_link ready new node (request p) (replies_needed p) (Err e)
        → result ≡ Err e → SendsWhole node ready new result
    replied : (replies : Vec Value) (sent : Cluster L)
        → SendsGroup of_link ready sent node (request p) (replies_needed p) (Ok replies)
        → Outcome p of_value result replies.items → new ≡ record sent { stale = sent.stale || is_err result }
        → SendsWhole node ready new result

  -- a transaction: it is sent to the node that its commands go to together, over whose link it is a query; or nothing of it is sent
  pub data TransactionQuery (old new : Cluster L) (result : Result X RedisError) : Type 0 where
    unpacked : new ≡ old → result ≡ Err OutOfMemory → TransactionQuery old new result
    unsent : (e : RedisError) → FindsNode of_link p.commands old new (Err e) → result ≡ Err e → TransactionQuery old new result
    sent : (ready : Cluster L) (node : NodeAddr) → FindsNode of_link p.commands old ready (Ok node)
        → SendsWhole node ready new result → TransactionQuery old new result

-- ---- packed

-- packed commands are a transaction: MULTI, these, and EXEC
pub record AreTransaction (commands inside : List Command) : Type 0 where
  pub first : Command
  pub last : Command
  pub begins : is_alone (codes "MULTI") (routed_args first) ≡ true
  pub ends : is_alone (codes "EXEC") (routed_args last) ≡ true
  pub all : commands ≡ first ∷ (inside ++ last ∷ [])

abbrev pub IsNoTransaction : List Command → Type 0
IsNoTransaction commands = (inside : List Command) → AreTransaction commands inside → ⊥

abbrev pub no_exec : RedisError
no_exec = General kind.Client (codes "a packed transaction ends with EXEC") None

-- a reply is a server's error
abbrev pub is_server_error : Value → Bool
is_server_error reply = elim (out-Value reply) [ Value-F.ServerError e ↦ true | _ ↦ false ]

-- one of the replies is
abbrev pub holds_error : Result (Vec Value) RedisError → Bool
holds_error (Ok replies) = list_any is_server_error replies.items
holds_error (Err e) = false

-- replies after the first of them are answered, or memory runs out for them
abbrev pub AnswersAfter : ℕ → Result (Vec Value) RedisError → Result (Vec Value) RedisError → Type 0
AnswersAfter offset (Ok replies) result =
    MatchResult result (λ answers. answers.items ≡ drop offset replies.items) (λ e. e ≡ OutOfMemory)
AnswersAfter offset (Err e) result = result ≡ Err e

module _ {L : Type 0} (of_link : L → Connection) where
  -- packed commands, as one request: where they are a transaction, it is sent to the node that those inside go to together;
  -- where a reply is an error, the map is asked for before the next command
  pub data RequestTogether (commands : List Command) (request : List ℕ) (old new : Cluster L)
      (result : Result (Vec Value) RedisError) : Type 0 where
    no_transaction : IsNoTransaction commands → new ≡ old → result ≡ Err no_exec
        → RequestTogether commands request old new result
    unsent : (inside : List Command) (e : RedisError) → AreTransaction commands inside
        → FindsNode of_link inside old new (Err e) → result ≡ Err e → RequestTogether commands request old new result
    sent : (inside : List Command) (ready between : Cluster L) (node : NodeAddr) → AreTransaction commands inside
        → FindsNode of_link inside old ready (Ok node) → SendsGroup of_link ready between node request (length commands) result
        → new ≡ record between { stale = between.stale || holds_error result } → RequestTogether commands request old new result

  -- a request of so many packed commands, of which the first begins a transaction, where the replies after these are
  -- answered: nothing of it is sent, or it is read back into its commands
  pub data PackedTransaction (request : List ℕ) (count offset : ℕ) (old new : Cluster L)
      (result : Result (Vec Value) RedisError) : Type 0 where
    unread : (e : RedisError) → new ≡ old → result ≡ Err e → PackedTransaction request count offset old new result
    read : (commands : List Command) (replied : Result (Vec Value) RedisError) → request_of commands ≡ request
        → length commands ≡ count → RequestTogether commands request old new replied → AnswersAfter offset replied result
        → PackedTransaction request count offset old new result
