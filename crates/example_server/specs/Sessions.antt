-- What a client is answered, and what its transactions do.
use Rattle.std.specs.Prelude.{◌≡◌, ℕ, List, [], ◌∷◌, ◌++◌, Some}
use Rattle.std.specs.Fmt.{◌++?◌}
use Rattle.std.specs.BTreeMap.{IsUnchanged}
use Rattle.resp_core.specs.Replies.{usual}
use Rattle.resp_encode.specs.Encodings.{encoding_in}
use Rattle.example_server.specs.Replies.{answer_value}
use Rattle.example_server.specs.Connections.{connection_after, connection_reply}
use Rattle.example_server.specs.KeyCommands.{AnswersKeys, KeepsOnFailure}
use Rattle.example_server.specs.declared.command.Command.{Command}
use Rattle.example_server.specs.declared.command.Command.TheVariants as command
use Rattle.example_server.specs.declared.command.Request.{Request}
use Rattle.example_server.specs.declared.command.Request.TheVariants as request
use Rattle.example_server.specs.declared.refusal.Refusal.TheVariants as refusal
use Rattle.example_server.specs.declared.reply.Reply.{Reply}
use Rattle.example_server.specs.declared.reply.Reply.TheVariants as reply
use Rattle.example_server.specs.declared.reply.Answer.{Answer}
use Rattle.example_server.specs.declared.reply.Answer.TheVariants as answer
use Rattle.example_server.specs.declared.state.State.{State}
use Rattle.example_server.specs.declared.session.Session.{Session}
use Rattle.example_server.specs.declared.session.Transaction.{Transaction}
use Rattle.example_server.specs.declared.session.Transaction.TheVariants as transaction

-- the keys hold what they held, and the connection is as it was
abbrev pub SameState : State → State → Type 0
SameState old new = IsUnchanged old.store new.store × (new.connection ≡ old.connection)

-- what a command does, and what it is answered
abbrev pub Performs : State → State → Command → Reply → Type 0
Performs old new (command.Keys keys) answered =
    AnswersKeys old.store new.store keys answered × (new.connection ≡ old.connection)
Performs old new (command.Connection about) answered = IsUnchanged old.store new.store
    × (new.connection ≡ connection_after old.connection about)
    × (answered ≡ connection_reply old.connection about)
Performs old new (command.Refused why) answered =
    SameState old new × (answered ≡ reply.Refused why)

-- where memory runs out nothing is changed, but that HSET may have taken the hash away
abbrev pub PerformFails : State → State → Command → Type 0
PerformFails old new (command.Keys keys) =
    KeepsOnFailure old.store new.store keys × (new.connection ≡ old.connection)
PerformFails old new _ = SameState old new

-- commands are performed one after another, and answered one by one
abbrev pub Runs : State → State → List Command → List Reply → Type 0
Runs old new [] [] = SameState old new
Runs old new (c ∷ cs) (r ∷ rs) = (next : State) × Performs old next c r × Runs next new cs rs
Runs old new _ _ = ⊥

-- the transaction after a request that is no command
abbrev pub failed : Transaction → Transaction
failed transaction.Closed = transaction.Closed
failed (transaction.Open queued) = transaction.Failed
failed transaction.Failed = transaction.Failed

-- MULTI opens a transaction where none is
abbrev pub after_multi : Transaction → Transaction
after_multi transaction.Closed = transaction.Open []
after_multi (transaction.Open queued) = transaction.Open queued
after_multi transaction.Failed = transaction.Failed

abbrev pub multi_reply : Transaction → Reply
multi_reply transaction.Closed = reply.Okay
multi_reply _ = reply.Refused refusal.NestedMulti

-- DISCARD closes it
abbrev pub discard_reply : Transaction → Reply
discard_reply transaction.Closed = reply.Refused refusal.DiscardWithoutMulti
discard_reply _ = reply.Okay

-- EXEC performs the queued commands, and closes the transaction
abbrev pub Executes : State → State → Transaction → Answer → Type 0
Executes old new (transaction.Open queued) (answer.Several replies) = Runs old new queued replies
Executes old new transaction.Closed answered =
    SameState old new × (answered ≡ answer.Single (reply.Refused refusal.ExecWithoutMulti))
Executes old new transaction.Failed answered =
    SameState old new × (answered ≡ answer.Single (reply.Refused refusal.ExecAborted))
Executes old new _ _ = ⊥

-- a command is answered at once outside a transaction, and queued within one
abbrev pub PerformsOrQueues : Session → Session → Transaction → Command → Answer → Type 0
PerformsOrQueues old new transaction.Closed c (answer.Single answered) =
    Performs old.state new.state c answered × (new.transaction ≡ transaction.Closed)
PerformsOrQueues old new (transaction.Open queued) c answer.Queued =
    SameState old.state new.state × (new.transaction ≡ transaction.Open (queued ++ c ∷ []))
PerformsOrQueues old new transaction.Failed c answer.Queued =
    SameState old.state new.state × (new.transaction ≡ transaction.Failed)
PerformsOrQueues old new _ c _ = ⊥

-- a request that reads and changes the transaction alone
abbrev pub AnswersAlone : Session → Session → Transaction → Answer → Reply → Type 0
AnswersAlone old new after answered r = SameState old.state new.state
    × (new.transaction ≡ after) × (answered ≡ answer.Single r)

-- what a request does, and what it is answered
abbrev pub Answers : Session → Session → Request → Answer → Type 0
Answers old new (request.Perform c) answered =
    PerformsOrQueues old new old.transaction c answered
Answers old new request.Exec answered = Executes old.state new.state old.transaction answered
    × (new.transaction ≡ transaction.Closed)
Answers old new request.Multi answered = AnswersAlone old new
    (after_multi old.transaction) answered (multi_reply old.transaction)
Answers old new request.Discard answered = AnswersAlone old new
    transaction.Closed answered (discard_reply old.transaction)
Answers old new request.ExecWithArguments answered = AnswersAlone old new
    transaction.Closed answered (reply.Refused refusal.ExecWithArguments)
Answers old new request.Quit answered =
    AnswersAlone old new old.transaction answered reply.Okay
Answers old new (request.Unread why) answered = AnswersAlone old new
    (failed old.transaction) answered (reply.Refused why)

-- a request was answered, and the answer appended in the version that the client then has
pub record Replied (old new : Session) (before after : List ℕ) : Type 0 where
  pub asked : Request
  pub answered : Answer
  pub answers : Answers old new asked answered
  pub sent : (Some before ++? encoding_in new.state.connection.protocol usual.depth
      (answer_value answered)) ≡ Some after
