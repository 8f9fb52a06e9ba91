-- A request whose commands are parted over several links, as over the nodes of a cluster.
use Rattle.std.specs.Prelude.{◌≡◌, ◌≢◌, ℕ, false, List, [], ◌∷◌, ◌++◌, length, codes, Ok, Some, slice_get}
use Rattle.std.specs.List.{AllZip, flat_map}
use Rattle.resp_args.specs.Args.{Args}
use Rattle.resp_value.specs.declared.value.Value.{Value}
use Rattle.resp_command.specs.Connection.{Connection, Exchange}
use Rattle.resp_command.specs.Packed.{packed}

-- a link that works was sent a request that holds this command, and the reply in its place is this
pub record RepliedOver (args : Args) (reply : Value) : Type 0 where
  pub before : List Args
  pub after : List Args
  pub link : Connection
  pub new : Connection
  pub works : link.broken ≡ false
  pub exchange : Exchange link new (flat_map packed (before ++ args ∷ after))
      (length (before ++ args ∷ after)) (Ok reply)
      (λ replies. slice_get replies (length before) ≡ Some reply)

-- the bytes that begin a transaction
abbrev pub multi_bytes : List ℕ
multi_bytes = packed (codes "MULTI" ∷ [])

-- a request of several commands, or none, that begins no transaction: each is replied to over a
-- link that works, and these are the n replies, in the order of the commands
pub record Parted (q : List ℕ) (n : ℕ) (answers : List Value → Type 0) : Type 0 where
  pub commands : List Args
  pub replies : List Value
  pub request : q ≡ flat_map packed commands
  pub no_transaction : (rest : List ℕ) → q ≢ multi_bytes ++ rest
  pub each : AllZip RepliedOver commands replies
  pub enough : length replies ≡ n
  pub several : n ≢ 1
  pub answer : answers replies
