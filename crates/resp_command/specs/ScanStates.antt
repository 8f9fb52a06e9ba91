-- Where a scan stands, read from its parts.
use Rattle.std.specs.Prelude.{◌≡◌, ℕ, Option, Result}
use Rattle.std.specs.Borrow.{MutBor}
use Rattle.std.specs.Iterator.{Count, at_most}
use Rattle.std.specs.Vec.Iter.{into_iter_items, into_iter_len}
use Rattle.resp_errors.specs.declared.redis_error.RedisError.{RedisError}
use Rattle.resp_value.specs.declared.value.Value.{Value}
use Rattle.resp_command.specs.Connection.{Connection}
use Rattle.resp_command.specs.ScanReplies.{as_answers}
use Rattle.resp_command.specs.Scans.{Next, ScanState, most_answers}
use Rattle.resp_command.specs.declared.progress.ScanProgress.{ScanProgress}
use Rattle.resp_command.specs.declared.scan.Scan.{Scan}

abbrev pub state_of : {X : Type 0} → ScanProgress X → ScanState X
state_of p = record {
  command = p.command;
  cursor = p.cursor;
  waiting = as_answers (into_iter_items p.waiting);
  budget = p.left;
}

-- how many answers may still come
abbrev pub answers_left : {X : Type 0} → ScanProgress X → ℕ
answers_left p = most_answers (into_iter_len p.waiting) p.left

-- the connection that a scan borrows
abbrev pub borrowed : {C P : Type 0} → Scan C P → MutBor C
borrowed s = s.con

abbrev pub scan_state : {C X : Type 0} → Scan C (ScanProgress X) → ScanState X
scan_state s = state_of s.progress

abbrev pub scan_count : {C X : Type 0} → Scan C (ScanProgress X) → Count
scan_count s = at_most (answers_left s.progress)

-- a call of `next`: the same connection is borrowed before and after it
abbrev pub ScanSteps : {C X : Type 0} (n : ℕ) (Of : Value → X → Type 0)
    (connection : C → Connection) (s : Scan C (ScanProgress X))
    (answer : Option (Result X RedisError)) (t : Scan C (ScanProgress X)) → Type 0
ScanSteps n Of connection s answer t =
    ((borrowed t).ghost_name ≡ (borrowed s).ghost_name)
    × Next n Of (connection (borrowed s).now) (connection (borrowed t).now) (scan_state s) answer
    (scan_state t)
