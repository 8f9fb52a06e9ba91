-- What the calls of a handle do.
use Rattle.std.specs.Prelude.{◌≡◌, ℕ, List, [], Option, None, Some}
use Rattle.resp_parse.specs.declared.limits.Limits.{Limits}
use Rattle.resp_parse.specs.Limits.{AreLimits}
use Rattle.resp_c.specs.declared.session.Session.{Session}
use Rattle.resp_c.specs.declared.view.RespView.{RespView}
use Rattle.resp_c.specs.Sessions.{IsNew, Holds, FirstOf}
use Rattle.resp_c.specs.Views.{Shows}

-- a session is open
pub record IsOpen (o : Option Session) (P : Session → Type 0) : Type 0 where
  pub session : Session
  pub is : o ≡ Some session
  pub so : P session

-- a new session is open; or nothing changed, since memory ran out or the limits can't be chosen
pub data Opened (limits : Limits) (old new : Option Session) (status : ℕ) : Type 0 where
  done : status ≡ 1 → IsOpen new (IsNew limits) → Opened limits old new status
  memory : status ≡ 3 → new ≡ old → Opened limits old new status
  range : status ≡ 7 → (AreLimits limits → ⊥) → new ≡ old → Opened limits old new status

-- no session is open, and the status is 5; or one is, and it stays open by what the call does
pub data Called (P : Session → Session → ℕ → Type 0) (old new : Option Session) (status : ℕ) : Type 0 where
  closed : status ≡ 5 → old ≡ None → new ≡ None → Called P old new status
  held : (s t : Session) → old ≡ Some s → new ≡ Some t → P s t status → Called P old new status

-- the view shows the reply of the session that is open; where none is, it is as it was
pub data Shown (o : Option Session) (old new : RespView) : Type 0 where
  closed : o ≡ None → new ≡ old → Shown o old new
  held : (t : Session) → o ≡ Some t → Shows new t.reply → Shown o old new

-- a question, of which nothing changes: 0 where no session is open
pub data Told (P : Session → ℕ → Type 0) (old new : Option Session) (answer : ℕ) : Type 0 where
  closed : answer ≡ 0 → old ≡ None → new ≡ None → Told P old new answer
  held : (s : Session) → old ≡ Some s → new ≡ Some s → P s answer → Told P old new answer

-- the value at the start of bytes was read, by a session whose parser stays; what gives no value leaves
-- the reply empty; and what meets no fault leaves the last one as it was
pub record FirstRead (bytes : List ℕ) (taken : ℕ) (s t : Session) (status : ℕ) : Type 0 where
  pub first : FirstOf bytes taken t status
  pub empty : (status ≡ 1 → ⊥) → Holds t.reply [] []
  pub parser : t.parser ≡ s.parser
  pub fault : (status ≡ 2 → ⊥) → (t.fault ≡ s.fault) × (t.place ≡ s.place)

-- the fault that was met last, and its place
pub record FaultIs (offset : ℕ) (s : Session) (fault : ℕ) : Type 0 where
  pub fault_is : fault ≡ s.fault
  pub offset_is : offset ≡ s.place
