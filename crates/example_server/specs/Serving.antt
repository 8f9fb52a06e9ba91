-- What a client is answered for all bytes that it sent: it doesn't depend on how they were cut.
use Rattle.std.specs.Prelude.{◌≡◌, ◌⊎◌, ℕ, true, List, [], ◌∷◌, ◌++◌, Option, None, Some, Vec}
use Rattle.std.specs.declared.alloc.Global.{Global}
use Rattle.example_server.specs.ProtocolErrors.{told}
use Rattle.example_server.specs.Requests.{ahead, pending, reading, request, unfinished, wrong}
use Rattle.example_server.specs.Sessions.{Replied}
use Rattle.example_server.specs.declared.protocol_error.ProtocolError.{ProtocolError}
use Rattle.example_server.specs.declared.server.Server.{Server}
use Rattle.example_server.specs.declared.session.Session.{Session}

-- the bytes begin with a request of these words, and the rest follows it, whatever comes then
abbrev pub Begins : List ℕ → List (List ℕ) → List ℕ → Type 0
Begins b words rest = (more : List ℕ) → reading (b ++ more) ≡ request words (rest ++ more)

-- a request without words is passed over, and any other has one reply
abbrev pub Answered : List (List ℕ) → Session → Session → List ℕ → Type 0
Answered [] old new written = (new ≡ old) × (written ≡ [])
Answered (word ∷ words) old new written = Replied old new [] written

-- the words of a request, and what was written for it
pub record Exchange : Type 0 where
  pub words : List (List ℕ)
  pub written : List ℕ

-- these requests are the first in the bytes, and were answered one after another; others are left
abbrev pub Serves : Session → List ℕ → Session → List ℕ → List Exchange → Type 0
Serves old b new left [] = (new ≡ old) × (left ≡ b)
Serves old b new left (x ∷ xs) = (next : Session) × (rest : List ℕ) × Begins b x.words rest
    × Answered x.words old next x.written × Serves next rest new left xs

abbrev pub written_for : List Exchange → List ℕ
written_for [] = []
written_for (x ∷ xs) = x.written ++ written_for xs

-- a client sent the bytes b in all, and w was written for the requests among them that were answered;
-- what is pending are the bytes after those
pub record Served (start : Session) (b w : List ℕ) (now : Server) : Type 0 where
  pub exchanges : List Exchange
  pub left : List ℕ
  pub serves : Serves start b now.session left exchanges
  pub written : w ≡ written_for exchanges
  pub next : (more : List ℕ) → ahead (pending now.requests) more ≡ reading (left ++ more)

-- what can't be read was told, whatever comes next, and the connection is closed
pub record Told (old new : Server) (written : List ℕ) : Type 0 where
  pub error : ProtocolError
  pub unread : (more : List ℕ) → ahead (pending old.requests) more ≡ wrong error
  pub told : written ≡ told error
  pub closed : new.is_closed ≡ true

-- the next request was taken and answered
pub record AnswersNext (start : Session) (b w : List ℕ) (old new : Server) (written : List ℕ) : Type 0 where
  pub words : List (List ℕ)
  pub taken : (more : List ℕ) → ahead (pending old.requests) more
      ≡ request words ((pending new.requests).unread ++ more)
  pub served : Served start b (w ++ written) new

-- nothing can be answered: the connection is closed, or no request is whole
abbrev pub Waits : Server → Type 0
Waits s = (s.is_closed ≡ true) ⊎ (ahead (pending s.requests) [] ≡ unfinished)

-- one more request is answered, or none, since none can be
abbrev pub GoesOn : Session → List ℕ → List ℕ → Server → Server → Option (List ℕ) → Type 0
GoesOn start b w old new None = Waits old × Served start b w new
GoesOn start b w old new (Some written) =
    AnswersNext start b w old new written ⊎ Told old new written

abbrev pub vec_bytes : Vec ℕ Global → List ℕ
vec_bytes v = v.items
