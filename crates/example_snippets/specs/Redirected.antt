-- What a query does that follows one redirect. `sends` says which errors send to which address and
-- slot, `IsMoved` and `IsAsk` which of them at once and which after ASKING; `asks` and `queries`
-- say what ASKING and the query do over a connection.
use Rattle.std.specs.Prelude.{◌≡◌, ℕ, ◌⊎◌, List, [], ◌∷◌, Result, Ok, Err, IsErrAnd, IsOk, codes}
use Rattle.resp_core.specs.Connections.{Command, Connection, new_command}

abbrev pub NamesNode : {E : Type 0} → (E → List ℕ → ℕ → Type 0) → E → Type 0
NamesNode sends e = (address : List ℕ) × ((slot : ℕ) × sends e address slot)

abbrev pub NamesNone : {E : Type 0} → (E → List ℕ → ℕ → Type 0) → E → Type 0
NamesNone sends e = (address : List ℕ) (slot : ℕ) → sends e address slot → ⊥

abbrev pub asking : Command
asking = record new_command { args = codes "ASKING" ∷ [] }

-- what a query does over a connection, which it finds and leaves so
abbrev pub QueryOf : Type 0 → Type 0 → Type 1
QueryOf X E = Connection → Connection → Result X E → Type 0

-- ASKING is answered and then the query is made, or the answer is why ASKING wasn't answered
abbrev pub AfterAsking : {X E : Type 0} → QueryOf (Unit {0}) E → QueryOf X E → QueryOf X E
AfterAsking asks queries old new result =
    ((between : Connection) × (asks old between (Ok tt) × queries between new result))
    ⊎ IsErrAnd result (λ e. (new ≡ old) ⊎ asks old new (Err e))

-- what becomes of an error: one that names no node is the answer, and the node is left alone; else
-- the node is asked as the error says
abbrev pub Follows : {X E : Type 0} → (sends : E → List ℕ → ℕ → Type 0) →
    (IsMoved IsAsk : E → Type 0) → QueryOf (Unit {0}) E → QueryOf X E → E → QueryOf X E
Follows sends IsMoved IsAsk asks queries e old new result =
    (NamesNone sends e × (result ≡ Err e) × (new ≡ old))
    ⊎ (NamesNode sends e × (IsMoved e → queries old new result)
    × (IsAsk e → AfterAsking asks queries old new result))

-- the first node's answer: a value is the answer, and the second node is left alone; an error is
-- followed
abbrev pub Redirected : {X E : Type 0} → (first_answers : Result X E → Type 0) →
    (follows : E → QueryOf X E) → QueryOf X E
Redirected first_answers follows old new result =
    (first_answers result × IsOk result × (new ≡ old))
    ⊎ ((e : _) × (first_answers (Err e) × follows e old new result))
