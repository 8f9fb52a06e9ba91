-- What reading gives from where a machine stands, if these bytes come next; and how a machine gets
-- from one place to another.
use Rattle.std.specs.Prelude.{◌≡◌, ℕ, suc, ◌+◌, ◌-◌, ◌<◌, ◌≤◌, Bool, true, false, List, [], ◌∷◌, ◌++◌, length, take}
use Rattle.std.specs.Prelude.{drop, get_or, min, Option, None, Some, IfSome, Result, Ok, Err}
use Rattle.resp_value.specs.declared.value.Value.{Value}
use Rattle.resp_errors.specs.declared.kinds.FrameFault.TheVariants.{BodyEnd}
use Rattle.resp_parse.specs.declared.read_error.ReadError.{ReadError}
use Rattle.resp_parse.specs.declared.read_error.ReadError.TheVariants.{Memory, Fault}
use Rattle.resp_parse.specs.declared.open_aggregates.OpenAggregate.{OpenAggregate}
use Rattle.resp_parse.specs.declared.body.Body.{Body}
use Rattle.resp_parse.specs.declared.line.Line.{Line}
use Rattle.resp_parse.specs.declared.type_byte.TypeByte.{TypeByte}
use Rattle.resp_parse.specs.declared.type_byte.TypeByte.TheVariants as type_byte
use Rattle.resp_parse.specs.declared.machine.Machine.{Machine}
use Rattle.resp_parse.specs.declared.machine.Step.{Step}
use Rattle.resp_parse.specs.declared.machine.Step.TheVariants as step
use Rattle.resp_parse.specs.Building.{Stands, whole, progress_of}
use Rattle.resp_parse.specs.Lines.{NoneBefore, Scanned}
use Rattle.resp_parse.specs.Number.{IsNumeral}
use Rattle.resp_parse.specs.Shapes.{body_value, elements_value}
use Rattle.resp_parse.specs.PlainReading.{ReadOutcome, got, fault, incomplete, then, line, end_of_body, read_body}
use Rattle.resp_parse.specs.PlainReading.{read_elements, made, read}

-- how many of d levels are left inside these aggregates
abbrev pub depth_left : ℕ → List OpenAggregate → ℕ
depth_left d open_aggregates = d - length open_aggregates

-- how many are left inside one aggregate more
abbrev pub depth_below : ℕ → List OpenAggregate → ℕ
depth_below d open_aggregates = d - suc (length open_aggregates)

-- where values are read down to d levels, a value is whole inside these aggregates, the innermost
-- first
abbrev pub place : ℕ → List OpenAggregate → Value → List ℕ → ReadOutcome Value
place d [] v rest = got v rest
place d (f ∷ fs) v rest =
    then (read_elements (read (depth_below d fs)) f.after rest)
    (λ vs after. then (made (elements_value f.kind (f.seen ++ (v ∷ vs))) after) (place d fs))

-- the value in progress, where d levels are left
abbrev pub value_of : ℕ → Option Body → List ℕ → ReadOutcome Value
value_of d None more = read d more
value_of d (Some b) more =
    then (read_body b.missing more) (λ x rest. made (body_value b.kind (b.seen ++ x)) rest)

abbrev pub resume : {B : Type 0} → Machine B → List ℕ → ReadOutcome Value
resume m more =
    then (value_of (depth_left m.depth m.open_aggregates) m.body more) (place m.depth m.open_aggregates)

-- no body and no aggregate is open
abbrev pub fresh_of : Option Body → List OpenAggregate → Bool
fresh_of None [] = true
fresh_of None (f ∷ fs) = false
fresh_of (Some b) fs = false

-- the first n bytes of a line, its type byte among them, were looked at and hold no CR LF
pub record IsLooked (bytes : List ℕ) (n : ℕ) : Type 0 where
  pub within : n ≤ length bytes
  pub rest : Scanned (drop 1 bytes) (n - 1)

abbrev pub IsScanned : Option Body → ℕ → List ℕ → Type 0
IsScanned None n bytes = IsLooked bytes n
IsScanned (Some b) n bytes = n ≡ 0

-- reading is at fault at once, whatever bytes come; memory aside
abbrev pub FaultsAtOnce : (List ℕ → ReadOutcome Value) → ReadError → Type 0
FaultsAtOnce before Memory = Unit {0}
FaultsAtOnce before (Fault f) = (more : List ℕ) → before more ≡ fault f more

-- the first n bytes show a fault, whatever bytes come after; memory aside
abbrev pub FaultsWithin : (List ℕ → ReadOutcome Value) → List ℕ → ℕ → ReadError → Type 0
FaultsWithin before bytes n Memory = Unit {0}
FaultsWithin before bytes n (Fault f) = (n ≤ length bytes)
    × ((more : List ℕ) → before (bytes ++ more) ≡ fault f (drop n bytes ++ more))

-- from `before`, by the bytes that come, the machine has come to `new`, and a body or an aggregate
-- is open; with Some, the value in progress is whole
abbrev pub Goes : {B : Type 0} → (List ℕ → ReadOutcome Value) → Machine B → Result (Option Value) ReadError → Type 0
Goes before new (Ok None) =
    ((more : List ℕ) → before more ≡ resume new more) × (fresh_of new.body new.open_aggregates ≡ false)
Goes before new (Ok (Some w)) =
    ((more : List ℕ) → before more ≡ place new.depth new.open_aggregates w more) × (new.body ≡ None)
Goes before new (Err e) = FaultsAtOnce before e

-- the same, with Some where the outermost value is whole
abbrev pub Ends : {B : Type 0} → (List ℕ → ReadOutcome Value) → Machine B → Result (Option Value) ReadError → Type 0
Ends before new (Ok None) =
    ((more : List ℕ) → before more ≡ resume new more) × (fresh_of new.body new.open_aggregates ≡ false)
Ends before new (Ok (Some w)) =
    ((more : List ℕ) → before more ≡ got w more) × (fresh_of new.body new.open_aggregates ≡ true)
Ends before new (Err e) = FaultsAtOnce before e

-- the length of the first line's text, or none
abbrev pub FindsLine : List ℕ → Option ℕ → Type 0
FindsLine bs (Some n) =
    (n + 2 ≤ length bs) × (line bs ≡ got (take n bs) (drop (n + 2) bs))
FindsLine bs None = NoneBefore bs (length bs)

-- how long its text is
abbrev pub len_of : Option Line → Option ℕ
len_of None = None
len_of (Some l) = Some l.len

-- the first line, which writes its number, or the first n bytes hold no CR LF
abbrev pub FindsNumeral : List ℕ → Result Line ℕ → Type 0
FindsNumeral bs (Ok l) = FindsLine bs (Some l.len) × IfSome l.number (IsNumeral (take l.len bs))
FindsNumeral bs (Err n) = Scanned bs n

-- whether the CR LF of a body stands at the start, or the first n bytes show that it doesn't
abbrev pub EndsBody : List ℕ → Result Bool ℕ → Type 0
EndsBody bs (Ok true) =
    (2 ≤ length bs) × ((more : List ℕ) → end_of_body (bs ++ more) ≡ got [] (drop 2 bs ++ more))
EndsBody bs (Ok false) = end_of_body bs ≡ incomplete
EndsBody bs (Err n) = (n ≤ length bs)
    × ((more : List ℕ) → end_of_body (bs ++ more) ≡ fault BodyEnd (drop n bs ++ more))

-- the bytes begin with this body of n bytes and its CR LF
pub record BeginsWithBody (n : ℕ) (bs body : List ℕ) : Type 0 where
  pub within : n + 2 ≤ length bs
  pub size : length body ≡ n
  pub reads : (more : List ℕ) → read_body n (bs ++ more) ≡ got body (drop (n + 2) bs ++ more)

-- and the line before them announced it, as a bulk string whose length is this number
pub record BeginsWithBulk (kind : TypeByte) (number : Option ℕ) (bs body : List ℕ) : Type 0 where
  pub kind_is : kind ≡ type_byte.BulkString
  pub number_is : number ≡ Some (length body)
  pub begins : BeginsWithBody (length body) bs body

-- after its type byte, the bytes begin with the line of a bulk string, whose text has len bytes and
-- writes the length of this body, and with the body and its CR LF
pub record IsShortBulk (bs : List ℕ) (len : ℕ) (body : List ℕ) : Type 0 where
  pub line : FindsLine bs (Some len)
  pub lf : get_or bs (suc len) 0 ≡ 10
  pub cr : get_or bs len 0 ≡ 13
  pub number : IsNumeral (take len bs) (length body)
  pub begins : BeginsWithBody (length body) (drop (len + 2) bs) body

-- a body took n bytes: all, or as many as it lacked
abbrev pub FillsBody : {E : Type 0} → Body → List ℕ → Body → Result ℕ E → Type 0
FillsBody old bytes new (Ok n) = (n ≡ min (length bytes) old.missing)
    × (new ≡ record old { missing = old.missing - n; seen = old.seen ++ take n bytes })
FillsBody old bytes new (Err e) = new ≡ old

-- n bytes were taken, and no more can be before more bytes come
pub record Waits {B : Type 0} (old : Machine B) (bytes : List ℕ) (new : Machine B) (n : ℕ) : Type 0 where
  pub within : n ≤ length bytes
  pub same : (more : List ℕ) → resume old (bytes ++ more) ≡ resume new (drop n bytes ++ more)
  pub waits : resume new (drop n bytes) ≡ incomplete
  pub scanned : IsScanned new.body new.scanned (drop n bytes)
  pub fresh : fresh_of new.body new.open_aggregates ≡ true → n ≡ 0
  pub begun : n ≡ 0 → fresh_of new.body new.open_aggregates ≡ fresh_of old.body old.open_aggregates

-- n bytes were taken, one at least
pub record Consumes {B : Type 0} (old : Machine B) (bytes : List ℕ) (new : Machine B)
    (after : List ℕ → ReadOutcome Value) (n : ℕ) : Type 0 where
  pub some : 0 < n
  pub within : n ≤ length bytes
  pub same : (more : List ℕ) → resume old (bytes ++ more) ≡ after (drop n bytes ++ more)
  pub scanned : new.scanned ≡ 0

-- what one step does
abbrev pub Steps : {B : Type 0} → Machine B → List ℕ → Machine B → Result Step ReadError → Type 0
Steps old bytes new (Ok (step.Waits n)) = Waits old bytes new n
Steps old bytes new (Ok (step.Goes n)) =
    Consumes old bytes new (resume new) n × (fresh_of new.body new.open_aggregates ≡ false)
Steps old bytes new (Ok (step.Whole n w)) =
    Consumes old bytes new (place new.depth new.open_aggregates w) n × (new.body ≡ None)
Steps old bytes new (Err e) = FaultsWithin (resume old) bytes new.shown e

-- a machine that was `old` has taken the first bytes up to `at`
pub record Ran {B : Type 0} (old m : Machine B) (bytes : List ℕ) (at : ℕ) : Type 0 where
  pub within : at ≤ length bytes
  pub same : (more : List ℕ) → resume old (bytes ++ more) ≡ resume m (drop at bytes ++ more)
  pub limit : m.depth ≡ old.depth
  pub depth : length m.open_aggregates ≤ m.depth
  pub scanned : IsScanned m.body m.scanned (drop at bytes)
  pub fresh : fresh_of m.body m.open_aggregates ≡ true → at ≡ 0
  pub begun : at ≡ 0 → fresh_of m.body m.open_aggregates ≡ fresh_of old.body old.open_aggregates

-- of these bytes the machine took n, as elements of the innermost aggregate
abbrev pub TakesElements : {B : Type 0} {E : Type 0} → Machine B → List ℕ → Machine B → Result ℕ E → Type 0
TakesElements old bytes new (Ok n) = Ran old new bytes n × (new.body ≡ None)
TakesElements old bytes new (Err e) = Unit {0}

-- a value was read, and n bytes taken
pub record Completes {B : Type 0} (old : Machine B) (bytes : List ℕ) (new : Machine B) (n : ℕ) (v : Value) : Type
    0 where
  pub within : n ≤ length bytes
  pub same : (more : List ℕ) → resume old (bytes ++ more) ≡ got v (drop n bytes ++ more)
  pub fresh : fresh_of new.body new.open_aggregates ≡ true
  pub scanned : new.scanned ≡ 0

-- what all steps do until a value is whole or more bytes are needed
abbrev pub Runs : {B : Type 0} → Machine B → List ℕ → Machine B → Result (ℕ × Option Value) ReadError → Type 0
Runs old bytes new (Ok (n, Some w)) = Completes old bytes new n w
Runs old bytes new (Ok (n, None)) = Waits old bytes new n
Runs old bytes new (Err e) =
    FaultsWithin (resume old) bytes new.shown e × (0 < length bytes)

-- the same in a place for what shows a value, which is as it was where no value is read
abbrev pub ReadsInto : {B : Type 0} {T : Type 0} → (T → Value → Type 0) → Machine B → List ℕ → Machine B → T → T
    → Result (ℕ × Bool) ReadError → Type 0
ReadsInto shows old bytes new before after (Ok (n, true)) = (v : Value) × (shows after v × Completes old bytes new n v)
ReadsInto shows old bytes new before after (Ok (n, false)) = Waits old bytes new n × (after ≡ before)
ReadsInto shows old bytes new before after (Err e) =
    (FaultsWithin (resume old) bytes new.shown e × (0 < length bytes)) × (after ≡ before)

-- what is built then, where memory doesn't run out and no fault is met
abbrev pub BuildsThen : {B : Type 0} → Stands B → Machine B → Result (Option Value) ReadError → Type 0
BuildsThen S m (Ok None) = S m.builder m.open_aggregates (progress_of m.body)
BuildsThen S m (Ok (Some w)) = S m.builder m.open_aggregates (whole w)
BuildsThen S m (Err e) = Unit {0}

abbrev pub StepBuilds : {B : Type 0} → Stands B → Machine B → Result Step ReadError → Type 0
StepBuilds S m (Ok (step.Waits n)) = BuildsThen S m (Ok None)
StepBuilds S m (Ok (step.Goes n)) = BuildsThen S m (Ok None)
StepBuilds S m (Ok (step.Whole n w)) = BuildsThen S m (Ok (Some w))
StepBuilds S m (Err e) = Unit {0}

abbrev pub RunBuilds : {B : Type 0} → Stands B → Machine B → Result (ℕ × Option Value) ReadError → Type 0
RunBuilds S m (Ok (n, o)) = BuildsThen S m (Ok o)
RunBuilds S m (Err e) = Unit {0}
