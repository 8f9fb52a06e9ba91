-- What a machine has taken and built, and the amortised cost of its steps in iterations: iterations
-- that are paid for by bytes and not yet made are its potential.
use Rattle.std.specs.Prelude.{◌≡◌, ℕ, ◌+◌, ◌-◌, ◌*◌, ◌≤◌, List, [], ◌∷◌, length, Option, None, Some, Result, Ok, Err}
use Rattle.std.specs.List.{sum_by}
use Rattle.resp_value.specs.declared.value.Value.{Value}
use Rattle.resp_parse.specs.declared.read_error.ReadError.{ReadError}
use Rattle.resp_parse.specs.declared.open_aggregates.OpenAggregate.{OpenAggregate}
use Rattle.resp_parse.specs.declared.body.Body.{Body}
use Rattle.resp_parse.specs.declared.line.Line.{Line}
use Rattle.resp_parse.specs.declared.machine.Machine.{Machine}
use Rattle.resp_parse.specs.declared.machine.Step.{Step}
use Rattle.resp_parse.specs.declared.machine.Step.TheVariants as step
use Rattle.resp_parse.specs.Built.{built}
use Rattle.resp_parse.specs.Counts.{Counts}

-- the values that these are built of
abbrev pub built_of : List Value → ℕ
built_of values = sum_by built values

-- the values in the open aggregates
abbrev pub built_in : List OpenAggregate → ℕ
built_in [] = 0
built_in (f ∷ fs) = built_of f.seen + built_in fs

-- the bytes that the open aggregates have taken, at least: three for a header and for each value
abbrev pub aggregates_least_bytes : List OpenAggregate → ℕ
aggregates_least_bytes [] = 0
aggregates_least_bytes (f ∷ fs) = 3 + 3 * built_of f.seen + aggregates_least_bytes fs

-- of the value in progress, v values of a tree and t tokens of a flat reply are paid for: one value
-- for three of these bytes, or two tokens
pub record PaidFor (v t : ℕ) (fs : List OpenAggregate) : Type 0 where
  pub values : 3 * v ≤ aggregates_least_bytes fs
  pub tokens : 3 * t ≤ 2 * aggregates_least_bytes fs

abbrev pub body_least_bytes : Option Body → ℕ
body_least_bytes None = 0
body_least_bytes (Some b) = 3

abbrev pub least_bytes : {B : Type 0} → Machine B → ℕ
least_bytes m = body_least_bytes m.body + aggregates_least_bytes m.open_aggregates

-- the machine and a whole value are built within n bytes
abbrev pub BuiltWithin : {B : Type 0} → Machine B → ℕ → Result (Option Value) ReadError → Type 0
BuiltWithin new n (Ok None) = least_bytes new ≤ n
BuiltWithin new n (Ok (Some w)) = least_bytes new + 3 * built w ≤ n
BuiltWithin new n (Err e) = Unit {0}

abbrev pub StepBuiltWithin : {B : Type 0} → Machine B → Machine B → Result Step ReadError → Type 0
StepBuiltWithin old new (Ok (step.Waits n)) = least_bytes new ≤ least_bytes old + n
StepBuiltWithin old new (Ok (step.Goes n)) = least_bytes new ≤ least_bytes old + n
StepBuiltWithin old new (Ok (step.Whole n w)) = least_bytes new + 3 * built w ≤ least_bytes old + n
StepBuiltWithin old new (Err e) = Unit {0}

abbrev pub RunBuiltWithin : {B : Type 0} → Machine B → Machine B → Result (ℕ × Option Value) ReadError → Type 0
RunBuiltWithin old new (Ok (n, o)) = BuiltWithin new (least_bytes old + n) (Ok o)
RunBuiltWithin old new (Err e) = Unit {0}

-- the same where a whole value is handed out
abbrev pub ReadBuiltWithin : {B : Type 0} {A : Type 0} → Machine B → Machine B → Result (ℕ × A) ReadError → Type 0
ReadBuiltWithin old new (Ok (n, o)) = least_bytes new ≤ least_bytes old + n
ReadBuiltWithin old new (Err e) = Unit {0}

-- iterations that are paid for and not yet made: one for each value that will be whole, for its
-- place
abbrev pub aggregates_potential : List OpenAggregate → ℕ
aggregates_potential [] = 0
aggregates_potential (f ∷ fs) = 1 + aggregates_potential fs

abbrev pub body_potential : Option Body → ℕ
body_potential None = 0
body_potential (Some b) = 1

abbrev pub prepaid : {B : Type 0} → Machine B → ℕ
prepaid m = body_potential m.body + aggregates_potential m.open_aggregates

-- and with them, of the line in progress one for each byte, less those that an iteration looked at,
-- all but the first two
abbrev pub potential : {B : Type 0} → Machine B → ℕ
potential m = prepaid m + (m.scanned - (m.scanned - 2))

-- only looks at bytes of a line were counted, each an iteration
pub record LooksAlone (c d : Counts) : Type 0 where
  pub same : d ≡ record c { iterations = d.iterations; looks = d.looks }
  pub each : d.iterations + c.looks ≡ c.iterations + d.looks

-- a line's bytes were looked at from the first that was not, one iteration each; none for the first
-- byte
abbrev pub LooksAt : ℕ → List ℕ → Counts → Counts → Option ℕ → Type 0
LooksAt scanned bytes c d (Some n) =
    LooksAlone c d × (d.iterations + (scanned - 1) ≤ c.iterations + n + 1) × (scanned ≤ n + 1)
LooksAt scanned bytes c d None =
    LooksAlone c d × (d.iterations + (scanned - 1) ≤ c.iterations + (length bytes - 1))

-- the same of the first line, or of its first n bytes
abbrev pub LooksForNumeral : List ℕ → Counts → Counts → Result Line ℕ → Type 0
LooksForNumeral bytes c d (Ok l) = LooksAt 0 bytes c d (Some l.len)
LooksForNumeral bytes c d (Err n) = LooksAlone c d × (d.iterations ≤ c.iterations + (n - 1))

-- a value is begun: one that is whole prepays nothing, another one iteration
abbrev pub Begins : {B : Type 0} → Machine B → Machine B → Result (Option Value) ReadError → Type 0
Begins old new (Ok (Some v)) = prepaid new ≤ prepaid old
Begins old new (Ok None) = prepaid new ≤ prepaid old + 1
Begins old new (Err e) = Unit {0}

-- a value is placed: the iterations made are among those prepaid and one for the value
abbrev pub Places : {B : Type 0} {X : Type 0} → Machine B → Machine B → Counts → Counts → Result X ReadError → Type 0
Places old new c d (Ok x) = d.iterations + prepaid new ≤ c.iterations + prepaid old + 1
Places old new c d (Err e) = d.iterations ≤ c.iterations + prepaid old + 1

-- bytes were looked at, and all came before; those of lines one look each
pub record Looks {B : Type 0} (old new : Machine B) (c d : Counts) (n : ℕ) : Type 0 where
  pub same : d ≡ record c { iterations = d.iterations; looks = d.looks; examined = d.examined }
  pub once : d.looks + c.examined ≤ c.looks + d.examined
  pub examined : d.examined + old.scanned ≡ c.examined + n + new.scanned

-- of n bytes some were looked at, those of lines one look each
pub record Stopped {B : Type 0} (old : Machine B) (c d : Counts) (n : ℕ) : Type 0 where
  pub same : d ≡ record c { iterations = d.iterations; looks = d.looks; examined = d.examined }
  pub once : d.looks + c.examined ≤ c.looks + d.examined
  pub most : d.examined + old.scanned ≤ c.examined + n

-- one iteration for each byte examined pays for reading a header; what it begins keeps one more,
-- and a whole value two
abbrev pub HeaderCost : {B : Type 0} → Machine B → Machine B → List ℕ → Counts → Counts → Result Step ReadError → Type 0
HeaderCost old new bytes c d (Ok (step.Waits n)) = Looks old new c d n
    × (d.iterations + potential new + c.examined ≤ c.iterations + potential old + d.examined)
HeaderCost old new bytes c d (Ok (step.Goes n)) = Looks old new c d n
    × (d.iterations + potential new + c.examined + 1 ≤ c.iterations + potential old + d.examined)
HeaderCost old new bytes c d (Ok (step.Whole n v)) = Looks old new c d n
    × (d.iterations + potential new + c.examined + 2 ≤ c.iterations + potential old + d.examined)
HeaderCost old new bytes c d (Err e) = Stopped old c d (length bytes)
    × (d.iterations + c.examined ≤ c.iterations + potential old + d.examined)

-- a step costs as much, after its own iteration
abbrev pub StepCost : {B : Type 0} → Machine B → Machine B → List ℕ → Counts → Counts → Result Step ReadError → Type 0
StepCost old new bytes c d r =
    HeaderCost old new bytes (record c { iterations = c.iterations + 1 }) d r

-- a machine that was `old` has taken n bytes
pub record CostSoFar {B : Type 0} (old m : Machine B) (c d : Counts) (n : ℕ) : Type 0 where
  pub looks : Looks old m c d n
  pub cost : d.iterations + potential m + c.examined ≤ c.iterations + potential old + d.examined
  pub built_within : least_bytes m ≤ least_bytes old + n

-- n bytes were taken, which pay for what was done and one iteration more
abbrev pub Spent : {B : Type 0} → Machine B → Machine B → Counts → Counts → ℕ → Type 0
Spent old new c d n = Looks old new c d n
    × (d.iterations + potential new + c.examined ≤ c.iterations + potential old + d.examined + 1)

-- or the machine stopped in these
abbrev pub SpentAtStop : {B : Type 0} → Machine B → List ℕ → Counts → Counts → Type 0
SpentAtStop old bytes c d = Stopped old c d (length bytes)
    × (d.iterations + c.examined ≤ c.iterations + potential old + d.examined + 1)

abbrev pub RunCost : {B : Type 0} {A : Type 0} → Machine B → Machine B → List ℕ → Counts → Counts →
    Result (ℕ × A) ReadError → Type 0
RunCost old new bytes c d (Ok (n, o)) = Spent old new c d n
RunCost old new bytes c d (Err e) = SpentAtStop old bytes c d

-- elements were taken, or the machine stopped among them
abbrev pub ElementsCost : {B : Type 0} {E : Type 0} → Machine B → Machine B → List ℕ → Counts → Counts → Result ℕ E → Type 0
ElementsCost old new bytes c d (Ok n) = CostSoFar old new c d n
ElementsCost old new bytes c d (Err e) = SpentAtStop old bytes c d
