-- Arguments of a command (RESP, "Sending commands to a Redis server"): a client sends a command as
-- an array of bulk strings, so every argument is a list of bytes.
use Rattle.std.specs.Prelude.{◌<◌, ◌≡◌, ℕ, Bool, true, false, List, [], ◌∷◌, ◌++◌, map, Result, Ok, Err, IfErr, Vec}
use Rattle.std.specs.Prelude.{nat_le, ◌⊎◌, Option, None, Some, ◌+◌, if◌then◌else◌, codes, length, IfSome, OnOk, ⊤}
use Rattle.std.specs.Borrow.{Bor}
use Rattle.std.specs.Iterator.{Yields}
use Rattle.std.specs.Global.{Global}
use Rattle.std.specs.List.{Any, AllZip, flat_map}
use Rattle.std.specs.List.Sorted.{IsPermutation}
use Rattle.resp_errors.specs.declared.redis_error.RedisError.{RedisError}
use Rattle.resp_errors.specs.declared.redis_error.RedisError.TheVariants.{General, OutOfMemory}
use Rattle.resp_errors.specs.declared.kinds.ErrorKind.TheVariants.{Client}
use Rattle.resp_errors.specs.Errors.{kind_of}
use Rattle.resp_args.specs.declared.args.NumericBehavior.{NumericBehavior}
use Rattle.resp_args.specs.declared.args.NumericBehavior.TheVariants.{NonNumeric}

-- the arguments of a command, in order
abbrev pub Args : Type 0
Args = List (List ℕ)

-- the bytes of each vector
abbrev pub args_of : List (Vec ℕ Global) → Args
args_of vectors = map (λ v. v.items) vectors

-- the arguments with more bytes at the end of the last one
abbrev pub extended : Args → List ℕ → Args
extended [] bytes = []
extended (arg ∷ []) bytes = (arg ++ bytes) ∷ []
extended (arg ∷ next ∷ args) bytes = arg ∷ extended (next ∷ args) bytes

-- old begins new
abbrev pub IsPrefix : Args → Args → Type 0
IsPrefix old new = (more : Args) × (new ≡ old ++ more)

-- new is old and then some arguments that a value gives
abbrev pub Appends : (Args → Type 0) → Args → Args → Type 0
Appends Gives old new = (more : Args) × (new ≡ old ++ more) × Gives more

-- a list and then one argument: what `{}` writes of a value, where that is known
abbrev pub AppendsShown : Option (List ℕ) → Args → Args → Type 0
AppendsShown output old new =
    (shown : List ℕ) × (new ≡ old ++ shown ∷ []) × IfSome output (λ text. shown ≡ text)

-- why a value isn't formatted: memory ran out, or it failed to format itself
abbrev pub IsUnformatted : RedisError → Type 0
IsUnformatted e = (e ≡ OutOfMemory) ⊎ (e ≡ General Client (codes "formatting failed") None)

-- why a value is refused: memory ran out, or it can't be written, which is the client's fault
abbrev pub IsRefusal : Type 0 → RedisError → Type 0
IsRefusal Refused e = (e ≡ OutOfMemory) ⊎ ((kind_of e ≡ Client) × Refused)

-- what writing a value leaves and answers: at Ok, arguments that it gives were appended, and it is
-- none that is refused; at Err, the old arguments come first
abbrev pub Writes : (Args → Type 0) → Type 0 → Args → Args → Result (Unit {0}) RedisError → Type 0
Writes Gives Refused old new (Ok _) = Appends Gives old new × (Refused → ⊥)
Writes Gives Refused old new (Err e) = IsPrefix old new × IsRefusal Refused e

-- how writing a value fails: the arguments before and after it, and what it answers
abbrev pub Failure : Type 1
Failure = Args → Args → Result (Unit {0}) RedisError → Type 0

-- nothing more is said of how it fails
abbrev pub AnyFailure : {X : Type 0} → X → Failure
AnyFailure _ _ _ _ = ⊤

-- an error that writing a value to some list answers
abbrev pub IsFailure : Failure → RedisError → Type 0
IsFailure Fails e = (old : Args) × (new : Args) × Fails old new (Err e)

-- what writing values leaves and answers that an iterator gives, one after another: it was asked
-- for these, which were written, and at Ok it has no more
pub record WritesItems {S X : Type 0} (steps : S → Option (Bor X) → S → Type 0) (start : S)
    (Gives : List X → Args → Type 0) (Refuses : List X → Type 0) (Fails : List X → Failure)
    (old new : Args) (result : Result (Unit {0}) RedisError) : Type 0 where
  pub items : List (Bor X)
  pub rest : S
  pub yielded : Yields steps start items rest
  pub whole : OnOk result ((end : S) × steps rest None end)
  pub written : Writes (Gives (map (λ item. item.now) items))
      (Refuses (map (λ item. item.now) items)) old new result
  pub failed : Fails (map (λ item. item.now) items) old new result

-- just this argument
abbrev pub IsOnly : List ℕ → Args → Type 0
IsOnly arg args = args ≡ arg ∷ []

-- a value gives one argument, of these bytes
abbrev pub GivesOne : {X : Type 0} → (X → List ℕ) → X → Args → Type 0
GivesOne bytes x args = IsOnly (bytes x) args

-- argument lists that the items give, one each, joined in order
pub record GivesEach {X : Type 0} (Gives : X → Args → Type 0) (items : List X)
    (args : Args) : Type 0 where
  pub lists : List Args
  pub each : AllZip Gives items lists
  pub joined : args ≡ flat_map (λ given. given) lists

-- items fail at one of them: those before it are none that is refused and were written whole, and
-- writing this one then left and answered that
pub record FailsAt {X : Type 0} (Gives : X → Args → Type 0) (Refuses : X → Type 0)
    (Fails : X → Failure) (items : List X) (old new : Args) (e : RedisError) : Type 0 where
  pub before : List X
  pub item : X
  pub after : List X
  pub in_order : items ≡ before ++ item ∷ after
  pub taken : Any Refuses before → ⊥
  pub reached : Args
  pub whole : Appends (GivesEach Gives before) old reached
  pub prefix : IsPrefix reached new
  pub refusal : IsRefusal (Refuses item) e
  pub failed : Fails item reached new (Err e)

abbrev pub FailsEach : {X : Type 0} → (X → Args → Type 0) → (X → Type 0) → (X → Failure) → List X
    → Failure
FailsEach Gives Refuses Fails items old new result =
    IfErr result (FailsAt Gives Refuses Fails items old new)

-- items fail at the last of them
abbrev pub FailsLast : {X : Type 0} → (X → Args → Type 0) → (X → Type 0) → (X → Failure) → List X
    → Failure
FailsLast Gives Refuses Fails items old new result = IfErr result (λ e.
    (at : FailsAt Gives Refuses Fails items old new e) × (at.after ≡ []))

-- no value is refused
abbrev pub Never : {X : Type 0} → X → Type 0
Never _ = ⊥

-- whether items make a single argument: there is one, and it answers at most 1
abbrev pub is_single : {X : Type 0} → (X → ℕ) → List X → Bool
is_single count [] = false
is_single count (item ∷ []) = nat_le (count item) 1
is_single count (item ∷ next ∷ items) = false

-- a rule for slices of a type: which arguments one gives, whether it is refused, and whether it
-- counts as a single argument
pub record SliceRule (X : Type 0) : Type 1 where
  pub Gives : List X → Args → Type 0
  pub Refuses : List X → Type 0
  pub is_single : List X → Bool

-- a slice of bytes is one argument, even an empty one
abbrev pub bytes_as_one : SliceRule ℕ
bytes_as_one = record { Gives = IsOnly; Refuses = Never; is_single = λ _. true }

-- how slices of a type are written: item by item, or by a rule of their own
pub data Slices (X : Type 0) : Type 1 where
  by_item : Slices X
  by_rule : SliceRule X → Slices X

abbrev pub GivesSlice : {X : Type 0} → Slices X → (X → Args → Type 0) → List X → Args → Type 0
GivesSlice by_item Gives items = GivesEach Gives items
GivesSlice (by_rule rule) Gives items = rule.Gives items

abbrev pub RefusesSlice : {X : Type 0} → Slices X → (X → Type 0) → List X → Type 0
RefusesSlice by_item Refuses items = Any Refuses items
RefusesSlice (by_rule rule) Refuses items = rule.Refuses items

abbrev pub FailsSlice : {X : Type 0} → Slices X → (X → Args → Type 0) → (X → Type 0)
    → (X → Failure) → List X → Failure
FailsSlice by_item Gives Refuses Fails items = FailsEach Gives Refuses Fails items
FailsSlice (by_rule rule) Gives Refuses Fails items = AnyFailure items

abbrev pub is_single_slice : {X : Type 0} → Slices X → (X → ℕ) → List X → Bool
is_single_slice by_item count items = is_single count items
is_single_slice (by_rule rule) count items = rule.is_single items

-- how many arguments a slice counts for: one where it counts as a single argument, as many as its
-- item where it has one, and else its length
abbrev pub count_of_items : {X : Type 0} → (X → ℕ) → List X → ℕ
count_of_items count [] = 0
count_of_items count (item ∷ []) = count item
count_of_items count (item ∷ next ∷ items) = length items + 2

abbrev pub count_of_slice : {X : Type 0} → Slices X → (X → ℕ) → List X → ℕ
count_of_slice slices count items =
    if is_single_slice slices count items then 1 else count_of_items count items

-- an optional value gives nothing, or what its item gives
abbrev pub GivesOption : {X : Type 0} → (X → Args → Type 0) → Option X → Args → Type 0
GivesOption Gives None args = args ≡ []
GivesOption Gives (Some item) args = Gives item args

abbrev pub RefusesOption : {X : Type 0} → (X → Type 0) → Option X → Type 0
RefusesOption Refuses None = ⊥
RefusesOption Refuses (Some item) = Refuses item

abbrev pub FailsOption : {X : Type 0} → (X → Failure) → Option X → Failure
FailsOption Fails None = λ _ _ _. ⊤
FailsOption Fails (Some item) = Fails item

abbrev pub count_of_option : {X : Type 0} → (X → ℕ) → Option X → ℕ
count_of_option count None = 0
count_of_option count (Some item) = count item

abbrev pub behaviour_of_option : {X : Type 0} → (X → NumericBehavior) → Option X → NumericBehavior
behaviour_of_option behaviour None = NonNumeric
behaviour_of_option behaviour (Some item) = behaviour item

-- a truth value's digit
abbrev pub digit_of : Bool → List ℕ
digit_of true = codes "1"
digit_of false = codes "0"

-- what one value gives, and then what another gives
pub record GivesBoth (First Second : Args → Type 0) (args : Args) : Type 0 where
  pub before : Args
  pub after : Args
  pub first : First before
  pub second : Second after
  pub joined : args ≡ before ++ after

-- one value was written whole, and then another fails
pub record FailsAfter (Gives : Args → Type 0) (Fails : Failure) (old new : Args)
    (e : RedisError) : Type 0 where
  pub reached : Args
  pub whole : Appends Gives old reached
  pub prefix : IsPrefix reached new
  pub failed : Fails reached new (Err e)

-- of two values the first fails, or the second after the first was written whole
abbrev pub FailsBoth : (Args → Type 0) → Failure → Failure → Failure
FailsBoth Gives Fails FailsNext old new result =
    IfErr result (λ e. Fails old new (Err e) ⊎ FailsAfter Gives FailsNext old new e)

-- a pair gives what its key gives, and then what its value gives
abbrev pub GivesPair : {K V : Type 0} → (K → Args → Type 0) → (V → Args → Type 0) → K × V → Args
    → Type 0
GivesPair GivesKey GivesValue pair = GivesBoth (GivesKey pair.0) (GivesValue pair.1)

-- a pair's key or value counts for more than one argument
abbrev pub IsWide : {K V : Type 0} → (K → ℕ) → (V → ℕ) → K × V → Type 0
IsWide count_key count_value pair = (1 < count_key pair.0) ⊎ (1 < count_value pair.1)

-- a pair's key or value is itself refused
abbrev pub RefusesPart : {K V : Type 0} → (K → Type 0) → (V → Type 0) → K × V → Type 0
RefusesPart RefusesKey RefusesValue pair = RefusesKey pair.0 ⊎ RefusesValue pair.1

-- a pair of a map can't be written
abbrev pub RefusesPair : {K V : Type 0} → (K → ℕ) → (V → ℕ) → (K → Type 0) → (V → Type 0) → K × V
    → Type 0
RefusesPair count_key count_value RefusesKey RefusesValue pair =
    IsWide count_key count_value pair ⊎ RefusesPart RefusesKey RefusesValue pair

-- it holds of the items in some order
pub record InSomeOrder {X : Type 0} (items : List X) (P : List X → Type 0) : Type 0 where
  pub order : List X
  pub permuted : IsPermutation items order
  pub holds : P order

-- what the items give, in some order
abbrev pub GivesInSomeOrder : {X : Type 0} → (X → Args → Type 0) → List X → Args → Type 0
GivesInSomeOrder Gives items args = InSomeOrder items (λ order. GivesEach Gives order args)

-- a wide pair is refused, and nothing of it is written
pub record RefusedAsWide (Wide : Type 0) (old new : Args) (e : RedisError) : Type 0 where
  pub wide : Wide
  pub error : e ≡ General Client (codes "map key or value is more than one argument") None
  pub unchanged : new ≡ old

-- a pair that is not wide fails as its key and value do
pub record FailsWithin (Wide : Type 0) (Fails : Failure) (old new : Args) (e : RedisError)
    : Type 0 where
  pub narrow : Wide → ⊥
  pub failed : Fails old new (Err e)

-- how a pair of a map fails
abbrev pub FailsPair : {K V : Type 0} → (K → ℕ) → (V → ℕ) → (K → Args → Type 0) → (K → Failure)
    → (V → Failure) → K × V → Failure
FailsPair count_key count_value Gives FailsKey FailsValue pair old new result = IfErr result (λ e.
    RefusedAsWide (IsWide count_key count_value pair) old new e
    ⊎ FailsWithin (IsWide count_key count_value pair)
    (FailsBoth (Gives pair.0) (FailsKey pair.0) (FailsValue pair.1)) old new e)

-- items fail at one of them, in some order
abbrev pub FailsInSomeOrder : {X : Type 0} → (X → Args → Type 0) → (X → Type 0) → (X → Failure)
    → List X → Failure
FailsInSomeOrder Gives Refuses Fails items old new result = IfErr result (λ e.
    InSomeOrder items (λ order. FailsAt Gives Refuses Fails order old new e))
