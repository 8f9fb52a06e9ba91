-- Requests of arguments whose bytes stand one after another.
use Rattle.std.specs.Prelude.{◌≡◌, ◌+◌, ◌<◌, ℕ, Bool, true, false, List, [], ◌∷◌, length, take, drop}
use Rattle.std.specs.List.{flat_map}
use Rattle.resp_args.specs.Args.{Args}
use Rattle.resp_command.specs.Packed.{packed}
use Rattle.resp_pipeline.specs.Pipeline.{as_transaction}

-- the first of these sizes, and so on
abbrev pub cuts : {A : Type 0} → List ℕ → List A → List (List A)
cuts [] xs = []
cuts (n ∷ ns) xs = take n xs ∷ cuts ns (drop n xs)

-- how long the pieces are together
abbrev pub total : List ℕ → ℕ
total [] = 0
total (n ∷ ns) = n + total ns

-- the bytes that send commands of these arguments, in a transaction or not
abbrev pub request_of : Bool → List Args → List ℕ
request_of true lists = flat_map packed (as_transaction lists)
request_of false lists = flat_map packed lists

-- the sizes are those of all bytes, and the counts those of all sizes
pub record FitBoth (counts sizes args : List ℕ) : Type 0 where
  pub args_fit : total sizes ≡ length args
  pub sizes_fit : total counts ≡ length sizes

-- why there is no request: memory ran out, or the sizes aren't those of the bytes
pub data Refuses (Fits : Type 0) (status : ℕ) : Type 0 where
  memory : status ≡ 3 → Refuses Fits status
  range : status ≡ 7 → (Fits → ⊥) → Refuses Fits status

-- the bytes stand at the start of the buffer, and nothing else in it changed; or it has too little
-- room, and is as it was
pub data Given (bytes old new : List ℕ) (size status : ℕ) : Type 0 where
  done : status ≡ 1 → size ≡ length bytes → take size new ≡ bytes → drop size new ≡ drop size old →
      Given bytes old new size status
  room : status ≡ 6 → size ≡ length bytes → length old < size → new ≡ old →
      Given bytes old new size status

-- the request was given; or the buffer is as it was
pub data PackedInto (Fits : Type 0) (request old new : List ℕ) (size status : ℕ) : Type 0 where
  given : Fits → Given request old new size status → PackedInto Fits request old new size status
  refused : Refuses Fits status → size ≡ 0 → new ≡ old → PackedInto Fits request old new size status
