-- The grammar reads packed commands as the arrays of their arguments, and as nothing else.
use Rattle.std.specs.Prelude.{◌≡◌, ℕ, ◌<◌, ◌^◌, List, [], ◌∷◌, length, map}
use Rattle.std.specs.List.{flat_map}
use Rattle.resp_value.specs.declared.value.Value.{Value}
use Rattle.resp_parse.specs.Reads.{Reads}
use Rattle.resp_args.specs.Args.{Args}
use Rattle.resp_command.specs.Packed.{packed, as_value}

-- the bytes read as these values, and as no others
pub record ReadsOnly (b : List ℕ) (vs : List Value) : Type 0 where
  pub reads : Reads 100 b vs
  pub only : (ws : List Value) → Reads 100 b ws → ws ≡ vs

-- a command of up to 2^63 - 1 bytes spells one array
abbrev pub LawOfPacking : Args → Type 0
LawOfPacking args =
    length (packed args) < 2 ^ 63 → ReadsOnly (packed args) (as_value args ∷ [])

-- commands, joined, of up to 2^63 - 1 bytes in all spell their arrays in order
abbrev pub LawOfRequests : List Args → Type 0
LawOfRequests lists =
    length (flat_map packed lists) < 2 ^ 63 → ReadsOnly (flat_map packed lists) (map as_value lists)
