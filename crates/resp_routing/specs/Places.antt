-- Where the table has the row of a name.
use Rattle.std.specs.Prelude.{ℕ, ◌+◌, ◌*◌, ◌/◌, ◌%◌, ◌^◌, Bool, true, ◌&&◌, ◌==◌, List, [], ◌∷◌, slice_index}
use Rattle.resp_routing.specs.Commands.{unpadded}
use Rattle.resp_routing.specs.declared.commands.CommandInfo.{CommandInfo}
use Rattle.resp_routing.specs.declared.places.TheConstants.{SHIFTS, PLACES}

-- a hash of a text, after that of another
unfoldable pub hash_on : ℕ → List ℕ → ℕ
hash_on hash [] = hash
hash_on hash (b ∷ bs) = hash_on ((hash * 17 % 2 ^ 64 + b % 32) % 2 ^ 64) bs

unfoldable pub place_by : ℕ → ℕ
place_by hash = slice_index PLACES ((hash / 64 + slice_index SHIFTS (hash % 64)) % 512)

abbrev pub place_of : List ℕ → List ℕ → ℕ
place_of name subcommand = place_by (hash_on (hash_on 0 name) subcommand)

-- these rows, from this place on, are where their names say
unfoldable pub are_in_place : ℕ → List CommandInfo → Bool
are_in_place place [] = true
are_in_place place (row ∷ rows) =
    (place_of (unpadded row.name) (unpadded row.subcommand) == place) && are_in_place (place + 1) rows
