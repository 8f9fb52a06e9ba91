-- Rows of names that are found without a hash.
use Rattle.std.proofs.Common.{◌≡◌, ℕ, true, List, [], ◌∷◌, Some, option_and_then, slice_get, refl, sym, ap, ◌∙◌}
use Rattle.std.specs.List.{find}
use Rattle.std.specs.Str.{str_eq_ignore_ascii_case}
use Rattle.resp_routing.specs.Commands.{command_in, is_named, of_subcommand, unpadded}
use Rattle.resp_routing.specs.Places.{are_in_place, hash_on, place_by, place_of}
use Rattle.resp_routing.specs.declared.commands.CommandInfo.{CommandInfo}
use Rattle.resp_routing.specs.declared.commands.KeySpec.{KeySpec}
use Rattle.resp_routing.specs.declared.commands.Keys.TheVariants.{One}
use Rattle.resp_routing.specs.declared.table.TheConstants.{COMMANDS}
use Rattle.resp_routing.proofs.InPlace.{row_here, row_is}

pub in_place : are_in_place 0 COMMANDS ≡ true
unfolding are_in_place hash_on place_by unpadded
in_place = refl

-- the row at this place, which has the name
row_of : (table : List CommandInfo) (name : List ℕ) (place : ℕ) (row : CommandInfo)
    → are_in_place 0 table ≡ true → slice_get table place ≡ Some row
    → place_of (unpadded row.name) (unpadded row.subcommand) ≡ place → is_named name [] row ≡ true
    → Some row ≡ find (is_named name []) table
row_of table name place row held there at named =
    row_is name [] table place row held (sym at ∙ row_here name [] row named) there named

-- a command is told by its name alone where its keys are those of one specification
pub command_is : (table : List CommandInfo) (name word : List ℕ) (place : ℕ) (row : CommandInfo) (spec : KeySpec)
    → are_in_place 0 table ≡ true → slice_get table place ≡ Some row
    → place_of (unpadded row.name) (unpadded row.subcommand) ≡ place → unpadded row.subcommand ≡ []
    → str_eq_ignore_ascii_case (unpadded row.name) name ≡ true → row.keys ≡ One spec
    → Some row ≡ command_in table (name ∷ word ∷ [])
unfolding command_in
command_is table name word place row spec held there at none same one =
    let named : is_named name [] row ≡ true = rw (same, none) refl in
    sym (ap (option_and_then (λ r. of_subcommand table name (word ∷ []) r r.keys))
    (sym (row_of table name place row held there at named))
    ∙ ap (of_subcommand table name (word ∷ []) row) one)
