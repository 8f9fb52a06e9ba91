-- Options of single commands, as arguments (Redis commands, "SET", "HSETEX", "EXPIRE").
use Rattle.std.specs.Prelude.{◌≡◌, ℕ, ◌==◌, ◌&&◌, Bool, List, [], ◌∷◌, codes, length}
use Rattle.std.specs.Char.{is_ascii_hexdigit}
use Rattle.std.specs.Fmt.{decimal}
use Rattle.std.specs.List.{list_all}
use Rattle.resp_args.specs.Args.{Args}
use Rattle.resp_args.specs.declared.options.SetExpiry.{SetExpiry}
use Rattle.resp_args.specs.declared.options.SetExpiry.TheVariants as set
use Rattle.resp_args.specs.declared.options.ExistenceCheck.{ExistenceCheck}
use Rattle.resp_args.specs.declared.options.ExistenceCheck.TheVariants as key
use Rattle.resp_args.specs.declared.options.FieldExistenceCheck.{FieldExistenceCheck}
use Rattle.resp_args.specs.declared.options.FieldExistenceCheck.TheVariants as field
use Rattle.resp_args.specs.declared.options.ExpireOption.{ExpireOption}
use Rattle.resp_args.specs.declared.options.ExpireOption.TheVariants as expire

-- a word, and then a number
abbrev pub word_and_number : List ℕ → ℕ → Args
word_and_number word n = word ∷ decimal n ∷ []

abbrev pub args_of_set_expiry : SetExpiry → Args
args_of_set_expiry (set.EX seconds) = word_and_number (codes "EX") seconds
args_of_set_expiry (set.PX milliseconds) = word_and_number (codes "PX") milliseconds
args_of_set_expiry (set.EXAT time) = word_and_number (codes "EXAT") time
args_of_set_expiry (set.PXAT time) = word_and_number (codes "PXAT") time
args_of_set_expiry set.KEEPTTL = codes "KEEPTTL" ∷ []

abbrev pub args_of_existence_check : ExistenceCheck → Args
args_of_existence_check key.NX = codes "NX" ∷ []
args_of_existence_check key.XX = codes "XX" ∷ []

abbrev pub args_of_field_existence_check : FieldExistenceCheck → Args
args_of_field_existence_check field.FNX = codes "FNX" ∷ []
args_of_field_existence_check field.FXX = codes "FXX" ∷ []

abbrev pub args_of_expire_option : ExpireOption → Args
args_of_expire_option expire.NONE = []
args_of_expire_option expire.NX = codes "NX" ∷ []
args_of_expire_option expire.XX = codes "XX" ∷ []
args_of_expire_option expire.GT = codes "GT" ∷ []
args_of_expire_option expire.LT = codes "LT" ∷ []

-- an option gives these arguments
abbrev pub GivesOf : {X : Type 0} → (X → Args) → X → Args → Type 0
GivesOf args_of x args = args ≡ args_of x

-- sixteen hexadecimal digits
abbrev pub is_digest : List ℕ → Bool
is_digest text = (length text == 16) && list_all is_ascii_hexdigit text
