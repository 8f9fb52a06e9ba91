-- Commands whose one key is their first argument after the name.
use Rattle.std.proofs.Common.{◌≡◌, ℕ, Bool, true, false, not, ◌||◌, nat_le, List, [], ◌∷◌, map, length, Option, None, Some, IfSome}
use Rattle.std.proofs.Common.{refl, sym, ap, ◌∙◌, arith, le-leb}
use Rattle.std.proofs.lemmas.List.{length-map}
use Rattle.resp_args.specs.Args.{Args}
use Rattle.resp_routing.specs.Commands.{command_of}
use Rattle.resp_routing.specs.Keys.{fits, has_keys, keys_in}
use Rattle.resp_routing.specs.Routes.{IsFirstKey, IsFirstOf, IsRoute, hashed_in}
use Rattle.resp_routing.specs.Slots.{IsSlot}
use Rattle.resp_routing.specs.declared.commands.BeginSearch.TheVariants.{Index}
use Rattle.resp_routing.specs.declared.commands.CommandInfo.{CommandInfo}
use Rattle.resp_routing.specs.declared.commands.FindKeys.TheVariants.{First}
use Rattle.resp_routing.specs.declared.commands.KeySpec.{KeySpec}
use Rattle.resp_routing.specs.declared.commands.Keys.TheVariants.{One}
use Rattle.resp_routing.specs.declared.routes.Route.TheVariants.{Slot}
use Rattle.resp_routing.specs.declared.table.TheConstants.{COMMANDS}
use Rattle.resp_routing.proofs.FirstWords.{of_two}
use Rattle.resp_routing.proofs.OneSlot.{one_in_slot}

pub of_spec : (spec : KeySpec) → spec.begin ≡ Index 1 → spec.find ≡ First 1 → IsFirstKey (One spec)
unfolding keys_in hashed_in
of_spec spec begins finds name key rest =
    let some : nat_le 1 (length (key ∷ rest)) ≡ true = le-leb 1 (length (key ∷ rest)) (omega arith) in
    rw (begins, finds, some) refl

pub to_slot : (name key : List ℕ) (rest : Args) (row : CommandInfo) (slot : ℕ)
    → command_of (name ∷ key ∷ rest) ≡ Some row → fits row (length (name ∷ key ∷ rest)) ≡ true
    → IsFirstKey row.keys → IsSlot key slot → IsRoute (name ∷ key ∷ rest) (Slot slot)
to_slot name key rest row slot found fitting first is =
    rw (found, fitting) (rw (first name key rest) (one_in_slot key slot is))

or_true : (x : Bool) → (x || true) ≡ true
or_true true = refl
or_true false = refl

-- the same of arguments that were taken from a list one after the other
pub after_two : {X : Type 0} → (f : X → List ℕ) (all left more : List X) (name key : List ℕ) (row : CommandInfo) (count : ℕ)
    (found : Option ℕ) → map f all ≡ name ∷ map f left → map f left ≡ key ∷ map f more → count ≡ length all
    → Some row ≡ command_of (name ∷ key ∷ []) → IfSome found (λ slot. IsFirstOf row count key slot)
    → IfSome found (λ slot. IsRoute (map f all) (Slot slot))
after_two f all left more name key row count None one two long known held = held
after_two f all left more name key row count (Some slot) one two long known held =
    let whole : map f all ≡ name ∷ key ∷ map f more = one ∙ ap (λ rest. name ∷ rest) two in
    let counted : count ≡ length (name ∷ key ∷ map f more) = long ∙ sym (length-map all f) ∙ ap length whole in
    let of_row : command_of (name ∷ key ∷ map f more) ≡ Some row = of_two COMMANDS name key (map f more) ∙ sym known in
    let fitting : fits row count ≡ true = rw held.taken (or_true (not (has_keys row.keys))) in
    rw whole (to_slot name key (map f more) row slot of_row (rw counted at fitting) held.first held.is_slot)
