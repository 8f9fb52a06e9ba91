-- The bytes of a transaction.
use Rattle.std.proofs.Common.{◌≡◌, ℕ, List, [], ◌∷◌, ◌++◌, codes, refl, ◌∙◌, append_assoc, append-nil}
use Rattle.std.proofs.lemmas.List.Concat.{flat_map-append}
use Rattle.std.specs.Fmt.{digits}
use Rattle.std.specs.List.{flat_map}
use Rattle.resp_args.specs.Args.{Args}
use Rattle.resp_command.specs.Packed.{packed}
use Rattle.resp_pipeline.specs.Pipeline.{as_transaction}

-- `*1`, CR LF, `$5`, CR LF, `MULTI`, CR LF
pub packed_multi : 42 ∷ 49 ∷ 13 ∷ 10 ∷ 36 ∷ 53 ∷ 13 ∷ 10 ∷ 77 ∷ 85 ∷ 76 ∷ 84 ∷ 73 ∷ 13 ∷ 10 ∷ []
    ≡ packed (codes "MULTI" ∷ [])
unfolding digits
packed_multi = refl

-- `*1`, CR LF, `$4`, CR LF, `EXEC`, CR LF
pub packed_exec : 42 ∷ 49 ∷ 13 ∷ 10 ∷ 36 ∷ 52 ∷ 13 ∷ 10 ∷ 69 ∷ 88 ∷ 69 ∷ 67 ∷ 13 ∷ 10 ∷ [] ≡ packed (codes "EXEC" ∷ [])
unfolding digits
packed_exec = refl

-- MULTI, the commands and EXEC, one after another
pub transaction_bytes : (multi exec : List ℕ) (lists : List Args) → multi ≡ packed (codes "MULTI" ∷ [])
    → exec ≡ packed (codes "EXEC" ∷ []) → (multi ++ flat_map packed lists) ++ exec ≡ flat_map packed
    (as_transaction lists)
transaction_bytes multi exec lists e f =
    let all = flat_map-append packed lists ((codes "EXEC" ∷ []) ∷ []) in
    let last = append-nil (packed (codes "EXEC" ∷ [])) in
    append_assoc multi (flat_map packed lists) exec ∙ cc
