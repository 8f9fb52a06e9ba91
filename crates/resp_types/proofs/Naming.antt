-- The entries of a map as fields: what a name finds and takes out.
use Rattle.std.proofs.Common.{◌≡◌, ℕ, Bool, true, false, cond, List, [], ◌∷◌, Some, Global, String, string_bytes, refl}
use Rattle.std.proofs.Common.{ap, ◌∙◌}
use Rattle.std.proofs.lemmas.Map.Text.{is_eq-slice_cmp}
use Rattle.std.specs.BTreeMap.{is_at}
use Rattle.std.specs.Cmp.Lexicographic.{slice_cmp}
use Rattle.std.specs.Map.{lookup, remove_entry}
use Rattle.std.specs.Ordering.{nat_cmp}
use Rattle.std.specs.Str.{bytes_eq}
use Rattle.resp_value.specs.declared.value.Value.{Value}
use Rattle.resp_types.specs.Fields.{named, value_of, without}

-- whether a key has this name, as a map asks
abbrev is_named : List ℕ → String Global → Bool
is_named name key = is_at (λ k. slice_cmp nat_cmp name (string_bytes k)) key

same_test : (name : List ℕ) (key : String Global)
    → is_named name key ≡ bytes_eq name (string_bytes key)
same_test name key = is_eq-slice_cmp name (string_bytes key)

pub lookup-named : (name : List ℕ) (es : List (String Global × Value))
    → lookup (is_at (λ k. slice_cmp nat_cmp name (string_bytes k))) es ≡ value_of name (named es)
lookup-named name [] = refl
lookup-named name (e ∷ es) =
    ap (λ test. cond test (Some e.1) (lookup (is_named name) es)) (same_test name e.0)
    ∙ ap (cond (bytes_eq name (string_bytes e.0)) (Some e.1)) (lookup-named name es)

named-cond : (test : Bool) (es ds : List (String Global × Value))
    → named (cond test es ds) ≡ cond test (named es) (named ds)
named-cond true es ds = refl
named-cond false es ds = refl

pub named-remove_entry : (name : List ℕ) (es : List (String Global × Value))
    → named (remove_entry (is_at (λ k. slice_cmp nat_cmp name (string_bytes k))) es)
    ≡ without name (named es)
named-remove_entry name [] = refl
named-remove_entry name (e ∷ es) =
    let entry : List ℕ × Value = (string_bytes e.0, e.1) in
    named-cond (is_named name e.0) es (e ∷ remove_entry (is_named name) es)
    ∙ (ap (λ test. cond test (named es) (entry ∷ named (remove_entry (is_named name) es)))
    (same_test name e.0)
    ∙ ap (λ rest. cond (bytes_eq name (string_bytes e.0)) (named es) (entry ∷ rest))
    (named-remove_entry name es))
