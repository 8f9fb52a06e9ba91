-- Lemmas: a test of replies is structural that goes layer by layer and tests each part.
use Rattle.std.specs.Prelude.{◌≡◌, Bool, true, false, ◌&&◌, List, map, nat_eq}
use Rattle.std.specs.Ordering.{int_eq}
use Rattle.std.specs.Cmp.Lexicographic.{pointwise}
use Rattle.std.proofs.Common.{sym, subst, ◌∙◌}
use mathlib.Core.Bool.{beq}
use denote.Hole.Carrier.{Values}
use denote.Enum.Declared.{Choice, values_one}
use denote.Enum.Compared.{Each, by}
use Rattle.resp_containers.specs.Equality.{IsStructural}
use Rattle.resp_containers.specs.lemmas.Equality.{SoundAt, same_choice, both, one_field, two_fields, same_bytes}
use Rattle.resp_containers.specs.lemmas.Equality.{same_integers, same_items, same_truths}
use Rattle.resp_errors.specs.declared.server_error.ServerError.{ServerError}
use Rattle.resp_value.specs.declared.names.PushKind.{PushKind}
use Rattle.resp_value.specs.declared.names.VerbatimFormat.{VerbatimFormat}
use Rattle.resp_value.specs.declared.value.Value.{Value, roll-Value, out-roll-Value, map-Value, ind-Value}
use Rattle.resp_value.specs.declared.value.Value.TheBlock.{split-Value, the_members, the_sigs, the_carrier}
use Rattle.resp_value.specs.declared.value.Value.TheOpen.{Value-F}
use Rattle.resp_value.specs.contracts.value.Value as value

-- a layer as a variant and its fields
abbrev parts_of : Value-F Value → Choice value.the_parts
parts_of = split-Value (Values the_members the_sigs the_carrier)

module _ (eq : Value → Value → Bool) where
  abbrev pair_eq : Value × Value → Value × Value → Bool
  pair_eq a b = eq a.0 b.0 && eq a.1 b.1

  -- a reply with the proof that only the same reply is called equal to it
  abbrev Proved : Type 0
  Proved = (v : Value) × ((b : Value) → eq v b ≡ true → v ≡ b)

  abbrev value_of : Proved → Value
  value_of p = p.0

  abbrev pair_of : Proved × Proved → Value × Value
  pair_of p = (p.0.0, p.1.0)

  same_pair : (p : Proved × Proved) (b : Value × Value) → pair_eq (pair_of p) b ≡ true → pair_of p ≡ b
  same_pair p b h =
      let parts = both (eq p.0.0 b.0) (eq p.1.0 b.1) h in
      λ i. (p.0.1 b.0 parts.0 i, p.1.1 b.1 parts.1 i)

  same_elements : (ps : List Proved) (bs : List Value) → pointwise eq (map value_of ps) bs ≡ true → map value_of ps ≡ bs
  same_elements = same_items eq value_of (λ p. p.1)

  same_entries : (ps : List (Proved × Proved)) (bs : List (Value × Value))
      → pointwise pair_eq (map pair_of ps) bs ≡ true → map pair_of ps ≡ bs
  same_entries = same_items pair_eq pair_of same_pair

  module _ (error_eq : ServerError → ServerError → Bool) (format_eq : VerbatimFormat → VerbatimFormat → Bool)
      (kind_eq : PushKind → PushKind → Bool) where
    -- for each variant, the test of its fields
    abbrev pub tests : Each Bool value.the_parts
    tests = (
      λ a b. true,
      (
        λ a b. true,
        (
          λ a b. int_eq a.0 b.0,
          (
            λ a b. pointwise nat_eq a.0 b.0,
            (
              λ a b. pointwise nat_eq a.0 b.0,
              (
                λ a b. pointwise eq a.0 b.0,
                (
                  λ a b. pointwise pair_eq a.0 b.0,
                  (
                    λ a b. eq a.0 b.0 && pointwise pair_eq a.1.0 b.1.0,
                    (
                      λ a b. error_eq a.0 b.0,
                      (
                        λ a b. beq a.0 b.0,
                        (
                          λ a b. pointwise nat_eq a.0 b.0,
                          (
                            λ a b. pointwise nat_eq a.0 b.0,
                            (
                              λ a b. pointwise eq a.0 b.0,
                              (
                                λ a b. format_eq a.0 b.0 && pointwise nat_eq a.1.0 b.1.0,
                                (
                                  λ a b. kind_eq a.0 b.0 && pointwise eq a.1.0 b.1.0,
                                  tt,
                                ),
                              ),
                            ),
                          ),
                        ),
                      ),
                    ),
                  ),
                ),
              ),
            ),
          ),
        ),
      ),
    )

    module _ (same_errors : IsStructural error_eq) (same_formats : IsStructural format_eq)
        (same_kinds : IsStructural kind_eq) where
      same_layer : (layer : Value-F Proved) → SoundAt value.the_parts tests
          (parts_of (map-Value Proved Value value_of layer))
      same_layer Value-F.Nil = tt
      same_layer Value-F.Okay = tt
      same_layer (Value-F.Int n) = one_field same_integers (n, tt)
      same_layer (Value-F.SimpleString text) = one_field same_bytes (text, tt)
      same_layer (Value-F.BulkString bytes) = one_field same_bytes (bytes, tt)
      same_layer (Value-F.Array ps) = λ v h i. (same_elements ps v.0 h i, tt)
      same_layer (Value-F.Map ps) = λ v h i. (same_entries ps v.0 h i, tt)
      same_layer (Value-F.Attribute p ps) = λ v h.
          let parts = both (eq p.0 v.0) (pointwise pair_eq (map pair_of ps) v.1.0) h in
          λ i. (p.1 v.0 parts.0 i, (same_entries ps v.1.0 parts.1 i, tt))
      same_layer (Value-F.ServerError error) = one_field same_errors (error, tt)
      same_layer (Value-F.Boolean truth) = one_field same_truths (truth, tt)
      same_layer (Value-F.Double text) = one_field same_bytes (text, tt)
      same_layer (Value-F.BigNumber bytes) = one_field same_bytes (bytes, tt)
      same_layer (Value-F.Set ps) = λ v h i. (same_elements ps v.0 h i, tt)
      same_layer (Value-F.VerbatimString format text) = two_fields same_formats same_bytes (format, (text, tt))
      same_layer (Value-F.Push kind ps) = λ v h.
          let parts = both (kind_eq kind v.0) (pointwise eq (map value_of ps) v.1.0) h in
          λ i. (same_kinds kind v.0 parts.0 i, (same_elements ps v.1.0 parts.1 i, tt))

      module _ (unfolds : (a b : Value) → eq a b
          ≡ by false false value.the_parts tests (value.as_values a) (value.as_values b)) where
        same_value : (x : Value-F Value) (layer : Value-F Proved) → map-Value Proved Value value_of layer ≡ x
            → (b : Value) → eq (roll-Value x) b ≡ true → roll-Value x ≡ b
        same_value x layer e b h =
            let a = roll-Value x in
            let at = subst (λ l. SoundAt value.the_parts tests (parts_of l)) (e ∙ sym (out-roll-Value x))
            (same_layer layer) in
            values_one value.enum a b
            (same_choice value.the_parts tests (value.as_values a) (value.as_values b) at (sym (unfolds a b) ∙ h))

        pub same_values : IsStructural eq
        same_values = ind-Value (λ a. (b : Value) → eq a b ≡ true → a ≡ b) same_value
