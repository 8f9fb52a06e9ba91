-- Lemmas: a reply is one list of a type at most, where it is one value of the items' at most.
use Rattle.std.specs.Prelude.{◌≡◌, ℕ, Bool, List, [], ◌∷◌, map}
use Rattle.std.specs.List.{AllZip}
use Rattle.std.proofs.Common.{refl, sym, ap, ◌∙◌, subst}
use Rattle.resp_value.specs.declared.value.Value.{Value, out-Value}
use Rattle.resp_value.specs.declared.value.Value.TheOpen.{Value-F}
use Rattle.resp_from.specs.Lists.{IsVec, OfVec, single_maps}
use Rattle.resp_from.specs.Rules.{OfList, byte_replies}
use Rattle.resp_from.proofs.Groups.{one_list_of_pieces}
use Rattle.resp_types.specs.OneValue.{IsSingleValued}

-- the items of two lists, place by place, look the same
abbrev pub AreAlike : {X S : Type 0} → (X → S) → List X → List X → Type 0
AreAlike seen xs ys = AllZip (λ x y. seen x ≡ seen y) xs ys

pub alike_lists : {X S : Type 0} (seen : X → S) (xs ys : List X) → AreAlike seen xs ys
    → map seen xs ≡ map seen ys
alike_lists seen [] [] h = refl
alike_lists seen [] (y ∷ ys) h = absurd h
alike_lists seen (x ∷ xs) [] h = absurd h
alike_lists seen (x ∷ xs) (y ∷ ys) h = λ i. h.0 i ∷ alike_lists seen xs ys h.1 i

-- two lists that stand for one, item by item
pub alike_partners : {A X S : Type 0} (Of : A → X → Type 0) (seen : X → S)
    → ((a : A) (x y : X) → Of a x → Of a y → seen x ≡ seen y) → (ls : List A) (xs ys : List X)
    → AllZip Of ls xs → AllZip Of ls ys → AreAlike seen xs ys
alike_partners Of seen f [] [] [] h k = tt
alike_partners Of seen f [] [] (y ∷ ys) h k = absurd k
alike_partners Of seen f [] (x ∷ xs) ys h k = absurd h
alike_partners Of seen f (a ∷ ls) [] ys h k = absurd h
alike_partners Of seen f (a ∷ ls) (x ∷ xs) [] h k = absurd k
alike_partners Of seen f (a ∷ ls) (x ∷ xs) (y ∷ ys) h k =
    (f a x y h.0 k.0, alike_partners Of seen f ls xs ys h.1 k.1)

module _ {X S : Type 0} (Of : Value → X → Type 0) (seen : X → S)
    (single : IsSingleValued Of seen) where
  one_each : (replies : List Value) (xs ys : List X) → AllZip Of replies xs → AllZip Of replies ys
      → map seen xs ≡ map seen ys
  one_each replies xs ys h k =
      alike_lists seen xs ys (alike_partners Of seen single replies xs ys h k)

  one_by_pieces : (n : ℕ) (replies : List Value) (xs ys : List X) → OfList n Of replies xs
      → OfList n Of replies ys → map seen xs ≡ map seen ys
  one_by_pieces n replies xs ys h k =
      let same = one_list_of_pieces n replies k.pieces h.pieces k.cut h.cut in
      one_each h.pieces xs ys h.each (subst (λ pieces. AllZip Of pieces ys) same k.each)

  one_by_layer : (n : ℕ) (each : Bool) (layer : Value-F Value) (xs ys : List X)
      → IsVec n each Of layer xs → IsVec n each Of layer ys → map seen xs ≡ map seen ys
  one_by_layer n each (Value-F.Array items) xs ys h k = one_by_pieces n items xs ys h k
  one_by_layer n each (Value-F.Set items) xs ys h k = one_by_pieces n items xs ys h k
  one_by_layer n each (Value-F.Map pairs) xs ys h k = one_each (single_maps pairs) xs ys h k
  one_by_layer n each (Value-F.BulkString bytes) xs ys h k =
      one_each (byte_replies each bytes) xs ys h k
  one_by_layer n each Value-F.Nil xs ys h k = ap (map seen) (h ∙ sym k)
  one_by_layer n each _ xs ys h k = absurd h

  pub one_list : (n : ℕ) (each : Bool) → IsSingleValued (OfVec n each Of) (map seen)
  one_list n each reply xs ys h k = one_by_layer n each (out-Value reply) xs ys h k
