-- How many values a reply is, ls a list.
use Rattle.std.proofs.Common.{◌≡◌, ℕ, Bool, List, [], ◌∷◌, length, suc, refl, sym, ap, ◌∙◌, subst}
use Rattle.std.specs.List.{AllZip}
use Rattle.resp_value.specs.declared.value.Value.{Value, out-Value}
use Rattle.resp_value.specs.declared.value.Value.TheOpen.{Value-F}
use Rattle.resp_from.specs.Lists.{IsVec, OfVec, single_maps}
use Rattle.resp_from.specs.Rules.{OfList, byte_replies}
use Rattle.resp_from.proofs.Groups.{one_list_of_pieces}

as_many : {A B : Type 0} (R : A → B → Type 0) (ls : List A) (bs : List B) → AllZip R ls bs → length bs ≡ length ls
as_many R [] [] h = refl
as_many R [] (b ∷ bs) h = absurd h
as_many R (a ∷ ls) [] h = absurd h
as_many R (a ∷ ls) (b ∷ bs) h = ap suc (as_many R ls bs h.1)

both_as_many : {A B : Type 0} (R : A → B → Type 0) (ls : List A) (bs cs : List B) → AllZip R ls bs → AllZip R ls cs
    → length bs ≡ length cs
both_as_many R ls bs cs h k = as_many R ls bs h ∙ sym (as_many R ls cs k)

list_size : {X : Type 0} (n : ℕ) (Of : Value → X → Type 0) (replies : List Value) (xs ys : List X)
    → OfList n Of replies xs → OfList n Of replies ys → length xs ≡ length ys
list_size n Of replies xs ys h k = both_as_many Of h.pieces xs ys h.each
    (subst (λ pieces. AllZip Of pieces ys) (one_list_of_pieces n replies k.pieces h.pieces k.cut h.cut) k.each)

layer_size : {X : Type 0} (n : ℕ) (each : Bool) (Of : Value → X → Type 0) (layer : Value-F Value) (xs ys : List X)
    → IsVec n each Of layer xs → IsVec n each Of layer ys → length xs ≡ length ys
layer_size n each Of (Value-F.Array items) xs ys h k = list_size n Of items xs ys h k
layer_size n each Of (Value-F.Set items) xs ys h k = list_size n Of items xs ys h k
layer_size n each Of (Value-F.Map pairs) xs ys h k = both_as_many Of (single_maps pairs) xs ys h k
layer_size n each Of (Value-F.BulkString bytes) xs ys h k = both_as_many Of (byte_replies each bytes) xs ys h k
layer_size n each Of Value-F.Nil xs ys h k = ap length (h ∙ sym k)
layer_size n each Of _ xs ys h k = absurd h

-- a reply is lists of one length
pub one_size : {X : Type 0} (n : ℕ) (each : Bool) (Of : Value → X → Type 0) (reply : Value) (xs ys : List X)
    → OfVec n each Of reply xs → OfVec n each Of reply ys → length xs ≡ length ys
one_size n each Of reply xs ys h k = layer_size n each Of (out-Value reply) xs ys h k
