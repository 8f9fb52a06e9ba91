-- The value of an aggregate that a flat reply holds whole.
use Rattle.std.proofs.Common.{◌≡◌, ℕ, suc, ◌-◌, ◌<◌, true, List, [], ◌∷◌, refl, ◌++◌, length, get_or, take, drop, ap}
use Rattle.std.proofs.Common.{sym, ◌∙◌, subst, arith, Option, Some, Ok}
use Rattle.std.specs.Option.{option_to_list, unwrap_or}
use Rattle.std.proofs.lemmas.List.{length_push}
use Rattle.resp_value.specs.declared.value.Value.{Value}
use Rattle.resp_flat.specs.declared.flat_reply.FlatReply.{FlatReply}
use Rattle.resp_flat.specs.FlatReplies.{tokens_of, text_of}
use Rattle.resp_parse.specs.declared.shape.ElementsKind.{ElementsKind}
use Rattle.resp_parse.specs.declared.shape.ElementsKind.TheVariants as elements_kind
use Rattle.resp_parse.specs.declared.open_aggregates.OpenAggregate.{OpenAggregate}
use Rattle.resp_parse.specs.Shapes.{elements_value, made_of}
use Rattle.resp_parse.specs.OpenAggregates.{with_element}
use Rattle.resp_parse.specs.FlatBuilders.{tokens_in, places_of, HoldsFlat, HoldsAll, names_kind, with_name}
use Rattle.resp_parse.proofs.FlatBuilding.{flat-all, flat-closed}
use Rattle.resp_parse.proofs.FlatPushes.{push-closed}

-- the place of the innermost aggregate is taken from those of the open ones
popped : (opens before places : List ℕ) (place at n : ℕ) (o : Option ℕ) → opens ≡ places ++ (place ∷ []) → n
    ≡ length opens → ((d : ℕ) → 0 < n → o ≡ Some (get_or opens (n - 1) d)) → opens ≡ before ++ option_to_list o → at
    ≡ unwrap_or o 0 →
    opens ≡ before ++ (at ∷ [])
popped opens before places place at n o p l last items e =
    let k = length_push places place in
    let some : o ≡ Some (get_or opens (n - 1) 0) = last 0 (omega (arith, k, l, ap length p)) in
    let is : at ≡ get_or opens (n - 1) 0 = e ∙ ap (λ x. unwrap_or x 0) some in
    items ∙ ap (λ x. before ++ option_to_list x) some ∙ ap (λ (m : ℕ). before ++ (m ∷ [])) (sym is)

-- the last element of an aggregate was whole, which is then closed
pub closing : (r : FlatReply) (opens before : List ℕ) (f g : OpenAggregate) (fs : List OpenAggregate) (v : Value)
    (at n : ℕ) (o : Option ℕ) → HoldsFlat r opens (f ∷ fs) (tokens_of v) (text_of v) → f.after ≡ 0 → g
    ≡ with_element f v →
    n ≡ length opens → ((d : ℕ) → 0 < n → o ≡ Some (get_or opens (n - 1) d)) → opens ≡ before ++ option_to_list o → at
    ≡ unwrap_or o 0 → HoldsAll r before at fs g
closing r opens before f g fs v at n o h a e l last items i =
    subst (λ (k : OpenAggregate). HoldsAll r before at fs k) (sym e)
    (flat-all r opens f fs v h before at
    (popped opens before (places_of fs) (length (tokens_in fs)) at n o h.places l last items i) a)

-- a flat reply holds the value of an aggregate that is closed
abbrev pub Closed : FlatReply → List ℕ → List OpenAggregate → OpenAggregate → Type 0
Closed r opens fs f = (u : Value) ×
    ((elements_value f.kind f.seen ≡ Ok u) × HoldsFlat r opens fs (tokens_of u) (text_of u))

made-as : (f : OpenAggregate) (u : Value) → elements_value f.kind f.seen ≡ Ok u → made_of f.kind f.seen ≡ u
made-as f u e = rw (e, made_of) refl

pub closed-value : (r : FlatReply) (opens : List ℕ) (fs : List OpenAggregate) (f : OpenAggregate) → Closed r opens fs f
    → elements_value f.kind f.seen ≡ Ok (made_of f.kind f.seen)
closed-value r opens fs f c = c.1.0 ∙ ap Ok (sym (made-as f c.0 c.1.0))

pub closed-held : (r : FlatReply) (opens : List ℕ) (fs : List OpenAggregate) (f : OpenAggregate) → Closed r opens fs f
    → HoldsFlat r opens fs (tokens_of (made_of f.kind f.seen)) (text_of (made_of f.kind f.seen))
closed-held r opens fs f c = subst (λ (u : Value). HoldsFlat r opens fs (tokens_of u) (text_of u))
    (sym (made-as f c.0 c.1.0)) c.1.1

pub closed-other : (r : FlatReply) (opens : List ℕ) (at : ℕ) (fs : List OpenAggregate) (f : OpenAggregate)
    → HoldsAll r opens at fs f → (f.kind ≡ elements_kind.Push → ⊥) → Closed r opens fs f
closed-other r opens at fs f h none = flat-closed r opens at fs f h none

pub closed-push : (r s : FlatReply) (opens : List ℕ) (at : ℕ) (fs : List OpenAggregate) (f : OpenAggregate)
    → HoldsAll r opens at fs f → f.kind ≡ elements_kind.Push → names_kind (drop (suc at) r.tokens.items) r.text.items
    ≡ true →
    s.tokens.items ≡ take (suc at) r.tokens.items ++ with_name (drop (suc at) r.tokens.items) → s.text.items
    ≡ r.text.items → Closed s opens fs f
closed-push r s opens at fs f h k n t x =
    let c = push-closed r opens at fs f h s k t x n in
    (c.0, (subst (λ (j : ElementsKind). elements_value j f.seen ≡ Ok c.0) (sym k) c.1.0, c.1.1))
