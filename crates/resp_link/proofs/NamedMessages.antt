-- Which values are messages, and which are none.
use Rattle.std.proofs.Common.{◌≡◌, ◌∙◌, ap, sym, refl, true, false, Bool, List, [], ◌∷◌, ℕ, Some, None, Option, rules}
use Rattle.std.proofs.Common.{MatchOption}
use Rattle.resp_value.specs.declared.value.Value as value
use Rattle.resp_value.specs.declared.value.Value.{Value, Array, BulkString, Push, out-Value, the_lemmas}
use Rattle.resp_value.specs.declared.value.Value.TheOpen.{Value-F}
use Rattle.resp_value.specs.declared.value.PushInfo.{PushInfo}
use Rattle.resp_errors.specs.declared.server_error.ServerError.{ServerError}
use Rattle.resp_value.specs.declared.names.PushKind.{PushKind}
use Rattle.resp_value.specs.declared.names.PushKind.TheVariants as kinds
use Rattle.resp_value.specs.Names.{name_of_push_kind, kind_named}
use Rattle.resp_command.specs.NextPush.{is_message_kind, NamesMessage, NamesNone, IsArrayOf, IsMessage, IsNoMessage}
use Rattle.resp_command.specs.NextPush.{IsReply}
use Rattle.resp_command.specs.NextPush as next

-- ---- names of messages

named : (k : PushKind) → is_message_kind k ≡ true → kind_named (name_of_push_kind k) ≡ k
unfolding kind_named
named kinds.Disconnection h = absurd (cc)
named (kinds.Other name) h = absurd (cc)
named kinds.Invalidate h = absurd (cc)
named kinds.Message h = refl
named kinds.PMessage h = refl
named kinds.SMessage h = refl
named kinds.Unsubscribe h = refl
named kinds.PUnsubscribe h = refl
named kinds.SUnsubscribe h = refl
named kinds.Subscribe h = refl
named kinds.PSubscribe h = refl
named kinds.SSubscribe h = refl

-- ---- the parts of a value

abbrev text_of : Value → Option (List ℕ)
text_of v = elim (out-Value v) [ Value-F.BulkString bytes ↦ Some bytes | _ ↦ None ]

abbrev elements_of : Value → Option (List Value)
elements_of v = elim (out-Value v) [ Value-F.Array elements ↦ Some elements | _ ↦ None ]

abbrev is_push : Value → Bool
is_push v = elim (out-Value v) [ Value-F.Push kind payload ↦ true | _ ↦ false ]

abbrev is_error : Value → Bool
is_error v = elim (out-Value v) [ Value-F.ServerError error ↦ true | _ ↦ false ]

text : (bytes : List ℕ) → text_of (BulkString bytes) ≡ Some bytes
text bytes = search (rules, the_lemmas)

elements : (vs : List Value) → elements_of (Array vs) ≡ Some vs
elements vs = search (rules, the_lemmas)

no_push : (vs : List Value) → is_push (Array vs) ≡ false
no_push vs = search (rules, the_lemmas)

pushed : (k : PushKind) (vs : List Value) → is_push (Push k vs) ≡ true
pushed k vs = search (rules, the_lemmas)

no_error : (vs : List Value) → is_error (Array vs) ≡ false
no_error vs = search (rules, the_lemmas)

failed : (e : ServerError) → is_error (value.ServerError e) ≡ true
failed e = search (rules, the_lemmas)

-- ---- what names no message

-- another kind has the name
pub other_kind : (bytes : List ℕ) → is_message_kind (kind_named bytes) ≡ false → NamesNone (BulkString bytes)
other_kind bytes h kind names =
    let e : Some bytes ≡ Some (name_of_push_kind kind) = sym (text bytes) ∙ ap text_of names.name ∙ text _ in
    let same : bytes ≡ name_of_push_kind kind = cc in
    let is : kind_named bytes ≡ kind = ap kind_named same ∙ named kind names.is_kind in
    let none : true ≡ false = sym names.is_kind ∙ ap is_message_kind (sym is) ∙ h in cc

-- bytes that are the name of a kind: one of messages, or another
pub kind_or_none : (found : Option PushKind) (k : PushKind) (bytes : List ℕ) (v : Value) → v ≡ BulkString bytes
    → k ≡ kind_named bytes → name_of_push_kind k ≡ bytes
    → MatchOption found (is_message_kind k ≡ false) (λ same. (same ≡ k) × (is_message_kind k ≡ true))
    → MatchOption found (NamesNone v) (NamesMessage v)
kind_or_none None k bytes v is kind name h = rw is (other_kind bytes (ap is_message_kind (sym kind) ∙ h))
kind_or_none (Some same) k bytes v is kind name h = record {
  is_kind = ap is_message_kind h.0 ∙ h.1;
  name = is ∙ ap BulkString (sym (ap name_of_push_kind h.0 ∙ name));
}

-- ---- arrays that are no messages

array-none : (vs : List Value) → ((m : PushInfo) → IsArrayOf (Array vs) m → ⊥) → IsNoMessage (Array vs)
array-none vs none m (next.push is) =
    let e : true ≡ false = sym (pushed _ _) ∙ ap is_push (sym is) ∙ no_push vs in cc
array-none vs none m (next.array h) = none m h

array-reply : (vs : List Value) → ((m : PushInfo) → IsArrayOf (Array vs) m → ⊥) → IsReply (Array vs)
array-reply vs none = (
  array-none vs none,
  λ e is. let k : true ≡ false = sym (failed e) ∙ ap is_error (sym is) ∙ no_error vs in cc,
)

pub none_empty : IsReply (Array [])
none_empty = array-reply [] (λ m h. let e : Some [] ≡ Some (h.first ∷ m.payload) = sym (elements []) ∙ ap elements_of
    h.whole ∙ elements _ in cc)

pub none_named : (first : Value) (payload : List Value) → NamesNone first → IsReply (Array (first ∷ payload))
none_named first payload none = array-reply (first ∷ payload) (λ m h.
    let e : Some (first ∷ payload) ≡ Some (h.first ∷ m.payload) = sym (elements (first ∷ payload)) ∙ ap elements_of
    h.whole ∙ elements _ in
    let same : first ≡ h.first = cc in
    none m.kind (record { is_kind = h.names.is_kind; name = same ∙ h.names.name }))
