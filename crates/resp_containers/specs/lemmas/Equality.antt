-- Lemmas: `==` is structural where it is that of the parts.
use Rattle.std.specs.Prelude.{◌≡◌, Bool, true, false, ◌&&◌, List, [], ◌∷◌, map, None, Some, nat_eq}
use Rattle.std.specs.Option.{option_eq}
use Rattle.std.specs.Ordering.{int_eq}
use Rattle.std.specs.Cmp.{signed_Decides}
use Rattle.std.specs.Cmp.Lexicographic.{pointwise, bytes_decides}
use Rattle.std.proofs.Common.{refl, sym, ap, eqb-true}
use Rattle.std.proofs.lemmas.Bool.{true≢false}
use mathlib.Core.Bool.{beq}
use mathlib.Core.Logic.{inl, inr}
use denote.Struct.Field.{Field}
use denote.Struct.Values.{Values}
use denote.Enum.Declared.{Choice, Record, values_one}
use denote.Enum.Compared.{Each, by}
use Rattle.resp_containers.specs.Equality.{IsStructural}

-- of values of different variants the test says no
pub no : {A : Type 0} → false ≡ true → A
no h = absurd (true≢false (sym h))

pub both : (s t : Bool) → (s && t) ≡ true → (s ≡ true) × (t ≡ true)
both true t h = (refl, h)
both false t h = no h

pub same_numbers : IsStructural nat_eq
same_numbers = eqb-true

pub same_integers : IsStructural int_eq
same_integers a b = (signed_Decides a b).0

pub same_truths : IsStructural beq
same_truths true true h = refl
same_truths false false h = refl
same_truths true false h = sym h
same_truths false true h = h

pub same_bytes : IsStructural (pointwise nat_eq)
same_bytes a b = (bytes_decides a b).0

pub same_options : {A : Type 0} {eq : A → A → Bool} → IsStructural eq → IsStructural (option_eq eq)
same_options same None None h = refl
same_options same (Some x) (Some y) h = ap Some (same x y h)
same_options same None (Some y) h = no h
same_options same (Some x) None h = no h

pub same_pairs : {A B : Type 0} {eq : A → A → Bool} {eq' : B → B → Bool} → IsStructural eq
    → IsStructural eq' → IsStructural (λ (a : A × B) (b : A × B). eq a.0 b.0 && eq' a.1 b.1)
same_pairs {A} {B} {eq} {eq'} same same' a b h =
    let parts = both (eq a.0 b.0) (eq' a.1 b.1) h in
    λ i. (same a.0 b.0 parts.0 i, same' a.1 b.1 parts.1 i)

-- of two lists, the items of one of them seen through a function
pub same_items : {A K : Type 0} (eq : A → A → Bool) (of : K → A)
    → ((k : K) (b : A) → eq (of k) b ≡ true → of k ≡ b)
    → (ks : List K) (bs : List A) → pointwise eq (map of ks) bs ≡ true → map of ks ≡ bs
same_items eq of same [] [] h = refl
same_items eq of same [] (b ∷ bs) h = no h
same_items eq of same (k ∷ ks) [] h = no h
same_items eq of same (k ∷ ks) (b ∷ bs) h =
    let parts = both (eq (of k) b) (pointwise eq (map of ks) bs) h in
    λ i. same k b parts.0 i ∷ same_items eq of same ks bs parts.1 i

pub same_lists : {A : Type 0} {eq : A → A → Bool} → IsStructural eq → IsStructural (pointwise eq)
same_lists same [] [] h = refl
same_lists same [] (y ∷ ys) h = no h
same_lists same (x ∷ xs) [] h = no h
same_lists {A} {eq} same (x ∷ xs) (y ∷ ys) h =
    let parts = both (eq x y) (pointwise eq xs ys) h in
    λ i. same x y parts.0 i ∷ same_lists same xs ys parts.1 i

-- ---- enums

-- the test of the fields of this choice is sound; without fields there is nothing to test
abbrev pub SoundAt : (Fss : List (List Field)) → Each Bool Fss → Choice Fss → Type 0
SoundAt [] each c = absurd c
SoundAt ([] ∷ Fss) each (inl u) = Unit {0}
SoundAt ([] ∷ Fss) each (inr c) = SoundAt Fss each.1 c
SoundAt ((F ∷ Fs) ∷ Fss) each (inl u) = (v : Values (F ∷ Fs)) → each.0 u v ≡ true → u ≡ v
SoundAt ((F ∷ Fs) ∷ Fss) each (inr c) = SoundAt Fss each.1 c

-- the test of each variant that has fields is sound
abbrev pub SoundEach : (Fss : List (List Field)) → Each Bool Fss → Type 0
SoundEach [] each = Unit {0}
SoundEach ([] ∷ Fss) each = SoundEach Fss each.1
SoundEach ((F ∷ Fs) ∷ Fss) each =
    ((u v : Values (F ∷ Fs)) → each.0 u v ≡ true → u ≡ v) × SoundEach Fss each.1

sound_at : (Fss : List (List Field)) (each : Each Bool Fss) → SoundEach Fss each → (c : Choice Fss)
    → SoundAt Fss each c
sound_at [] each sound c = absurd c
sound_at ([] ∷ Fss) each sound (inl u) = tt
sound_at ([] ∷ Fss) each sound (inr c) = sound_at Fss each.1 sound c
sound_at ((F ∷ Fs) ∷ Fss) each sound (inl u) = sound.0 u
sound_at ((F ∷ Fs) ∷ Fss) each sound (inr c) = sound_at Fss each.1 sound.1 c

pub same_choice : (Fss : List (List Field)) (each : Each Bool Fss) (c d : Choice Fss)
    → SoundAt Fss each c → by false false Fss each c d ≡ true → c ≡ d
same_choice [] each c d sound h = absurd c
same_choice ([] ∷ Fss) each (inl u) (inl v) sound h = refl
same_choice ([] ∷ Fss) each (inl u) (inr d) sound h = no h
same_choice ([] ∷ Fss) each (inr c) (inl v) sound h = no h
same_choice ([] ∷ Fss) each (inr c) (inr d) sound h = ap inr (same_choice Fss each.1 c d sound h)
same_choice ((F ∷ Fs) ∷ Fss) each (inl u) (inl v) sound h = ap inl (sound v h)
same_choice ((F ∷ Fs) ∷ Fss) each (inl u) (inr d) sound h = no h
same_choice ((F ∷ Fs) ∷ Fss) each (inr c) (inl v) sound h = no h
same_choice ((F ∷ Fs) ∷ Fss) each (inr c) (inr d) sound h =
    ap inr (same_choice Fss each.1 c d sound h)

-- an enum's derived test is sound where that of each variant with fields is
pub same_enum : (N : Record) (each : Each Bool N.parts) → SoundEach N.parts each
    → IsStructural (λ a b. by false false N.parts each (N.as_values a) (N.as_values b))
same_enum N each sound a b h =
    let at = sound_at N.parts each sound (N.as_values a) in
    values_one N a b (same_choice N.parts each (N.as_values a) (N.as_values b) at h)

-- the test of a variant of one field, and of one of two fields
pub one_field : {A : Type 0} {eq : A → A → Bool} → IsStructural eq
    → (u v : A × Unit {0}) → eq u.0 v.0 ≡ true → u ≡ v
one_field same u v h = λ i. (same u.0 v.0 h i, tt)

pub two_fields : {A B : Type 0} {eq : A → A → Bool} {eq' : B → B → Bool} → IsStructural eq
    → IsStructural eq' → (u v : A × (B × Unit {0})) → (eq u.0 v.0 && eq' u.1.0 v.1.0) ≡ true → u ≡ v
two_fields {A} {B} {eq} {eq'} same same' u v h =
    let parts = both (eq u.0 v.0) (eq' u.1.0 v.1.0) h in
    λ i. (same u.0 v.0 parts.0 i, (same' u.1.0 v.1.0 parts.1 i, tt))
