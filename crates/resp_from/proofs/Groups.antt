-- Lists that are cut in groups of one length.
use Rattle.std.proofs.Common.{◌≡◌, ℕ, ◌+◌, ◌*◌, ◌%◌, ◌<◌, zero, suc, Bool, true, false, List, [], ◌∷◌, ◌++◌, length}
use Rattle.std.proofs.Common.{map, take, drop, Vec, Global, Result, Ok, Err, refl, sym, ap, ◌∙◌, subst, arith}
use Rattle.std.proofs.Common.{append_assoc, length-append}
use Rattle.std.proofs.Math.Seq.{take-append_seam, drop-append_seam}
use Rattle.std.proofs.Math.Nat.{mul-mod_left}
use Rattle.std.proofs.lemmas.Nat.{mod-mul-add}
use Rattle.std.proofs.lemmas.List.{append-nil, map-append, nil_from_length}
use Rattle.std.proofs.lemmas.List.Concat.{flat_map-append}
use Rattle.std.specs.Bool.{MatchBool}
use Rattle.std.specs.List.{AllZip, AllByRecursion, flat_map}
use Rattle.resp_value.specs.declared.value.Value.{Value, Array}
use Rattle.resp_errors.specs.declared.parsing_error.ParsingError.{ParsingError}
use Rattle.resp_from.specs.Conversion.{ConvertsList}
use Rattle.resp_from.specs.Rules.{AreGroups, ArePieces, OfGroups, OfList, is_one_each}
use Rattle.resp_from.proofs.Conversions.{RefusesIf-along, AllZip-more, AllZip-none}

abbrev joined : List (List Value) → List Value
joined groups = flat_map (λ group. group) groups

abbrev AllOf : ℕ → List (List Value) → Type 0
AllOf n groups = AllByRecursion (λ group. length group ≡ n) groups

AllOf-push : (n : ℕ) (groups : List (List Value)) (group : List Value) → AllOf n groups → length group ≡ n
    → AllOf n (groups ++ group ∷ [])
AllOf-push n [] group h e = (e, tt)
AllOf-push n (g ∷ groups) group h e = (h.0, AllOf-push n groups group h.1 e)

length-joined : (n : ℕ) (groups : List (List Value)) → AllOf n groups → length (joined groups) ≡ length groups * n
length-joined n [] h = omega arith
length-joined n (g ∷ groups) h = length-append g (joined groups) ∙ omega (arith, h.0, length-joined n groups h.1)

-- two lists of groups that join to one list are one
one_cut : (n : ℕ) (gs hs : List (List Value)) → 0 < n → AllOf n gs → AllOf n hs → joined gs ≡ joined hs → gs ≡ hs
one_cut n [] [] p a b e = refl
one_cut n [] (h ∷ hs) p a b e = absurd (omega (arith, ap length e, length-append h (joined hs), b.0))
one_cut n (g ∷ gs) [] p a b e = absurd (omega (arith, ap length e, length-append g (joined gs), a.0))
one_cut n (g ∷ gs) (h ∷ hs) p a b e =
    let long : length g ≡ length h = a.0 ∙ sym b.0 in
    let head : g ≡ h = sym (take-append_seam g (joined gs))
    ∙ (ap (take (length g)) e ∙ (ap (λ k. take k (h ++ joined hs)) long ∙ take-append_seam h (joined hs))) in
    let tail : joined gs ≡ joined hs = sym (drop-append_seam g (joined gs))
    ∙ (ap (drop (length g)) e ∙ (ap (λ k. drop k (h ++ joined hs)) long ∙ drop-append_seam h (joined hs))) in
    let tails : gs ≡ hs = one_cut n gs hs p a.1 b.1 tail in
    cc

-- groups with a short one behind are no cut
no_cut : (n : ℕ) (gs hs : List (List Value)) (part : List Value) → AllOf n gs → AllOf n hs → 0 < length part
    → length part < n → joined gs ++ part ≡ joined hs → ⊥
no_cut n gs hs part a b p q e =
    let same : length gs * n + length part ≡ length hs * n = ap (λ k. k + length part) (sym (length-joined n gs a))
    ∙ (sym (length-append (joined gs) part) ∙ (ap length e ∙ length-joined n hs b)) in
    let left : length part ≡ 0 = sym (mod-mul-add (length gs) n (length part) q)
    ∙ (ap (λ k. k % n) same ∙ mul-mod_left (length hs) n) in
    omega arith

-- the arrays that a list was cut in so far, and the group that is being filled
pub record IsCutting (n : ℕ) (replies pieces group : List Value) : Type 0 where
  pub groups : List (List Value)
  pub made : pieces ≡ map Array groups
  pub each : AllByRecursion (λ g. length g ≡ n) groups
  pub whole : flat_map (λ g. g) groups ++ group ≡ replies
  pub short : length group < n

pub IsCutting-group : (n : ℕ) (replies pieces group : List Value) (v : Value) → IsCutting n replies pieces group
    → length (group ++ v ∷ []) ≡ n → 0 < n → IsCutting n (replies ++ v ∷ []) (pieces ++ Array (group ++ v ∷ []) ∷ []) []
IsCutting-group n replies pieces group v h e p = record {
  groups = h.groups ++ (group ++ v ∷ []) ∷ [];
  made = ap (λ vs. vs ++ Array (group ++ v ∷ []) ∷ []) h.made
      ∙ sym (map-append Array h.groups ((group ++ v ∷ []) ∷ []));
  each = AllOf-push n h.groups (group ++ v ∷ []) h.each e;
  whole = append-nil (joined (h.groups ++ (group ++ v ∷ []) ∷ []))
      ∙ (flat_map-append (λ g. g) h.groups ((group ++ v ∷ []) ∷ [])
      ∙ (ap (λ vs. joined h.groups ++ vs) (append-nil (group ++ v ∷ []))
      ∙ (sym (append_assoc (joined h.groups) group (v ∷ [])) ∙ ap (λ vs. vs ++ v ∷ []) h.whole)));
  short = p;
}

pub IsCutting-short : (n : ℕ) (replies pieces group : List Value) → IsCutting n replies pieces group → 0 < length group
    → (others : List Value) → AreGroups n replies others → ⊥
IsCutting-short n replies pieces group h p others k = no_cut n h.groups k.groups group h.each k.each p h.short
    (h.whole ∙ sym k.whole)

-- a list has one list of pieces
one_each : (n : ℕ) (replies ps qs : List Value) (b : Bool) → (b ≡ false → 0 < n)
    → MatchBool b (ps ≡ replies) (AreGroups n replies ps) → MatchBool b (qs ≡ replies) (AreGroups n replies qs)
    → ps ≡ qs
one_each n replies ps qs true p g h = g ∙ sym h
one_each n replies ps qs false p g h = g.made
    ∙ (ap (map Array) (one_cut n g.groups h.groups (p refl) g.each h.each (g.whole ∙ sym h.whole)) ∙ sym h.made)

pub is_one_each-false : (n : ℕ) (replies : List Value) → is_one_each n replies ≡ false → 0 < n
is_one_each-false zero replies e = absurd (let f : true ≡ false = e in cc)
is_one_each-false (suc n) replies e = omega arith

pub one_list_of_pieces : (n : ℕ) (replies ps qs : List Value) → ArePieces n replies ps → ArePieces n replies qs
    → ps ≡ qs
one_list_of_pieces n replies ps qs g h = one_each n replies ps qs (is_one_each n replies) (is_one_each-false n replies)
    g h

-- a list that isn't taken item by item is cut
pub ArePieces-groups : (n : ℕ) (replies : List Value) (r : Result (Vec Value Global) ParsingError)
    → is_one_each n replies ≡ false → ConvertsList (AreGroups n replies) r → ConvertsList (ArePieces n replies) r
ArePieces-groups n replies r e h = subst (λ b. ConvertsList
    (λ pieces. MatchBool b (pieces ≡ replies) (AreGroups n replies pieces)) r) (sym e) h

pub length-positive : {A : Type 0} (xs : List A) → (xs ≡ [] → ⊥) → 0 < length xs
length-positive [] f = absurd (f refl)
length-positive (x ∷ xs) f = omega arith

-- a list goes on in groups behind those that a front of it is cut in
cut_front : (n : ℕ) (gs hs : List (List Value)) (rest : List Value) → 0 < n → AllOf n gs → AllOf n hs
    → joined gs ++ rest ≡ joined hs → (ts : List (List Value)) × (hs ≡ gs ++ ts)
cut_front n [] hs rest p a b e = (hs, refl)
cut_front n (g ∷ gs) [] rest p a b e = absurd
    (omega (arith, ap length e, length-append (joined (g ∷ gs)) rest, length-append g (joined gs), a.0))
cut_front n (g ∷ gs) (h ∷ hs) rest p a b e =
    let long : length g ≡ length h = a.0 ∙ sym b.0 in
    let whole : g ++ (joined gs ++ rest) ≡ h ++ joined hs = sym (append_assoc g (joined gs) rest) ∙ e in
    let head : g ≡ h = sym (take-append_seam g (joined gs ++ rest))
    ∙ (ap (take (length g)) whole ∙ (ap (λ k. take k (h ++ joined hs)) long ∙ take-append_seam h (joined hs))) in
    let tail : joined gs ++ rest ≡ joined hs = sym (drop-append_seam g (joined gs ++ rest))
    ∙ (ap (drop (length g)) whole ∙ (ap (λ k. drop k (h ++ joined hs)) long ∙ drop-append_seam h (joined hs))) in
    let more = cut_front n gs hs rest p a.1 b.1 tail in
    let same : hs ≡ gs ++ more.0 = more.1 in
    (more.0, cc)

-- the values of the groups so far, and the group that is being filled
pub record IsConverting {X : Type 0} (n : ℕ) (Of : Value → X → Type 0) (replies group : List Value) (xs : List X) :
    Type 0 where
  pub pieces : List Value
  pub cut : IsCutting n replies pieces group
  pub each : AllZip Of pieces xs

module _ {X : Type 0} (n : ℕ) (Of : Value → X → Type 0) (some : 0 < n) where
  pub group_more : (replies group : List Value) (v : Value) (xs : List X) (x : X) → IsConverting n Of replies group xs
      → length (group ++ v ∷ []) ≡ n → Of (Array (group ++ v ∷ [])) x
      → IsConverting n Of (replies ++ v ∷ []) [] (xs ++ x ∷ [])
  group_more replies group v xs x h full of = record {
    pieces = h.pieces ++ Array (group ++ v ∷ []) ∷ [];
    cut = IsCutting-group n replies h.pieces group v h.cut full some;
    each = AllZip-more Of h.pieces xs (Array (group ++ v ∷ [])) x h.each of;
  }

  -- where one group is no value, the list has none
  pub group_refused : (all replies rest group : List Value) (v : Value) (xs : List X)
      → IsConverting n Of replies group xs → all ≡ replies ++ v ∷ rest → length (group ++ v ∷ []) ≡ n
      → ((x : X) → Of (Array (group ++ v ∷ [])) x → ⊥) → (ys : List X) → OfGroups n Of all ys → ⊥
  group_refused all replies rest group v xs h same full none ys k =
      let piece : Value = Array (group ++ v ∷ []) in
      let cut = IsCutting-group n replies h.pieces group v h.cut full some in
      let done : joined cut.groups ≡ replies ++ v ∷ [] = sym (append-nil (joined cut.groups)) ∙ cut.whole in
      let front : joined cut.groups ++ rest ≡ joined k.cut.groups = ap (λ vs. vs ++ rest) done
      ∙ (append_assoc replies (v ∷ []) rest ∙ (sym same ∙ sym k.cut.whole)) in
      let more = cut_front n cut.groups k.cut.groups rest some cut.each k.cut.each front in
      let pieces : k.pieces ≡ h.pieces ++ piece ∷ map Array more.0 = k.cut.made
      ∙ (ap (map Array) more.1 ∙ (map-append Array cut.groups more.0
      ∙ (ap (λ vs. vs ++ map Array more.0) (sym cut.made) ∙ append_assoc h.pieces (piece ∷ [])
      (map Array more.0)))) in
      AllZip-none Of k.pieces h.pieces piece (map Array more.0) pieces none ys k.each

  -- a list whose size is no multiple has no groups
  pub uneven_refused : (replies : List Value) → (length replies % n ≡ 0 → ⊥) → (ys : List X) → OfGroups n Of replies ys
      → ⊥
  uneven_refused replies odd ys k =
      odd (ap (λ m. m % n) (sym (ap length k.cut.whole) ∙ length-joined n k.cut.groups k.cut.each)
      ∙ mul-mod_left (length k.cut.groups) n)

  pub all_groups : (replies group : List Value) (xs : List X) → IsConverting n Of replies group xs
      → length replies % n ≡ 0 → OfGroups n Of replies xs
  all_groups replies group xs h even =
      let cut = h.cut in
      let size : length cut.groups * n + length group ≡ length replies = ap (λ m. m + length group)
      (sym (length-joined n cut.groups cut.each))
      ∙ (sym (length-append (joined cut.groups) group) ∙ ap length cut.whole) in
      let left : length group ≡ 0 = sym (mod-mul-add (length cut.groups) n (length group) cut.short)
      ∙ (ap (λ m. m % n) size ∙ even) in
      let whole : joined cut.groups ≡ replies = sym (append-nil (joined cut.groups))
      ∙ (ap (λ vs. joined cut.groups ++ vs) (sym (nil_from_length group left)) ∙ cut.whole) in
      record {
        pieces = h.pieces;
        cut = record { groups = cut.groups; whole = whole; each = cut.each; made = cut.made };
        each = h.each;
      }

  -- the list rule, where the list is taken in groups
  pub OfList-groups : (replies : List Value) (r : Result (Vec X Global) ParsingError) → is_one_each n replies ≡ false
      → ConvertsList (OfGroups n Of replies) r → ConvertsList (OfList n Of replies) r
  OfList-groups replies (Ok v) e h = record {
    pieces = h.pieces;
    cut = subst (λ b. MatchBool b (h.pieces ≡ replies) (AreGroups n replies h.pieces)) (sym e) h.cut;
    each = h.each;
  }
  OfList-groups replies (Err d) e h = RefusesIf-along d
      (λ none xs k. none xs (record {
        pieces = k.pieces;
        cut = subst (λ b. MatchBool b (k.pieces ≡ replies) (AreGroups n replies k.pieces)) e k.cut;
        each = k.each;
      })) h
