-- Appending positions: in a loop, one by one, and by one call after another.
use Rattle.std.proofs.Common.{◌≡◌, ℕ, zero, suc, ◌+◌, ◌-◌, ◌≤◌, Bool, true, false, cond, List, [], ◌∷◌, ◌++◌, filter}
use Rattle.std.proofs.Common.{Result, Ok, Err, ◌≢◌, refl, sym, ap, ◌∙◌, arith, append_assoc}
use Rattle.std.proofs.lemmas.List.{append-nil}
use Rattle.std.proofs.lemmas.List.Elements.{filter-append}
use Rattle.std.specs.List.{range_with_len}
use Rattle.resp_routing.specs.Keys.{Adds, Positions, both}
use Rattle.resp_routing.specs.declared.errors.RoutingError.{RoutingError}
use Rattle.resp_routing.specs.declared.errors.RoutingError.TheVariants.{OutOfMemory}

range_more : (a n : ℕ) → range_with_len a (suc n) ≡ range_with_len a n ++ ((a + n) ∷ [])
range_more a zero = let same : a ≡ a + 0 = omega arith in ap (λ last. last ∷ []) same
range_more a (suc n) =
    let next : a + 1 + n ≡ a + suc n = omega arith in
    ap (λ rest. a ∷ rest) (range_more (a + 1) n ∙ ap (λ last. range_with_len (a + 1) n ++ (last ∷ [])) next)

pub push_range : (old now new : List ℕ) (first position : ℕ) → first ≤ position
    → now ≡ old ++ range_with_len first (position - first) → new ≡ now ++ position ∷ []
    → new ≡ old ++ range_with_len first (position + 1 - first)
push_range old now new first position from held pushed =
    let count : position + 1 - first ≡ suc (position - first) = omega arith in
    let last : first + (position - first) ≡ position = omega arith in
    pushed ∙ ap (λ front. front ++ position ∷ []) held
    ∙ append_assoc old (range_with_len first (position - first)) (position ∷ [])
    ∙ ap (λ end. old ++ (range_with_len first (position - first) ++ end ∷ [])) (sym last)
    ∙ ap (λ more. old ++ more) (sym (range_more first (position - first)))
    ∙ ap (λ n. old ++ range_with_len first n) (sym count)

filter_more : (p : ℕ → Bool) (first position : ℕ) → first ≤ position
    → filter p (range_with_len first (position + 1 - first))
    ≡ filter p (range_with_len first (position - first)) ++ cond (p position) (position ∷ []) []
filter_more p first position from =
    let count : position + 1 - first ≡ suc (position - first) = omega arith in
    let last : first + (position - first) ≡ position = omega arith in
    ap (λ n. filter p (range_with_len first n)) count
    ∙ ap (filter p) (range_more first (position - first))
    ∙ filter-append p (range_with_len first (position - first)) ((first + (position - first)) ∷ [])
    ∙ ap (λ end. filter p (range_with_len first (position - first)) ++ filter p (end ∷ [])) last

pub push_kept : (p : ℕ → Bool) (old now new : List ℕ) (first position : ℕ) → first ≤ position → p position ≡ true
    → now ≡ old ++ filter p (range_with_len first (position - first)) → new ≡ now ++ position ∷ []
    → new ≡ old ++ filter p (range_with_len first (position + 1 - first))
push_kept p old now new first position from kept held pushed =
    pushed ∙ ap (λ front. front ++ position ∷ []) held
    ∙ append_assoc old (filter p (range_with_len first (position - first))) (position ∷ [])
    ∙ ap (λ more. old ++ more)
    (sym (filter_more p first position from ∙ ap (λ b. filter p (range_with_len first (position - first)) ++ cond b (position ∷ []) []) kept))

pub pass_over : (p : ℕ → Bool) (old now : List ℕ) (first position : ℕ) → first ≤ position → p position ≡ false
    → now ≡ old ++ filter p (range_with_len first (position - first))
    → now ≡ old ++ filter p (range_with_len first (position + 1 - first))
pass_over p old now first position from other held =
    held ∙ ap (λ more. old ++ more)
    (sym (filter_more p first position from ∙ ap (λ b. filter p (range_with_len first (position - first)) ++ cond b (position ∷ []) []) other
    ∙ append-nil (filter p (range_with_len first (position - first)))))

pub first_refused : (e : RoutingError) (a b : Positions) → a ≡ Err e → both a b ≡ Err e
first_refused e a b refused = rw refused refl

pub second_refused : (e : RoutingError) (old mid : List ℕ) (a b : Positions) → both (Ok old) a ≡ Ok mid → b ≡ Err e
    → both a b ≡ Err e
second_refused e old mid (Ok ps) b appended refused = rw refused refl
second_refused e old mid (Err f) b appended refused = cc

pub joined : (old mid new : List ℕ) (a b : Positions) → both (Ok old) a ≡ Ok mid → both (Ok mid) b ≡ Ok new
    → both (Ok old) (both a b) ≡ Ok new
joined old mid new (Ok ps) (Ok qs) one two = ap Ok (sym (append_assoc old ps qs)) ∙ ap (λ r. both r (Ok qs)) one ∙ two
joined old mid new (Ok ps) (Err f) one two = cc
joined old mid new (Err f) b one two = cc

-- the first call appended its positions, and the second was made
pub then_adds : (a b : Positions) (old mid new : List ℕ) (result : Result (Unit {0}) RoutingError)
    → both (Ok old) a ≡ Ok mid → Adds b mid new result → Adds (both a b) old new result
then_adds a b old mid new (Ok done) one two = joined old mid new a b one two
then_adds a b old mid new (Err e) one two = λ other. second_refused e old mid a b one (two other)

-- the first call was refused
pub stops : (a b : Positions) (e : RoutingError) → (e ≢ OutOfMemory → a ≡ Err e) → e ≢ OutOfMemory → both a b ≡ Err e
stops a b e one other = first_refused e a b (one other)
