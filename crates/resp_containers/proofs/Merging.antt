-- A map or a set that is filled keeps one item for each key.
use Rattle.std.proofs.Common.{◌≡◌, Bool, true, false, cond, not, ◌||◌, Option, None, Some, List, [], ◌∷◌, ◌++◌, reverse}
use Rattle.std.proofs.Common.{refl, sym, ap, ◌∙◌, subst, IsSome, MatchOption, Ordering, Less, Equal, Greater}
use Rattle.std.specs.List.{All, IsDistinct, list_any, find}
use Rattle.std.specs.Cmp.{IsEquivalence, IsTotalOrder, eq_by_cmp_equiv}
use Rattle.std.specs.List.Sorted.{IsPermutation, IsStrictlySortedBy}
use Rattle.std.specs.Ordering.{eq_by_cmp, match_ordering}
use Rattle.std.specs.Map.{keys_of, lookup, lookup_key, set_value}
use Rattle.std.specs.Bool.{MatchBool, OnFalse}
use Rattle.std.specs.BTreeMap.{insert_entry}
use Rattle.std.specs.BTreeSet.{insert_key}
use Rattle.std.proofs.lemmas.List.Sorted.{All-permutation}
use Rattle.std.proofs.lemmas.List.{reverse-append}
use Rattle.std.proofs.lemmas.List.Elements.{All-cons, All-head, All-tail, All-weaker}
use Rattle.std.proofs.lemmas.Map.Views.{All-map-IsPermutation}
use Rattle.resp_containers.specs.Keyed.{Keying, IsMerged, IsDeduplicated, sorted, hashed}

module _ {K V : Type 0} (test : K → Bool) where
  -- a key that was found is found before what comes later
  found_first : (pairs more : List (K × V)) (k : K) → lookup_key test pairs ≡ Some k → lookup_key test (pairs ++ more)
      ≡ Some k
  found_first [] more k h = cc
  found_first (e ∷ es) more k h = by (test e.0) (found_first es more k) h
    where
      by : (b : Bool) → (lookup_key test es ≡ Some k → lookup_key test (es ++ more) ≡ Some k)
          → cond b (Some e.0) (lookup_key test es) ≡ Some k → cond b (Some e.0) (lookup_key test (es ++ more)) ≡ Some k
      by true rest h = h
      by false rest h = rest h

  found_last : (pairs : List (K × V)) (e : K × V) → lookup_key test pairs ≡ None → test e.0 ≡ true
      → lookup_key test (pairs ++ e ∷ []) ≡ Some e.0
  found_last [] e h passes = ap (λ b. cond b (Some e.0) None) passes
  found_last (d ∷ ds) e h passes = by (test d.0) (λ none. found_last ds e none passes) h
    where
      by : (b : Bool) → (lookup_key test ds ≡ None → lookup_key test (ds ++ e ∷ []) ≡ Some e.0)
          → cond b (Some d.0) (lookup_key test ds) ≡ None → cond b (Some d.0) (lookup_key test (ds ++ e ∷ []))
          ≡ Some e.0
      by true rest h = absurd (cc h)
      by false rest h = rest h

  none_before : (es fs : List (K × V)) → lookup test (es ++ fs) ≡ None → lookup test es ≡ None
  none_before [] fs h = refl
  none_before (e ∷ es) fs h = by (test e.0) (none_before es fs) h
    where
      by : (b : Bool) → (lookup test (es ++ fs) ≡ None → lookup test es ≡ None)
          → cond b (Some e.1) (lookup test (es ++ fs)) ≡ None → cond b (Some e.1) (lookup test es) ≡ None
      by true rest h = absurd (cc h)
      by false rest h = rest h

  none_after : (es fs : List (K × V)) → lookup test (es ++ fs) ≡ None → lookup test fs ≡ None
  none_after [] fs h = h
  none_after (e ∷ es) fs h = by (test e.0) (none_after es fs) h
    where
      by : (b : Bool) → (lookup test (es ++ fs) ≡ None → lookup test fs ≡ None)
          → cond b (Some e.1) (lookup test (es ++ fs)) ≡ None → lookup test fs ≡ None
      by true rest h = absurd (cc h)
      by false rest h = rest h

  no_key : (pairs : List (K × V)) → lookup test (reverse pairs) ≡ None → lookup_key test pairs ≡ None
  no_key [] h = refl
  no_key (e ∷ es) h =
      let back : lookup test (reverse es ++ e ∷ [])
      ≡ None = subst (λ ps. lookup test ps ≡ None) (reverse-append (e ∷ []) es) h in
      by (test e.0) (none_after (reverse es) (e ∷ []) back) (no_key es (none_before (reverse es) (e ∷ []) back))
    where
      by : (b : Bool) → cond b (Some e.1) None ≡ None → lookup_key test es ≡ None
          → cond b (Some e.0) (lookup_key test es) ≡ None
      by true h rest = absurd (cc h)
      by false h rest = rest

-- ---- one more pair

module _ {K V : Type 0} (keying : Keying K) (laws : IsEquivalence keying.same) (pairs old new : List (K × V)) (key : K)
    (value : V) where
  abbrev pub more : List (K × V)
  more = pairs ++ (key, value) ∷ []

  reversed_more : reverse more ≡ (key, value) ∷ reverse pairs
  reversed_more = reverse-append pairs ((key, value) ∷ [])

  stays_first : (k : K) → lookup_key (keying.same k) pairs ≡ Some k → lookup_key (keying.same k) more ≡ Some k
  stays_first k h = found_first (keying.same k) pairs ((key, value) ∷ []) k h

  -- the entries of the pairs, and then those of the pairs and one more
  pub merged_more : IsMerged keying pairs old → keying.Keeps (keys_of new)
      → ((q : K) → lookup (keying.same q) new ≡ cond (keying.same key q) (Some value) (lookup (keying.same q) old))
      → ((P : K → Type 0) → All P (keys_of old) → (lookup (keying.same key) old ≡ None → P key) → All P (keys_of new))
      → IsMerged keying more new
  merged_more m keeps values keys = record {
    kept = keeps;
    first_keys = keys (λ k. lookup_key (keying.same k) more ≡ Some k)
        (All-weaker _ _ stays_first (keys_of old) m.first_keys)
        (λ absent. found_last (keying.same key) pairs (key, value)
        (no_key (keying.same key) pairs (sym (m.last_values key) ∙ absent)) (laws.refl key));
    last_values = λ q. values q ∙
        (ap (λ b. cond b (Some value) (lookup (keying.same q) old)) (laws.symm key q)
        ∙ (ap (cond (keying.same q key) (Some value)) (m.last_values q)
        ∙ sym (ap (lookup (keying.same q)) reversed_more)));
  }

-- each key after one more entry was one before, or is new
sorted_keys : {K V : Type 0} (cmp : K → K → Ordering) (es : List (K × V)) (k : K) (v : V) (P : K → Type 0)
    → All P (keys_of es) → P k → All P (keys_of (insert_entry cmp es k v))
sorted_keys cmp [] k v P all p = All-cons P k [] p all
sorted_keys cmp (e ∷ es) k v P all p = by (cmp k e.0) (sorted_keys cmp es k v P (All-tail P _ _ all) p)
  where
    by : (r : Ordering) → All P (keys_of (insert_entry cmp es k v))
        → All P (keys_of (match_ordering r ((k, v) ∷ e ∷ es) ((e.0, v) ∷ es) (e ∷ insert_entry cmp es k v)))
    by Less h = All-cons P k (keys_of (e ∷ es)) p all
    by Equal h = all
    by Greater h = All-cons P e.0 (keys_of (insert_entry cmp es k v)) (All-head P _ _ all) h

pub sorted_more : {K V : Type 0} (cmp : K → K → Ordering) → IsTotalOrder cmp
    → (pairs old new : List (K × V)) (key : K) (value : V) (had : Option V) → had ≡ lookup (eq_by_cmp cmp key) old
    → (IsSome had → keys_of new ≡ keys_of old) → new ≡ insert_entry cmp old key value
    → IsStrictlySortedBy cmp (keys_of new) →
    ((q : K) → lookup (eq_by_cmp cmp q) new ≡ cond (eq_by_cmp cmp key q) (Some value) (lookup (eq_by_cmp cmp q) old))
    → IsMerged (sorted cmp) pairs old → IsMerged (sorted cmp) (pairs ++ (key, value) ∷ []) new
sorted_more {K} {V} cmp laws pairs old new key value had is stay put ascending values m = merged_more (sorted cmp)
    (eq_by_cmp_equiv laws) pairs old new key value m ascending values (keys had is stay)
  where
    keys : (o : Option V) → o ≡ lookup (eq_by_cmp cmp key) old → (IsSome o → keys_of new ≡ keys_of old)
        → (P : K → Type 0) → All P (keys_of old) → (lookup (eq_by_cmp cmp key) old ≡ None → P key) → All P (keys_of new)
    keys None at same P all p = subst (λ es. All P (keys_of es)) (sym put)
        (sorted_keys cmp old key value P all (p (sym at)))
    keys (Some v) at same P all p = subst (All P) (sym (same refl)) all

pub hashed_more : {K V : Type 0} (eq : K → K → Bool) → IsEquivalence eq
    → (pairs old new : List (K × V)) (key : K) (value : V) (had : Option V) → had ≡ lookup (eq key) old
    → (IsSome had → keys_of new ≡ keys_of old)
    → MatchOption had (IsPermutation ((key, value) ∷ old) new) (λ _. new ≡ set_value (eq key) old value)
    → IsDistinct eq (keys_of new) → ((q : K) → lookup (eq q) new ≡ cond (eq key q) (Some value) (lookup (eq q) old))
    → IsMerged (hashed eq) pairs old → IsMerged (hashed eq) (pairs ++ (key, value) ∷ []) new
hashed_more {K} {V} eq laws pairs old new key value had is stay put distinct values m = merged_more (hashed eq) laws
    pairs old new key value m distinct values (keys had is stay put)
  where
    keys : (o : Option V) → o ≡ lookup (eq key) old → (IsSome o → keys_of new ≡ keys_of old)
        → MatchOption o (IsPermutation ((key, value) ∷ old) new) (λ _. new ≡ set_value (eq key) old value)
        → (P : K → Type 0) → All P (keys_of old) → (lookup (eq key) old ≡ None → P key) → All P (keys_of new)
    keys None at same moved P all p = All-map-IsPermutation (λ e. e.0) P ((key, value) ∷ old) new moved
        (All-cons P key (keys_of old) (p (sym at)) all)
    keys (Some v) at same moved P all p = subst (All P) (sym (same refl)) all

-- ---- one more member

found_among : {X : Type 0} (test : X → Bool) (items more : List X) (x : X) → find test items ≡ Some x
    → find test (items ++ more) ≡ Some x
found_among test [] more x h = cc
found_among test (y ∷ ys) more x h = by (test y) (found_among test ys more x) h
  where
    by : (b : Bool) → (find test ys ≡ Some x → find test (ys ++ more) ≡ Some x) → cond b (Some y) (find test ys)
        ≡ Some x → cond b (Some y) (find test (ys ++ more)) ≡ Some x
    by true rest h = h
    by false rest h = rest h

found_new : {X : Type 0} (test : X → Bool) (items : List X) (x : X) → list_any test items ≡ false → test x ≡ true
    → find test (items ++ x ∷ []) ≡ Some x
found_new test [] x none passes = ap (λ b. cond b (Some x) None) passes
found_new test (y ∷ ys) x none passes = by (test y) (λ rest. found_new test ys x rest passes) none
  where
    by : (b : Bool) → (list_any test ys ≡ false → find test (ys ++ x ∷ []) ≡ Some x) → (b || list_any test ys) ≡ false
        → cond b (Some y) (find test (ys ++ x ∷ [])) ≡ Some x
    by true rest h = absurd (cc h)
    by false rest h = rest h

any_more : {X : Type 0} (test : X → Bool) (items : List X) (x : X) → list_any test (items ++ x ∷ [])
    ≡ cond (test x) true (list_any test items)
any_more test [] x = by (test x)
  where
    by : (b : Bool) → (b || false) ≡ cond b true false
    by true = refl
    by false = refl
any_more test (y ∷ ys) x = by (test y) (test x) (list_any test ys) _ (any_more test ys x)
  where
    by : (b c any with_x : Bool) → with_x ≡ cond c true any → (b || with_x) ≡ cond c true (b || any)
    by true true any w h = refl
    by true false any w h = refl
    by false c any w h = h

module _ {X : Type 0} (keying : Keying X) (laws : IsEquivalence keying.same) (items old new : List X) (member : X) where
  pub deduplicated_more : IsDeduplicated keying items old → keying.Keeps new
      → ((q : X) → list_any (keying.same q) new ≡ cond (keying.same member q) true (list_any (keying.same q) old))
      → ((P : X → Type 0) → All P old → (list_any (keying.same member) old ≡ false → P member) → All P new)
      → IsDeduplicated keying (items ++ member ∷ []) new
  deduplicated_more d keeps whole members = record {
    kept = keeps;
    firsts = members (λ x. find (keying.same x) (items ++ member ∷ []) ≡ Some x)
        (All-weaker _ _ (λ x h. found_among (keying.same x) items (member ∷ []) x h) old d.firsts)
        (λ absent. found_new (keying.same member) items member (sym (d.whole member) ∙ absent) (laws.refl member));
    whole = λ q. whole q ∙ (ap (λ b. cond b true (list_any (keying.same q) old)) (laws.symm member q) ∙ (ap (cond
        (keying.same q member) true) (d.whole q) ∙ sym (any_more (keying.same q) items member)));
  }

sorted_members : {X : Type 0} (cmp : X → X → Ordering) (xs : List X) (x : X) (P : X → Type 0) → All P xs → P x
    → All P (insert_key cmp xs x)
sorted_members cmp [] x P all p = All-cons P x [] p all
sorted_members cmp (y ∷ ys) x P all p = by (cmp x y) (sorted_members cmp ys x P (All-tail P _ _ all) p)
  where
    by : (r : Ordering) → All P (insert_key cmp ys x)
        → All P (match_ordering r (x ∷ y ∷ ys) (y ∷ ys) (y ∷ insert_key cmp ys x))
    by Less h = All-cons P x (y ∷ ys) p all
    by Equal h = all
    by Greater h = All-cons P y (insert_key cmp ys x) (All-head P _ _ all) h

pub sorted_member : {X : Type 0} (cmp : X → X → Ordering) → IsTotalOrder cmp
    → (items old new : List X) (x : X) (added : Bool) → added ≡ not (list_any (eq_by_cmp cmp x) old)
    → OnFalse added (new ≡ old) → new ≡ insert_key cmp old x → IsStrictlySortedBy cmp new
    → ((q : X) → list_any (eq_by_cmp cmp q) new ≡ cond (eq_by_cmp cmp x q) true (list_any (eq_by_cmp cmp q) old))
    → IsDeduplicated (sorted cmp) items old → IsDeduplicated (sorted cmp) (items ++ x ∷ []) new
sorted_member {X} cmp laws items old new x added is stays put ascending whole d = deduplicated_more (sorted cmp)
    (eq_by_cmp_equiv laws) items old new x d ascending whole (members added (list_any (eq_by_cmp cmp x) old) is stays)
  where
    members : (b any : Bool) → b ≡ not any → OnFalse b (new ≡ old) → (P : X → Type 0) → All P old → (any ≡ false → P x)
        → All P new
    members true true at same P all p = absurd (cc at)
    members true false at same P all p = subst (All P) (sym put) (sorted_members cmp old x P all (p refl))
    members false any at same P all p = subst (All P) (sym same) all

pub hashed_member : {X : Type 0} (eq : X → X → Bool) → IsEquivalence eq
    → (items old new : List X) (x : X) (added : Bool) → added ≡ not (list_any (eq x) old)
    → MatchBool added (IsPermutation (x ∷ old) new) (new ≡ old) → IsDistinct eq new
    → ((q : X) → list_any (eq q) new ≡ cond (eq x q) true (list_any (eq q) old)) → IsDeduplicated (hashed eq) items old
    → IsDeduplicated (hashed eq) (items ++ x ∷ []) new
hashed_member {X} eq laws items old new x added is put distinct whole d = deduplicated_more (hashed eq) laws items old
    new x d distinct whole (members added (list_any (eq x) old) is put)
  where
    members : (b any : Bool) → b ≡ not any → MatchBool b (IsPermutation (x ∷ old) new) (new ≡ old) → (P : X → Type 0)
        → All P old → (any ≡ false → P x) → All P new
    members true true at moved P all p = absurd (cc at)
    members true false at moved P all p = All-permutation P (x ∷ old) new moved (All-cons P x old (p refl) all)
    members false any at same P all p = subst (All P) (sym same) all
