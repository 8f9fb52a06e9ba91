-- The replies to a transaction, taken apart at the last of them.
use Rattle.std.proofs.Common.{◌≡◌, List, [], ◌∷◌, ◌++◌, drop, Result, refl, sym, ap, ◌∙◌, subst}
use Rattle.resp_value.specs.declared.value.Value.{Value}
use Rattle.resp_errors.specs.declared.redis_error.RedisError.{RedisError}
use Rattle.resp_pipeline.specs.Outcome.{Concludes}
use Rattle.resp_pipeline.specs.Pipeline.{Plan}

-- equal lists have equal last items, and equal items before them
same_ends : {X : Type 0} (xs ys : List X) (a b : X) → xs ++ a ∷ [] ≡ ys ++ b ∷ [] → (xs ≡ ys) × (a ≡ b)
same_ends [] [] a b e = (refl, cc)
same_ends [] (y ∷ []) a b e = cc
same_ends [] (y ∷ z ∷ ys) a b e = cc
same_ends (x ∷ []) [] a b e = cc
same_ends (x ∷ z ∷ xs) [] a b e = cc
same_ends (x ∷ xs) (y ∷ ys) a b e =
    let rest = same_ends xs ys a b (cc) in
    let first : x ≡ y = cc in
    (ap (λ h. h ∷ xs) first ∙ ap (λ t. y ∷ t) rest.0, rest.1)

-- what the last reply makes after those before it, it makes however all are taken apart
pub concluded : {X : Type 0} (p : Plan) (Of : Value → X → Type 0) (r : Result X RedisError)
    (before replies : List Value) (last : Value) → replies ≡ before ++ last ∷ [] → Concludes p Of r (drop 1 before) last
    → (multi exec : Value) (queued : List Value) → replies ≡ multi ∷ (queued ++ exec ∷ [])
    → Concludes p Of r queued exec
concluded p Of r before replies last was h multi exec queued is =
    let same = same_ends before (multi ∷ queued) last exec (sym was ∙ is) in
    subst (λ (v : Value). Concludes p Of r queued v) same.1
    (subst (λ (vs : List Value). Concludes p Of r (drop 1 vs) last) same.0 h)
