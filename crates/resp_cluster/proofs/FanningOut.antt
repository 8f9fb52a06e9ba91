-- Which commands go to several nodes; as many equal commands as there are nodes, and the places of nodes.
use Rattle.std.proofs.Common.{◌≡◌, ◌≢◌, ℕ, zero, suc, ◌+◌, ◌<◌, Option, List, [], ◌∷◌, ◌++◌, All, replicate, refl, ap, ◌∙◌, subst, arith}
use Rattle.std.specs.List.{range_with_len}
use Rattle.std.proofs.lemmas.List.FromFn.{length-range_with_len, get_or-range_with_len}
use Rattle.resp_args.specs.Args.{Args}
use Rattle.resp_command.specs.Command.{Command}
use Rattle.resp_command.specs.Connection.{Connection}
use Rattle.resp_errors.specs.declared.redis_error.RedisError.{RedisError}
use Rattle.resp_errors.specs.declared.redis_error.RedisError.TheVariants as form
use Rattle.resp_routing.specs.Refusals.{redis_error_of}
use Rattle.resp_routing.specs.Routes.{HasNoRoute}
use Rattle.resp_routing.specs.declared.commands.RequestPolicy.{RequestPolicy}
use Rattle.resp_routing.specs.declared.commands.ResponsePolicy.{ResponsePolicy}
use Rattle.resp_routing.specs.declared.errors.RoutingError.{RoutingError}
use Rattle.resp_routing.specs.declared.errors.RoutingError.TheVariants as refused
use Rattle.resp_cluster.specs.Cluster.{Cluster, Readies, routed_args}
use Rattle.resp_cluster.specs.FannedOut.{AreNamed, CannotFanOut, FansOut, FansTo, unrouted}
use Rattle.resp_cluster.specs.declared.node.NodeAddr.{NodeAddr}

module _ (c : Command) (args : Args) (shown : args ≡ routed_args c) (e : RedisError) where
  pub unrouted_then : (why : RoutingError) → (why ≢ refused.OutOfMemory → HasNoRoute args why) → e ≡ redis_error_of why
      → e ≢ form.OutOfMemory → CannotFanOut c e
  unrouted_then why none is differ = unrouted why
      (subst (λ a. HasNoRoute a why) shown (none (λ same. differ (is ∙ ap redis_error_of same)))) is

-- the map was looked at in these parts of a cluster
pub fans_to : {L : Type 0} (of_link : L → Connection) (c : Command) (to : RequestPolicy) (makes : Option ResponsePolicy)
    (old ready parts : Cluster L) (nodes : List NodeAddr) → parts ≡ ready → FansOut c to makes → Readies of_link old ready
    → AreNamed to parts.map nodes → FansTo of_link c makes old ready nodes
fans_to of_link c to makes old ready parts nodes view fans readies named = record {
  to = to;
  fans_out = fans;
  readies = readies;
  named = subst (λ k. AreNamed to k.map nodes) view named;
}

next_copy : {X : Type 0} (n : ℕ) (x : X) → replicate n x ++ x ∷ [] ≡ replicate (suc n) x
next_copy zero x = refl
next_copy (suc n) x = ap (λ xs. x ∷ xs) (next_copy n x)

pub one_copy_more : {X : Type 0} (n : ℕ) (x : X) → replicate n x ++ x ∷ [] ≡ replicate (n + 1) x
one_copy_more n x = let e : suc n ≡ n + 1 = omega arith in next_copy n x ∙ ap (λ k. replicate k x) e

next_place : (a n : ℕ) → range_with_len a n ++ (a + n) ∷ [] ≡ range_with_len a (suc n)
next_place a zero = let e : a + zero ≡ a = omega arith in ap (λ k. k ∷ []) e
next_place a (suc n) =
    let e : a + suc n ≡ a + 1 + n = omega arith in
    ap (λ k. a ∷ (range_with_len (a + 1) n ++ k ∷ [])) e ∙ ap (λ xs. a ∷ xs) (next_place (a + 1) n)

pub one_place_more : (n : ℕ) → range_with_len 0 n ++ n ∷ [] ≡ range_with_len 0 (n + 1)
one_place_more n =
    let e : n ≡ 0 + n = omega arith in
    let f : suc n ≡ n + 1 = omega arith in
    ap (λ k. range_with_len 0 n ++ k ∷ []) e ∙ next_place 0 n ∙ ap (range_with_len 0) f

pub places_known : (n : ℕ) → All (λ place. place < n) (range_with_len 0 n)
places_known n k d inside =
    let long = length-range_with_len 0 n in
    let at = get_or-range_with_len 0 n k d (omega (arith, inside, long)) in
    omega (arith, inside, long, at)
