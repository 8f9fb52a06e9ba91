-- What several nodes' replies make together.
use Rattle.std.proofs.Common.{◌≡◌, ◌≢◌, ◌+◌, false, List, ◌++◌, Option, None, Some, Result, Ok, Err, IfErr, MatchOption}
use Rattle.std.proofs.Common.{length, drop, sym, ap, subst, ◌∙◌}
use Rattle.resp_value.specs.declared.value.Value.{Value}
use Rattle.resp_errors.specs.declared.redis_error.RedisError.{RedisError}
use Rattle.resp_errors.specs.declared.redis_error.RedisError.TheVariants as form
use Rattle.resp_routing.specs.declared.commands.ResponsePolicy.{ResponsePolicy}
use Rattle.resp_routing.specs.declared.commands.ResponsePolicy.TheVariants as response
use Rattle.resp_cluster.specs.FannedOut.{CannotCombine, Combines, Makes, addressed, one_is_enough}
use Rattle.resp_cluster.specs.Merges.{IsFirstError, MakesNone, first_error_in, why_none}
use Rattle.resp_cluster.specs.declared.node.NodeAddr.{NodeAddr}

-- the first failure among those that were looked at, where there is one
abbrev pub FirstFailure : List Value → List Value → Option RedisError → Type 0
FirstFailure replies left failure =
    MatchOption failure (first_error_in replies ≡ first_error_in left) (IsFirstError replies)

module _ (makes : Option ResponsePolicy) (nodes : List NodeAddr) (replies : List Value) (is : one_is_enough makes ≡ false) where
  combined_of : (answer : Value) → Combines makes nodes replies answer
      → (first_error_in replies ≡ None) × Makes makes nodes replies answer
  combined_of answer = by makes is
    where
      by : (makes : Option ResponsePolicy) → one_is_enough makes ≡ false → Combines makes nodes replies answer
          → (first_error_in replies ≡ None) × Makes makes nodes replies answer
      by (Some response.OneSucceeded) is h = absurd (let e = is in cc)
      by (Some response.AllSucceeded) is h = h
      by (Some response.AggLogicalAnd) is h = h
      by (Some response.AggMin) is h = h
      by (Some response.AggSum) is h = h
      by (Some response.Special) is h = h
      by None is h = h

  -- none, and they make nothing
  none_made : (e : RedisError) → first_error_in replies ≡ None → MakesNone (Makes makes nodes replies) e
      → CannotCombine makes nodes replies e
  none_made e passed nothing = record {
    none = λ answer h. nothing.none answer (combined_of answer h).1;
    says = nothing.says ∙ ap why_none (sym passed);
  }

  pub made_refused : (made_of : List Value) (r : Result Value RedisError) → made_of ≡ replies → first_error_in replies ≡ None
      → IfErr r (λ e. e ≢ form.OutOfMemory → MakesNone (Makes makes nodes made_of) e)
      → IfErr r (λ e. e ≢ form.OutOfMemory → CannotCombine makes nodes replies e)
  made_refused made_of (Ok answer) same passed h = h
  made_refused made_of (Err e) same passed h = λ differ.
      none_made e passed (subst (λ l. MakesNone (Makes makes nodes l) e) same (h differ))

-- ---- replies by the addresses of their nodes

-- these pairs were made, and these replies are left
pub record PairedSoFar (nodes : List NodeAddr) (replies : List Value) (pairs : List (Value × Value)) (left : List Value) : Type 0 where
  pub paired : pairs ++ addressed (drop (length pairs) nodes) left ≡ addressed nodes replies
  pub as_many : length pairs + length left ≡ length nodes
