-- A command that is not split.
use Rattle.std.proofs.Common.{◌≡◌, ◌≢◌, ℕ, ◌+◌, ◌<◌, ◌%◌, Bor, List, [], ◌∷◌, None, Some, length, refl, subst, ap, ◌∙◌, arith}
use Rattle.std.proofs.lemmas.List.{length-map}
use Rattle.resp_args.specs.Args.{Args}
use Rattle.resp_command.specs.Command.{Command}
use Rattle.resp_errors.specs.declared.redis_error.RedisError.{RedisError}
use Rattle.resp_errors.specs.declared.redis_error.RedisError.TheVariants as form
use Rattle.resp_routing.specs.Commands.{command_in, command_of, words}
use Rattle.resp_routing.specs.Refusals.{redis_error_of}
use Rattle.resp_routing.specs.declared.commands.CommandInfo.{CommandInfo}
use Rattle.resp_routing.specs.declared.errors.RoutingError.{RoutingError}
use Rattle.resp_routing.specs.declared.errors.RoutingError.TheVariants as refused
use Rattle.resp_cluster.specs.Cluster.{routed_args}
use Rattle.resp_cluster.specs.Spread.{CannotSplit, HasNoParts, uneven}
use Rattle.resp_cluster.specs.Splits.{width_of}

pub unsplit_then : (c : Command) (args : Args) (shown : args ≡ routed_args c) (e : RedisError) (why : RoutingError)
    → (why ≢ refused.OutOfMemory → HasNoParts args why) → e ≡ redis_error_of why → e ≢ form.OutOfMemory → CannotSplit c e
unsplit_then c args shown e why none is differ = record {
  why = why;
  no_parts = subst (λ a. HasNoParts a why) shown (none (λ same. differ (is ∙ ap redis_error_of same)));
  says = is;
}

-- no arguments are in no table
pub no_words : (args : List (Bor (List ℕ))) → length args < 1 → command_of (words args) ≡ None
unfolding command_in
no_words [] none = refl
no_words (arg ∷ args) none = absurd (omega arith)

pub uneven_then : (args rest : List (Bor (List ℕ))) (row : CommandInfo) (width : ℕ) (why : RoutingError) → length rest + 1 ≡ length args
    → command_of (words args) ≡ Some row → width ≡ width_of row.keys → length rest % width ≢ 0 → why ≡ refused.WrongArity
    → HasNoParts (words args) why
uneven_then [] rest row width why long row_of width_is left is = absurd (omega arith)
uneven_then (arg ∷ args) rest row width why long row_of width_is left is =
    let back = length-map args (λ a. a.now) in
    let same : length rest ≡ length (words args) = omega (arith, back) in
    uneven arg.now (words args) row refl row_of (λ none. left (ap (λ n. n % width) same ∙ ap (λ w. length (words args) % w) width_is ∙ none)) is
