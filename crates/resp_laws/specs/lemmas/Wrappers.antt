-- Lemmas: a reply is one option and one result of a type at most, where it is one value of what is
-- inside at most.
use Rattle.std.specs.Prelude.{◌≡◌, false, None, Some, option_map, Ok, Err}
use Rattle.std.proofs.Common.{refl, sym, ap, ◌∙◌}
use Rattle.std.proofs.lemmas.Bool.{true≢false}
use Rattle.resp_errors.specs.declared.redis_error.RedisError.TheVariants as form
use Rattle.resp_errors.specs.declared.server_error.ServerError.{ServerError as Failure}
use Rattle.resp_value.specs.declared.value.Value.{Value, ServerError, out-Value}
use Rattle.resp_value.specs.declared.value.Value.TheOpen.{Value-F}
use Rattle.resp_from.specs.Attributes.{stripped}
use Rattle.resp_from.specs.Results.{OfResult, is_error}
use Rattle.resp_from.specs.Wrappers.{OfOption}
use Rattle.resp_from.proofs.TopLayer.{out-ServerError}
use Rattle.resp_laws.specs.Laws.{result_seen}
use Rattle.resp_types.specs.OneValue.{IsSingleValued}

module _ {X S : Type 0} (Of : Value → X → Type 0) (seen : X → S)
    (single : IsSingleValued Of seen) where
  pub one_option : IsSingleValued (OfOption Of) (option_map seen)
  one_option reply None None h k = refl
  one_option reply None (Some y) h k = absurd (true≢false (sym h ∙ k.0))
  one_option reply (Some x) None h k = absurd (true≢false (sym k ∙ h.0))
  one_option reply (Some x) (Some y) h k = ap Some (single (stripped reply) x y h.1 k.1)

-- the error that a reply is, or another
abbrev error_or : Failure → Value-F Value → Failure
error_or other (Value-F.ServerError error) = error
error_or other _ = other

layer_of_error : (reply : Value) (e : Failure) → reply ≡ ServerError e
    → out-Value reply ≡ Value-F.ServerError e
layer_of_error reply e h = ap out-Value h ∙ out-ServerError e

one_error : (reply : Value) (d e : Failure) → reply ≡ ServerError d → reply ≡ ServerError e → d ≡ e
one_error reply d e h k =
    ap (error_or d) (sym (layer_of_error reply d h) ∙ layer_of_error reply e k)

no_error : (reply : Value) (e : Failure) → is_error (out-Value reply) ≡ false
    → reply ≡ ServerError e → ⊥
no_error reply e none h = true≢false (sym (ap is_error (layer_of_error reply e h)) ∙ none)

module _ {X S : Type 0} (Of : Value → X → Type 0) (seen : X → S)
    (single : IsSingleValued Of seen) where
  pub one_result : IsSingleValued (OfResult Of) (result_seen seen)
  one_result reply (Ok x) (Ok y) h k = ap Ok (single reply x y h.1 k.1)
  one_result reply (Ok x) (Err (form.Server e)) h k = absurd (no_error reply e h.0 k)
  one_result reply (Ok x) (Err _) h k = absurd k
  one_result reply (Err (form.Server d)) (Ok y) h k = absurd (no_error reply d k.0 h)
  one_result reply (Err _) (Ok y) h k = absurd h
  one_result reply (Err (form.Server d)) (Err (form.Server e)) h k =
      ap (λ error. Err (form.Server error)) (one_error reply d e h k)
  one_result reply (Err (form.Server d)) (Err _) h k = absurd k
  one_result reply (Err _) (Err e) h k = absurd h
