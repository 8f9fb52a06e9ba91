-- Maps that are filled from keys and values in turn.
use Rattle.std.proofs.Common.{◌≡◌, ◌++◌, ◌∷◌, [], ◌%◌, length, List, refl, sym, ap, ◌∙◌, subst, Some, arith}
use Rattle.resp_containers.specs.Keyed.{Keying, IsMerged}
use Rattle.resp_errors.specs.declared.parsing_error.ParsingError.{ParsingError}
use Rattle.resp_value.specs.declared.value.Value.{Value}
use Rattle.resp_value.specs.Views.{pairs}
use Rattle.resp_from.specs.Conversion.{RefusesIf}
use Rattle.resp_from.specs.Maps.{OfPair, HoldsMap}
use Rattle.resp_from.specs.Replies.{GivesNext}
use Rattle.resp_from.proofs.Conversions.{RefusesIf-along}
use Rattle.resp_from.proofs.FlatFilling.{pair_next, pair_refused}
use Rattle.resp_from.proofs.OneByOne.{AtSome}

-- these pairs are those of the keys and values that are left
abbrev pub Left : List Value → List (Value × Value) → Type 0
Left rest others = others ≡ pairs rest

abbrev Same : Value × Value → Value × Value → Type 0
Same r p = r ≡ p

both : (key value : Value) (before middle rest : List Value) → before ≡ key ∷ middle → middle ≡ value ∷ rest
    → before ≡ key ∷ value ∷ rest
both key value before middle rest first second = first ∙ ap (λ vs. key ∷ vs) second

even-step : (key value : Value) (rest : List Value) → length (key ∷ value ∷ rest) % 2 ≡ 0 → length rest % 2 ≡ 0
even-step key value rest even = omega (arith, even)

pub even_next : (key value : Value) (before middle rest : List Value) → before ≡ key ∷ middle → middle ≡ value ∷ rest
    → length before % 2 ≡ 0 → length rest % 2 ≡ 0
even_next key value before middle rest first second even =
    even-step key value rest (subst (λ vs. length vs % 2 ≡ 0) (both key value before middle rest first second) even)

odd-one : (key : Value) (before : List Value) → before ≡ key ∷ [] → length before % 2 ≡ 0 → ⊥
odd-one key before is even = absurd (cc (subst (λ vs. length vs % 2 ≡ 0) is even))

given : (Made : List (Value × Value) → Type 0) (key value : Value) (rest before : List Value)
    (ps : List (Value × Value)) → before ≡ key ∷ value ∷ rest → (h : AtSome (Left before) Made ps)
    → GivesNext Same (Left rest) (Some (key, value)) h.others
given Made key value rest before ps is h =
    subst (λ others. GivesNext Same (Left rest) (Some (key, value)) others) (sym (h.left ∙ ap pairs is)) (refl, refl)

module _ {K V : Type 0} (keying : Keying K) (OfKey : Value → K → Type 0) (OfValue : Value → V → Type 0) (key : Value)
    (before : List Value) (old : List (K × V)) (ps : List (Value × Value)) where
  abbrev Filled : List (K × V) → List (Value × Value) → Type 0
  Filled entries done = HoldsMap keying OfKey OfValue done entries

  pub entry_next : (value : Value) (middle rest : List Value) (new : List (K × V)) (k : K) (v : V)
      → before ≡ key ∷ middle → middle ≡ value ∷ rest → AtSome (Left before) (Filled old) ps → OfKey key k
      → OfValue value v
      → ((done : List (K × V)) → IsMerged keying done old → IsMerged keying (done ++ (k, v) ∷ []) new)
      → AtSome (Left rest) (Filled new) ps
  entry_next value middle rest new k v first second h of_key of_value put =
      pair_next Same keying OfKey OfValue (Left before) (Left rest) (key, value) old ps new k v h
      (given (Filled old) key value rest before ps (both key value before middle rest first second) h)
      (λ p same. subst (λ q. OfPair OfKey OfValue q (k, v)) same (of_key, of_value)) put

  entry-refused : (value : Value) (rest : List Value) (e : ParsingError) → before ≡ key ∷ value ∷ rest
      → AtSome (Left before) (Filled old) ps
      → RefusesIf e ((x : K × V) → OfPair OfKey OfValue (key, value) x → ⊥)
      → RefusesIf e ((entries : List (K × V)) → HoldsMap keying OfKey OfValue ps entries → ⊥)
  entry-refused value rest e is h none =
      pair_refused Same keying OfKey OfValue (Left before) (Left rest) (key, value) old ps e h
      (given (Filled old) key value rest before ps is h)
      (λ p same. subst (λ q. RefusesIf e ((x : K × V) → OfPair OfKey OfValue q x → ⊥)) same none)

  -- a key has a value, since their number is even
  pub key_refused : (middle : List Value) (e : ParsingError) → before ≡ key ∷ middle → length before % 2 ≡ 0
      → AtSome (Left before) (Filled old) ps → RefusesIf e ((k : K) → OfKey key k → ⊥)
      → RefusesIf e ((entries : List (K × V)) → HoldsMap keying OfKey OfValue ps entries → ⊥)
  key_refused [] e first even h none = absurd (odd-one key before first even)
  key_refused (value ∷ rest) e first even h none =
      entry-refused value rest e first h (RefusesIf-along e (λ f x of. f x.0 of.0) none)

  pub value_refused : (value : Value) (middle rest : List Value) (e : ParsingError) → before ≡ key ∷ middle
      → middle ≡ value ∷ rest → AtSome (Left before) (Filled old) ps → RefusesIf e ((v : V) → OfValue value v → ⊥)
      → RefusesIf e ((entries : List (K × V)) → HoldsMap keying OfKey OfValue ps entries → ⊥)
  value_refused value middle rest e first second h none =
      entry-refused value rest e (both key value before middle rest first second) h
      (RefusesIf-along e (λ f x of. f x.1 of.1) none)
