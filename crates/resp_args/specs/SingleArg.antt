-- Values that are always one argument, as a key is.
use Rattle.std.specs.Prelude.{◌≡◌, ℕ, List, refl}
use Rattle.resp_args.specs.Args.{Args, IsOnly, GivesOne, Never}

-- a value is always one argument: it gives exactly one, is never refused, and counts for one
pub record IsSingle {X : Type 0} (Gives : X → Args → Type 0) (Refuses : X → Type 0)
    (count : X → ℕ) : Type 0 where
  pub gives_one : (x : X) (args : Args) → Gives x args → (arg : List ℕ) × IsOnly arg args
  pub is_taken : (x : X) → Refuses x → ⊥
  pub counts_one : (x : X) → count x ≡ 1

pub one_argument : {X : Type 0} (bytes : X → List ℕ) → IsSingle (GivesOne bytes) Never (λ _. 1)
one_argument bytes = record {
  gives_one = λ x args only. (bytes x, only);
  is_taken = λ _ refused. refused;
  counts_one = λ _. refl;
}

-- what holds of the target holds of what leads to it
pub single_through : {X Y : Type 0} (target : Y → X) {Gives : X → Args → Type 0}
    {Refuses : X → Type 0} {count : X → ℕ} → IsSingle Gives Refuses count
    → IsSingle (λ y. Gives (target y)) (λ y. Refuses (target y)) (λ y. count (target y))
single_through target single = record {
  gives_one = λ y. single.gives_one (target y);
  is_taken = λ y. single.is_taken (target y);
  counts_one = λ y. single.counts_one (target y);
}
