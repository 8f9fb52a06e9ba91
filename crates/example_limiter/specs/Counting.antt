-- What a verdict says.
use Rattle.std.specs.Prelude.{◌≡◌, ◌≤ℤ◌, ◌<ℤ◌, ℤ}
use Rattle.example_limiter.specs.declared.limit.Verdict.{Verdict}
use Rattle.example_limiter.specs.declared.limit.Verdict.TheVariants.{Allowed, Denied, NotACounter}

-- a verdict on so many calls: within the limit or past it
abbrev pub Judges : ℤ → ℤ → Verdict → Type 0
Judges calls limit (Allowed n) = (n ≡ calls) × (calls ≤ℤ limit)
Judges calls limit (Denied n) = (n ≡ calls) × (limit <ℤ calls)
Judges calls limit (NotACounter e) = ⊥
