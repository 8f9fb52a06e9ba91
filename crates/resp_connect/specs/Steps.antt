-- Commands of a greeting that are packed to be sent at once.
use Rattle.std.specs.Prelude.{◌≡◌, ℕ, List, ◌++◌}
use Rattle.resp_connect.specs.declared.greeting.GreetingStep.{GreetingStep}
use Rattle.resp_connect.specs.Greeting.{Said, request, steps_of}

-- the bytes and the steps are those of these commands
abbrev pub Holds : List ℕ → List GreetingStep → List Said → Type 0
Holds bytes steps said = (bytes ≡ request said) × (steps ≡ steps_of said)

-- those of these commands were added
abbrev pub Adds : List ℕ → List GreetingStep → List ℕ → List GreetingStep → List Said → Type 0
Adds bytes steps bytes' steps' said = (bytes' ≡ bytes ++ request said) × (steps' ≡ steps ++ steps_of said)
