-- Lemma: clones of types that are `Copy` are the values.
use Rattle.std.specs.Prelude.{◌≡◌, ⊤}
use Rattle.resp_containers.specs.Clones.{IsExact}

pub of_copies : {A : Type 0} → IsExact (λ (a b : A). b ≡ a) (λ _. ⊤)
of_copies = record { same = λ a b clone. clone; succeeds = λ a. tt }
