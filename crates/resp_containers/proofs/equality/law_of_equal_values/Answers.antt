use Rattle.std.proofs.Common.{◌≡◌, true, subst}
use Rattle.resp_containers.proofs.equality.law_of_equal_values.Goals as goal

pub returns : goal.returns
returns g c = λ a b. (
  g.met.T.StructuralEq.structural a b,
  λ same. subst (λ x. g.T.PartialEq.eq a x ≡ true) same (g.met.T.Eq.laws.refl a),
)
