-- A transaction that was done.
use Rattle.std.proofs.Common.{◌≡◌, ◌∙◌, ap, subst, Option, Some, Result, Ok}
use Rattle.resp_core.specs.declared.RedisError.{RedisError}
use Rattle.resp_core.specs.declared.Value.{Value}
use Rattle.resp_core.specs.Connections.{Connection}
use Rattle.resp_core.specs.Pipelines.{PipelineQuery, Plan}

pub done : (old new : Connection) (p : Plan) (Of : Value → Option (Unit {0}) → Type 0)
    (r : Result (Option (Unit {0})) RedisError) (answer : Option (Unit {0})) (u : Unit {0})
    → r ≡ Ok answer → answer ≡ Some u → PipelineQuery old new p Of r
    → PipelineQuery old new p Of (Ok (Some (tt {0})))
done old new p Of r answer u is some h = subst (λ x. PipelineQuery old new p Of x) (is ∙ ap (λ a. Ok a) some) h
