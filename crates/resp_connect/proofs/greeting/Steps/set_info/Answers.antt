use Rattle.std.proofs.Common.{◌≡◌, ◌∷◌, [], OnOk, rules, subst}
use Rattle.std.specs.Prelude.{codes}
use Rattle.resp_args.specs.Args.{Args}
use Rattle.resp_connect.specs.Steps.{Adds}
use Rattle.resp_connect.specs.declared.greeting.GreetingStep.TheVariants.{SetInfo}
use Rattle.resp_connect.proofs.greeting.Steps.set_info.Goals as goal

pub returns-clause-added : goal.returns-clause-added
returns-clause-added c =
    let words : c.push_arg-3.new.self.args ≡ codes "CLIENT" ∷ codes "SETINFO" ∷ codes "LIB-NAME" ∷ codes "resp_core" ∷ [] =
    search rules in
    subst (λ (args : Args). OnOk c.say.result (Adds c.args.self.now.bytes.items c.args.self.now.steps.items
    c.say.new.self.bytes.items c.say.new.self.steps.items (record { step = SetInfo; args = args } ∷ []))) words
    c.say.ensures.added
