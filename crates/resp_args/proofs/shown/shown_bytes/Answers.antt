use Rattle.std.proofs.Common.{◌≡◌, ◌++◌, List, ℕ, Option, None, Some, ◌∙◌, ap, IfSome, []}
use Rattle.std.specs.Fmt.{WritesText}
use Rattle.std.proofs.lemmas.Fmt.{contents_after_writes}
use Rattle.resp_args.specs.declared.shown.Shown.{Shown}
use Rattle.resp_args.proofs.shown.shown_bytes.Goals as goal

-- what was written to no bytes are the bytes
all_of_it : (old new : Shown) (output : Option (List ℕ)) → old.bytes.items ≡ []
    → WritesText (λ s text t. t.bytes.items ≡ s.bytes.items ++ text) old output new
    → IfSome output (λ text. new.bytes.items ≡ text)
all_of_it old new None empty h = tt
all_of_it old new (Some text) empty h = contents_after_writes _ (λ s. s.bytes.items) (λ w l v t. t) old text new h
    ∙ ap (λ l. l ++ text) empty

pub returns-in-Ok-clause-shown : goal.returns-in-Ok-clause-shown
returns-in-Ok-clause-shown g c = all_of_it _ c.write-result.new.self (g.D.Display.output c.args.value)
    c.new.ensures.items (c.in-Ok.ensures.writes)
