use Rattle.std.proofs.Common.{ap, ◌∙◌}
use Rattle.resp_types.specs.Fields.{named, value_of, without}
use Rattle.resp_types.proofs.Naming.{lookup-named, named-remove_entry}
use Rattle.resp_types.proofs.fields.Fields.remove.Goals as goal

pub returns-clause-value : goal.returns-clause-value
returns-clause-value c = c.remove.ensures.value
    ∙ (lookup-named c.args.name.now c.self.inside.entries.entries ∙ ap (value_of c.args.name.now) c.self.view_is)

pub returns-clause-left : goal.returns-clause-left
returns-clause-left c = ap named c.remove.ensures.entries
    ∙ (named-remove_entry c.args.name.now c.self.inside.entries.entries ∙ ap (without c.args.name.now) c.self.view_is)
