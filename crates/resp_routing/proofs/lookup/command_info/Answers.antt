use Rattle.resp_routing.specs.declared.table.TheConstants.{COMMANDS}
use Rattle.resp_routing.proofs.CommonNames.{in_place}
use Rattle.resp_routing.proofs.FirstWords.{of_name, of_none, of_words}
use Rattle.resp_routing.proofs.lookup.command_info.Goals as goal

pub row_named-requires : goal.row_named-requires
row_named-requires c = in_place

pub returns-in-empty : goal.returns-in-empty
returns-in-empty c = of_none COMMANDS c.args.args.now c.in-empty.len_below

pub returns-in-len1 : goal.returns-in-len1
returns-in-len1 c = of_name COMMANDS c.args.args.now _ _ c.in-len1.len_at_least c.in-len1.len_below c.row_named.ensures

pub returns-in-len2-up : goal.returns-in-len2-up
returns-in-len2-up c = of_words COMMANDS c.args.args.now _ _ _ c.in-len2-up.len_at_least c.info_of_two.ensures
