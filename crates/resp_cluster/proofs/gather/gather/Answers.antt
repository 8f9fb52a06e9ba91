use Rattle.std.proofs.Common.{◌≡◌, ◌+◌, map, length, ap, sym, ◌∙◌, arith}
use Rattle.std.proofs.lemmas.List.{length-map}
use Rattle.std.proofs.lemmas.Result.{err_from_is_err_and}
use Rattle.resp_cluster.specs.Gathered.{no_memory, of_node}
use Rattle.resp_cluster.proofs.Gathers.{as_many, enough_of}
use Rattle.resp_cluster.specs.Gathering.{from_last}
use Rattle.resp_cluster.proofs.gather.gather.Goals as goal

pub in_places-requires-clause-enough : goal.in_places-requires-clause-enough
in_places-requires-clause-enough g c node inside =
    let at : 0 + node ≡ node = omega arith in
    enough_of _ _ _ 0 _ _ _ _ c.in_ok-groups.ensures.sent node inside
    ∙ ap (λ n. length (of_node n c.args.targets.now c.args.commands.now)) at
    ∙ as_many node c.args.targets.now c.args.commands.now c.args.targets.now (sym c.requires.each)

pub returns-clause-gathered : goal.returns-clause-gathered
returns-clause-gathered g c =
    record {
      groups = map from_last c.in_ok-groups.groups.items;
      each = length-map c.in_ok-groups.groups.items from_last ∙ c.in_ok-groups.ensures.count;
      sent = c.in_ok-groups.ensures.sent;
      placed = c.in_ok-replies.ensures.places;
      whole = c.in_ok-replies.ensures.whole ∙ c.requires.each;
    }

pub returns-in_err-replies-clause-refused : goal.returns-in_err-replies-clause-refused
returns-in_err-replies-clause-refused g c =
    let p = err_from_is_err_and c.from_residual-in_err-replies.result c.from_residual-in_err-replies.ensures.1 in
    rw (p.1, p.2) (no_memory (map from_last c.in_ok-groups.groups.items) c.in_ok-groups.ensures.sent c.in_err-replies.ensures.memory)
