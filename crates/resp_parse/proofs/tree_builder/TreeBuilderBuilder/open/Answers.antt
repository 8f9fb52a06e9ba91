use Rattle.std.proofs.Common.{◌≡◌, ◌∷◌, ◌++◌, [], rules, ap, sym, ◌∙◌}
use Rattle.resp_parse.specs.KeptElements.{kept_as}
use Rattle.resp_parse.proofs.TreeLists.{opened-lists}
use Rattle.resp_parse.proofs.tree_builder.TreeBuilderBuilder.open.Goals as goal

pub returns : goal.returns
returns c = record {
  stands = λ fs f b h.
      let outer = c.args.self.now.outer.items in
      let elements = c.args.self.now.elements in
      let pushed : c.push_reserved.new.self.items ≡ outer ++ (elements ∷ []) = search rules in (
        pushed ∙ opened-lists outer elements fs h,
        c.replace.ensures.after ∙ c.in_ok-room.ensures
            ∙ ap (kept_as c.args.kind) (sym b.none) ∙ ap (λ k. kept_as k f.seen) (sym b.kind_is),
      );
}
