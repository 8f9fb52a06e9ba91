use Rattle.std.proofs.Common.{[]}
use Rattle.resp_parse.proofs.FlatBuilding.{flat-kept}
use Rattle.resp_parse.proofs.InMemory.{flat-paid}
use Rattle.resp_parse.proofs.flat_builder.FlatBuilderBuilder.keep.Goals as goal

pub returns : goal.returns
returns c = record {
  stands = λ f fs w k a h.
      let r = c.args.self.now.reply in
      let opens = c.args.self.now.opens.items in
      let kept = flat-kept r opens f fs w h k a in
      (kept, flat-paid r opens _ [] kept);
}
