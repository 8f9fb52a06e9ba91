use Rattle.resp_parse.specs.KeptElements.{padded, waits_in}
use Rattle.resp_parse.proofs.PairedElements.{same-pairs, even-left, odd-left}
use Rattle.resp_parse.proofs.elements.Elements.into_pairs.Goals as goal

pub returns-in-Key : goal.returns-in-Key
returns-in-Key c = record {
  pairs = λ vs e.
      let same = same-pairs c.args.self c.in-Pairs.pairs (padded vs) c.in-Pairs.waits (waits_in vs) c.in-Pairs.is e in
      odd-left c.in-Pairs.pairs c.pop.new.self vs c.in-Pairs.waits c.pop.result c.pop.ensures same.0 same.1 c.in-Key.is;
}

pub returns : goal.returns
returns c = record {
  pairs = λ vs e.
      let same = same-pairs c.args.self c.in-Pairs.pairs (padded vs) c.in-Pairs.waits (waits_in vs) c.in-Pairs.is e in
      even-left c.in-Pairs.pairs vs c.in-Pairs.waits same.0 same.1 c.in-Nothing.is;
}
