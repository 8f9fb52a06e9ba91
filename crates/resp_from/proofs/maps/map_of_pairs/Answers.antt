use Rattle.resp_from.specs.Maps.{HoldsMap}
use Rattle.resp_from.specs.Replies.{BothShow}
use Rattle.resp_from.proofs.Conversions.{RefusesIf-along, Converts-err}
use Rattle.resp_from.proofs.FlatFilling.{pair_next, pair_refused}
use Rattle.resp_from.proofs.OneByOne.{all_done}
use Rattle.resp_from.proofs.maps.map_of_pairs.Goals as goal

pub returns-in_err-key : goal.returns-in_err-key
returns-in_err-key g c = record {
  converts = λ ps shown.
      let keying = g.M.FillMap.keying in
      let OfKey = g.K.FromRedisValue.of_value in
      let OfValue = g.V.FromRedisValue.of_value in
      let entries = g.M.FillMap.entries in
      let e = c.in_err-key.field-0.0 in
      let at = c.loop-pair.invariant ps shown in
      Converts-err (λ map. HoldsMap keying OfKey OfValue ps (entries map)) c.from_residual.result e
      c.from_residual.ensures
      (RefusesIf-along e (λ none map. none (entries map))
      (pair_refused (BothShow g.R.Reply.shows) keying OfKey OfValue (g.R.Reply.pairs_show c.loop-pair.pairs)
      (g.R.Reply.pairs_show c.next_pair_of.new.pairs) c.in-Some.pair (entries c.loop-pair.map) ps e at
      (c.in-Some.ensures.next at.others at.left) c.in_err-key.ensures.converts));
}

pub loop-pair-preserved : goal.loop-pair-preserved
loop-pair-preserved g c = λ ps shown.
    let entries = g.M.FillMap.entries in
    let at = c.loop-pair.invariant ps shown in
    pair_next (BothShow g.R.Reply.shows) g.M.FillMap.keying g.K.FromRedisValue.of_value g.V.FromRedisValue.of_value
    (g.R.Reply.pairs_show c.loop-pair.pairs) (g.R.Reply.pairs_show c.next_pair_of.new.pairs) c.in-Some.pair
    (entries c.loop-pair.map) ps (entries c.put.new.self)
    c.in_ok-key.key c.in_ok-key.value at (c.in-Some.ensures.next at.others at.left) c.in_ok-key.ensures.converts
    c.in_ok-put.ensures.merged

pub returns : goal.returns
returns g c = record {
  converts = λ ps shown.
      let at = c.loop-pair.invariant ps shown in
      all_done (BothShow g.R.Reply.shows) (g.R.Reply.pairs_show c.next_pair_of.new.pairs)
      (g.R.Reply.pairs_show c.loop-pair.pairs)
      (λ done. HoldsMap g.M.FillMap.keying g.K.FromRedisValue.of_value g.V.FromRedisValue.of_value done
      (g.M.FillMap.entries c.loop-pair.map)) ps at (c.in_default.ensures.next at.others at.left);
}
