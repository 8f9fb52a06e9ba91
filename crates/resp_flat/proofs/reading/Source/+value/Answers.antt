use Rattle.std.proofs.Common.{◌≡◌, suc, ◌+◌, ◌-◌, List, ap, sym, ◌∙◌, arith}
use Rattle.resp_value.specs.declared.value.Value.{Value}
use Rattle.resp_flat.specs.Reading.{next_value, next_values, next_pairs}
use Rattle.resp_flat.proofs.ReadSteps.{continued, value_read, pair_read, as_read, by_token}
use Rattle.resp_flat.proofs.reading.Source.+value.Goals as goal

pub value-returns : goal.value-returns
value-returns t c =
    let more : c.args.levels ≡ suc (c.args.levels - 1) = omega arith in
    as_read _ _ _ _ (by_token _ _ _ _ _ _ _ _ more c.in_ok-token.ensures.token) c.after_token.ensures

pub values-loop-preserved : goal.values-loop-preserved
values-loop-preserved t c =
    let read = next_value c.args.self.now.text.now c.args.levels in
    let more : c.args.count - c.loop.counter ≡ suc (c.args.count - (c.loop.counter + 1)) = omega arith in
    let after = next_values read (c.args.count - (c.loop.counter + 1)) c.value.new.place.tokens.now
    c.value.new.place.at in
    c.loop.invariant ∙ value_read read _ _ c.loop.values _ _ _ _ c.in_ok-value.field-0 more c.in_ok-value.ensures
    ∙ ap (λ (front : List Value). continued front after) (sym c.in_ok-push.ensures.ok)

pub pairs-loop-preserved : goal.pairs-loop-preserved
pairs-loop-preserved t c =
    let read = next_value c.args.self.now.text.now c.args.levels in
    let more : c.args.count - c.loop.counter ≡ suc (c.args.count - (c.loop.counter + 1)) = omega arith in
    let after = next_pairs read (c.args.count - (c.loop.counter + 1)) c.value-in-loop.new.place.tokens.now
    c.value-in-loop.new.place.at in
    c.loop.invariant ∙ pair_read read _ _ c.loop.pairs _ _ _ _ _ _ c.in_ok-key.key c.in_ok-value.field-0 more
    c.in_ok-key.ensures c.in_ok-value.ensures
    ∙ ap (λ (front : List (Value × Value)). continued front after) (sym c.in_ok-push.ensures.ok)
