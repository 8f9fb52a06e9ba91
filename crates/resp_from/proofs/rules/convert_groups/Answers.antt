use Rattle.std.proofs.Common.{◌≡◌, List, [], ◌∷◌, ◌++◌, length, sym, ap, ◌∙◌, subst, append_assoc, rules}
use Rattle.std.proofs.lemmas.List.{append-nil, nil_from_length}
use Rattle.std.specs.Vec.Iter.{into_iter_items}
use Rattle.resp_value.specs.declared.value.Value.{Array}
use Rattle.resp_from.specs.Conversion.{RefusesIf}
use Rattle.resp_from.specs.Rules.{OfGroups}
use Rattle.resp_from.proofs.Conversions.{ConvertsList-err, RefusesIf-along}
use Rattle.resp_from.proofs.Groups.{all_groups, group_more, group_refused, uneven_refused}
use Rattle.resp_from.proofs.rules.convert_groups.Goals as goal

pub returns-then-len-width-ne0 : goal.returns-then-len-width-ne0
returns-then-len-width-ne0 g c =
    let Of = g.T.FromRedisValue.of_value in
    let none : (xs : List _) → OfGroups c.args.width Of c.args.replies.items xs
    → ⊥ = uneven_refused c.args.width Of c.requires c.args.replies.items (search rules) in
    record {
      converts = subst (λ e. RefusesIf e ((xs : List _) → OfGroups c.args.width Of c.args.replies.items xs → ⊥))
          (sym c.from.ensures) none;
    }

pub returns-in_err-from_redis_value : goal.returns-in_err-from_redis_value
returns-in_err-from_redis_value g c =
    let Of = g.T.FromRedisValue.of_value in
    let rest = into_iter_items c.next.new.self in
    let grown : c.push.new.self ≡ c.loop-reply.group ++ c.in-Some.reply ∷ [] = search rules in
    let full : length (c.loop-reply.group ++ c.in-Some.reply ∷ []) ≡ c.args.width = ap length (sym grown)
    ∙ (sym c.len-in-loop-reply.ensures ∙ c.if-len-width.true) in
    let same : c.args.replies.items ≡ c.loop-reply.yielded ++ c.in-Some.reply ∷ rest = c.loop-reply.invariant.same
    ∙ ap (λ vs. c.loop-reply.yielded ++ vs) c.in-Some.ensures.steps.0 in
    let refused = group_refused c.args.width Of c.requires c.args.replies.items c.loop-reply.yielded rest
    c.loop-reply.group c.in-Some.reply c.loop-reply.all.items c.loop-reply.invariant.held same full in
    let none : RefusesIf c.in_err-from_redis_value.field-0.0
    ((x : _) → Of (Array (c.loop-reply.group ++ c.in-Some.reply ∷ [])) x → ⊥) = subst
    (λ vs. RefusesIf c.in_err-from_redis_value.field-0.0 ((x : _) → Of (Array vs) x → ⊥)) grown
    c.in_err-from_redis_value.ensures.converts in
    record {
      converts = ConvertsList-err _ _ _ c.from_residual-in_err-from_redis_value.ensures
          (RefusesIf-along _ refused none);
    }

pub loop-reply-preserved-then-len-width : goal.loop-reply-preserved-then-len-width
loop-reply-preserved-then-len-width g c =
    let Of = g.T.FromRedisValue.of_value in
    let grown : c.push.new.self ≡ c.loop-reply.group ++ c.in-Some.reply ∷ [] = search rules in
    let full : length (c.loop-reply.group ++ c.in-Some.reply ∷ []) ≡ c.args.width = ap length (sym grown)
    ∙ (sym c.len-in-loop-reply.ensures ∙ c.if-len-width.true) in
    let of : Of (Array (c.loop-reply.group ++ c.in-Some.reply ∷ [])) c.in_ok-from_redis_value.field-0 = subst
    (λ vs. Of (Array vs) c.in_ok-from_redis_value.field-0) grown c.in_ok-from_redis_value.ensures.converts in
    record {
      same = c.loop-reply.invariant.same ∙ (ap (λ vs. c.loop-reply.yielded ++ vs) c.in-Some.ensures.steps.0
          ∙ sym (append_assoc c.loop-reply.yielded (c.in-Some.reply ∷ []) (into_iter_items c.next.new.self)));
      held = rw (c.in_ok-push-2.ensures.items, c.new-group-then-len-width.ensures)
          (group_more c.args.width Of c.requires c.loop-reply.yielded c.loop-reply.group c.in-Some.reply
          c.loop-reply.all.items c.in_ok-from_redis_value.field-0 c.loop-reply.invariant.held full of);
    }

pub returns : goal.returns
returns g c =
    let all : c.args.replies.items ≡ c.loop-reply.yielded = c.loop-reply.invariant.same
    ∙ (ap (λ vs. c.loop-reply.yielded ++ vs)
    (nil_from_length (into_iter_items c.loop-reply.reply-iterator) (search (rules, c.in-None.ensures.steps.0)))
    ∙ append-nil c.loop-reply.yielded) in
    let of = g.T.FromRedisValue.of_value in
    let whole : OfGroups c.args.width of c.loop-reply.yielded c.loop-reply.all.items = all_groups c.args.width of
    c.requires c.loop-reply.yielded c.loop-reply.group c.loop-reply.all.items c.loop-reply.invariant.held
    (search rules) in
    record { converts = subst (λ vs. OfGroups c.args.width of vs c.loop-reply.all.items) (sym all) whole }
