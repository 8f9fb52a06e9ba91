use Rattle.std.proofs.Common.{◌≡◌, ◌<◌, List, [], ◌∷◌, ◌++◌, length, sym, ap, ◌∙◌, subst, append_assoc, rules}
use Rattle.std.proofs.lemmas.List.{append-nil, nil_from_length}
use Rattle.std.specs.Vec.Iter.{into_iter_items}
use Rattle.resp_value.specs.declared.value.Value.{Value, Array}
use Rattle.resp_from.specs.Conversion.{RefusesIf}
use Rattle.resp_from.specs.Rules.{AreGroups}
use Rattle.resp_from.proofs.Groups.{IsCutting-group, IsCutting-short, length-positive}
use Rattle.resp_from.proofs.rules.groups_of.Goals as goal

pub loop-reply-preserved-then-len-width : goal.loop-reply-preserved-then-len-width
loop-reply-preserved-then-len-width c =
    let grown : c.push.new.self ≡ c.loop-reply.group ++ c.in-Some.reply ∷ [] = search rules in
    let arrays : c.push-then-len-width.new.self.items ≡ c.loop-reply.groups.items
    ++ Array (c.loop-reply.group ++ c.in-Some.reply ∷ []) ∷ [] = c.in_ok-push-2.ensures.items
    ∙ ap (λ g. c.loop-reply.groups.items ++ Array g ∷ []) grown in
    let full : length (c.loop-reply.group ++ c.in-Some.reply ∷ []) ≡ c.args.width = ap length (sym grown)
    ∙ (sym c.len-in-loop-reply.ensures ∙ c.if-len-width.true) in
    record {
      same = c.loop-reply.invariant.same ∙ (ap (λ vs. c.loop-reply.yielded ++ vs) c.in-Some.ensures.steps.0
          ∙ sym (append_assoc c.loop-reply.yielded (c.in-Some.reply ∷ []) (into_iter_items c.next.new.self)));
      cut = rw (arrays, c.new-group-then-len-width.ensures)
          (IsCutting-group c.args.width c.loop-reply.yielded c.loop-reply.groups.items c.loop-reply.group
          c.in-Some.reply c.loop-reply.invariant.cut full c.requires);
    }

pub returns-then-not-is_empty : goal.returns-then-not-is_empty
returns-then-not-is_empty c =
    let all : c.args.replies.items ≡ c.loop-reply.yielded = c.loop-reply.invariant.same
    ∙ (ap (λ vs. c.loop-reply.yielded ++ vs)
    (nil_from_length (into_iter_items c.loop-reply.reply-iterator) (search (rules, c.in-None.ensures.steps.0)))
    ∙ append-nil c.loop-reply.yielded) in
    let some : 0 < length c.loop-reply.group = length-positive c.loop-reply.group (search rules) in
    let none : (others : List Value) → AreGroups c.args.width c.args.replies.items others
    → ⊥ = λ others k. IsCutting-short c.args.width c.loop-reply.yielded c.loop-reply.groups.items c.loop-reply.group
    c.loop-reply.invariant.cut some others (subst (λ vs. AreGroups c.args.width vs others) all k) in
    record {
      converts = subst (λ e. RefusesIf e
          ((others : List Value) → AreGroups c.args.width c.args.replies.items others → ⊥)) (sym c.from.ensures) none;
    }
