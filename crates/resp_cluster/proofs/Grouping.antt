-- Commands put into the groups of their nodes, and sent.
use Rattle.std.proofs.Common.{◌≡◌, ℕ, ◌+◌, ◌<◌, ◌≤◌, ◌==◌, Bool, true, false, List, [], ◌∷◌, ◌++◌, Some, length, take, get_or}
use Rattle.std.proofs.Common.{refl, sym, ap, ◌∙◌, eqb-true, length-append, slice_get, slice_set}
use Rattle.std.proofs.lemmas.Bool.{eqb-false}
use Rattle.std.proofs.lemmas.Option.{slice_get-get_or}
use Rattle.std.proofs.Common.{Result, Ok, Err, IfOk}
use Rattle.std.specs.Global.{Vec}
use Rattle.resp_value.specs.declared.value.Value.{Value}
use Rattle.resp_errors.specs.declared.redis_error.RedisError.{RedisError}
use Rattle.resp_command.specs.Command.{Command}
use Rattle.resp_command.specs.Packed.{packed}
use Rattle.resp_cluster.specs.Gathered.{SentGroup, of_node}
use Rattle.resp_cluster.specs.Gathering.{AreGroups, IsGroupOf}
use Rattle.resp_cluster.specs.declared.gather.Group.{Group}
use Rattle.resp_cluster.specs.declared.node.NodeAddr.{NodeAddr}
use Rattle.resp_cluster.proofs.Gathers.{at_most, next_elsewhere, next_here, request_push}
use Rattle.resp_cluster.proofs.OneSet.{what_was_set, what_stayed}

-- the group at a place
pub group_at : (targets : List ℕ) (commands : List Command) (groups : List Group) (place : ℕ) (group : Group)
    → AreGroups targets commands groups → place < length groups → group ≡ get_or groups place group
    → IsGroupOf (of_node place targets commands) group
group_at targets commands groups place group are inside there =
    are place group (slice_get-get_or groups place group inside ∙ ap Some (sym there))

module _ (targets : List ℕ) (commands : List Command) (place : ℕ) (groups : List Group) (old : Group)
    (are : AreGroups (take place targets) (take place commands) groups) (inside : get_or targets place 0 < length groups)
    (there : old ≡ get_or groups (get_or targets place 0) old) where
  abbrev target : ℕ
  target = get_or targets place 0

  -- the group of the next command's node
  its_group : IsGroupOf (of_node target (take place targets) (take place commands)) old
  its_group = group_at (take place targets) (take place commands) groups target old are inside there

  pub no_more_than_places : old.count ≤ place
  no_more_than_places = rw its_group.1 (at_most target targets commands place)

  -- the next command is put into it
  module _ (same : length targets ≡ length commands) (within : place < length commands) (command : Command)
      (at : command ≡ get_or commands place command) (group : Group)
      (request : group.request.items ≡ old.request.items ++ packed command.args) (count : group.count ≡ old.count + 1) where
    with_one_more : (node : ℕ) → target ≡ node → IsGroupOf (of_node node (take place targets) (take place commands)) old
        → IsGroupOf (of_node node (take (place + 1) targets) (take (place + 1) commands)) group
    with_one_more node is (request_is, count_is) =
        rw (next_here node targets commands place command same within at is) (
          request ∙ ap (λ l. l ++ packed command.args) request_is ∙ sym (request_push _ command),
          count ∙ ap (λ n. n + 1) count_is ∙ sym (length-append _ (command ∷ [])),
        )

    pub one_put : AreGroups (take (place + 1) targets) (take (place + 1) commands) (slice_set groups target group)
    one_put node other is = by (target == node) refl
      where
        by : (b : Bool) → (target == node) ≡ b
            → IsGroupOf (of_node node (take (place + 1) targets) (take (place + 1) commands)) other
        by true test =
            let here : target ≡ node = eqb-true target node test in
            let set : other ≡ group = what_was_set groups target group other (ap (slice_get (slice_set groups target group)) here ∙ is) in
            rw set (with_one_more node here (rw (← here) its_group))
        by false test =
            rw (next_elsewhere node targets commands place command same within (eqb-false target node test))
            (are node other (what_stayed groups target node group other (λ e. eqb-false target node test (sym e)) is))

-- a node was sent a group that is not empty
pub sent_group : {S : Type 0} (sends : S → S → NodeAddr → List ℕ → ℕ → Result (Vec Value) RedisError → Type 0)
    (commands : List Command) (old : S) (node : NodeAddr) (new : S) (group : Group) (result : Result (Vec Value) RedisError)
    → IsGroupOf commands group → (group.count ≡ 0 → ⊥) → sends old new node group.request.items group.count result
    → IfOk result (λ replies. length replies.items ≡ group.count)
    → IfOk result (λ replies. SentGroup sends commands old node replies.items new)
sent_group sends commands old node new group (Ok given) (request, count) some sent counted = record {
  counted = counted ∙ count;
  none = λ empty. absurd (some (count ∙ ap length empty));
  some = λ _. (given, (refl, rw (← request, ← count) sent));
}
sent_group sends commands old node new group (Err e) is some sent counted = tt
