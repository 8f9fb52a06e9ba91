-- What the sends so far came to.
use Rattle.std.proofs.Common.{◌≡◌, ℕ, ◌+◌, ◌-◌, ◌<◌, Bool, List, [], ◌∷◌, ◌++◌, length, refl, inl, inr, Option, Some, None, length-append, zero-add, arith}
use Rattle.std.proofs.lemmas.Fn.{FoldsTo-push}
use Rattle.std.specs.List.{FoldsTo}
use Rattle.resp_cluster.specs.Routed.{Turn, SentOn, Followed, Interrupted, Leads, Learns}
use Rattle.resp_cluster.specs.declared.node.NodeAddr.{NodeAddr}
use Rattle.resp_cluster.specs.declared.node.SlotRange.{SlotRange}
use Rattle.resp_cluster.specs.declared.redirect.Redirect.{Redirect}

module _ {S T : Type 0} (sends : S → S → NodeAddr → Bool → T → Type 0) (redirects : NodeAddr → T → Redirect → Type 0)
    (first : NodeAddr × Bool) (budget : ℕ) (old : S) (old_map : List SlotRange) where
  pub record SoFar (left : ℕ) (now : Turn S) : Type 0 where
    pub earlier : List T
    pub followed : FoldsTo (SentOn sends redirects) (record { nodes = old; map = old_map; to = first }) earlier now
    pub count : length earlier + left ≡ budget

  pub none_yet : SoFar budget (record { nodes = old; map = old_map; to = first })
  none_yet = record { earlier = []; followed = refl; count = zero-add budget }

  pub one_more : (left : ℕ) (now : Turn S) (reply : T) (new : Turn S) → SoFar left now → 0 < left
      → sends now.nodes new.nodes now.to.0 now.to.1 reply
      → Learns (redirects now.to.0 reply) now.map new.map (Some new.to) → SoFar (left - 1) new
  one_more left now reply new so_far some sent learns = record {
    earlier = so_far.earlier ++ (reply ∷ []);
    followed = FoldsTo-push _ _ so_far.earlier now reply new so_far.followed
        (record { sent = sent; learns = learns });
    count = rw (length-append so_far.earlier (reply ∷ [])) (let h = so_far.count in omega arith);
  }

  leads : (left : ℕ) (now : Turn S) (so_far : SoFar left now)
      → Leads sends redirects first budget old old_map so_far.earlier now
  leads left now so_far = record { followed = so_far.followed; within = let h = so_far.count in omega arith }

  pub ended : (left : ℕ) (now : Turn S) (new : S) (new_map : List SlotRange) (answer : T) → SoFar left now
      → sends now.nodes new now.to.0 now.to.1 answer → Learns (redirects now.to.0 answer) now.map new_map None
      → Followed sends redirects first budget old old_map new new_map answer
  ended left now new new_map answer so_far sent learns = record {
    earlier = so_far.earlier;
    last = now;
    next = None;
    leads = leads left now so_far;
    sent = sent;
    learns = learns;
    stops = inl refl;
  }

  pub used_up : (left : ℕ) (now : Turn S) (new : S) (new_map : List SlotRange) (answer : T)
      (next : Option (NodeAddr × Bool)) → SoFar left now → left ≡ 0 → sends now.nodes new now.to.0 now.to.1 answer
      → Learns (redirects now.to.0 answer) now.map new_map next
      → Followed sends redirects first budget old old_map new new_map answer
  used_up left now new new_map answer next so_far none sent learns = record {
    earlier = so_far.earlier;
    last = now;
    next = next;
    leads = leads left now so_far;
    sent = sent;
    learns = learns;
    stops = inr (let h = so_far.count in omega arith);
  }

  pub interrupted : (left : ℕ) (now : Turn S) (new : S) (new_map : List SlotRange) (answer : T) → SoFar left now
      → sends now.nodes new now.to.0 now.to.1 answer → new_map ≡ now.map
      → Interrupted sends redirects first budget old old_map new new_map answer
  interrupted left now new new_map answer so_far sent unlearnt = record {
    earlier = so_far.earlier;
    last = now;
    leads = leads left now so_far;
    sent = sent;
    unlearnt = unlearnt;
  }
