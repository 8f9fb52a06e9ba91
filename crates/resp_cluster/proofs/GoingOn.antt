-- A command that goes on from a reply.
use Rattle.std.proofs.Common.{ℕ, ◌-◌, ◌<◌, Bool, List, Some, Result, Ok, Err, IfOk, IfErr}
use Rattle.resp_cluster.specs.Routed.{DidNotGoOn, Followed, Learns, NotFollowed, WentOn, on_the_way, onwards}
use Rattle.resp_cluster.specs.declared.node.NodeAddr.{NodeAddr}
use Rattle.resp_cluster.specs.declared.node.SlotRange.{SlotRange}
use Rattle.resp_cluster.specs.declared.redirect.Redirect.{Redirect}
use Rattle.resp_cluster.specs.declared.router.RouteError.{RouteError}
use Rattle.resp_cluster.specs.declared.router.RouteError.TheVariants.{NoNode, OutOfMemory, Unfollowed}

module _ {S T : Type 0} (sends : S → S → NodeAddr → Bool → T → Type 0) (redirects : NodeAddr → T → Redirect → Type 0)
    (node : NodeAddr) (reply : T) (budget : ℕ) (old : S) (old_map : List SlotRange) (new : S) (new_map : List SlotRange)
    (to : NodeAddr × Bool) (map : List SlotRange) (learns : Learns (redirects node reply) old_map map (Some to)) (some : 0 < budget) where
  pub went_on : (r : Result T (RouteError T)) → IfOk r (Followed sends redirects to (budget - 1) old map new new_map)
      → IfOk r (WentOn sends redirects node reply budget old old_map new new_map)
  went_on (Ok answer) h = onwards to map learns some h
  went_on (Err e) h = tt

  pub did_not : (r : Result T (RouteError T)) → IfErr r (NotFollowed sends redirects to (budget - 1) old map new new_map)
      → IfErr r (DidNotGoOn sends redirects node reply budget old old_map new new_map)
  did_not (Ok answer) h = tt
  did_not (Err NoNode) h = absurd h
  did_not (Err OutOfMemory) h = absurd h
  did_not (Err (Unfollowed answer)) h = on_the_way to map learns some h
