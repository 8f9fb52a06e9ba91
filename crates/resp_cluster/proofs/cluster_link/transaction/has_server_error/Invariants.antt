use Rattle.std.proofs.Common.{◌≡◌, drop}
use Rattle.std.specs.List.{list_any}
use Rattle.resp_cluster.specs.Transactions.{is_server_error}
use Rattle.resp_cluster.proofs.cluster_link.transaction.has_server_error.Given as goal

abbrev pub invariant-loop-reply : goal.invariant-loop-reply
invariant-loop-reply l = list_any is_server_error l.replies ≡ list_any is_server_error (drop l.reply-index l.replies)
