use Rattle.std.proofs.Common.{◌∙◌, ap, refl, length, Err, Ok, rules}
use Rattle.std.proofs.lemmas.Result.{err_from_is_err_and}
use Rattle.resp_cluster.specs.Transactions.{read, unread}
use Rattle.resp_cluster.proofs.Answering.{answered}
use Rattle.resp_cluster.proofs.OverLinks.{refused_call}
use Rattle.resp_cluster.proofs.cluster_connection.ClusterLinkConnectionLike.req_packed_commands.Goals as goal

pub returns-in_default-clause-call : goal.returns-in_default-clause-call
returns-in_default-clause-call g c =
    refused_call g.N.Link.ConnectionLike.connection _ _ c.args.bytes.now _ c.too_many.result _ c.args.self.now c.args.self.now _ refl

pub returns-in_err-commands-clause-call : goal.returns-in_err-commands-clause-call
returns-in_err-commands-clause-call g c =
    let p = err_from_is_err_and c.from_residual.result c.from_residual.ensures.1 in
    refused_call g.N.Link.ConnectionLike.connection _ _ c.args.bytes.now _ p.0 _ c.args.self.now c.args.self.now _ p.1

pub returns-in_err-replies-clause-call : goal.returns-in_err-replies-clause-call
returns-in_err-replies-clause-call g c =
    let p = err_from_is_err_and c.from_residual-in_err-replies.result c.from_residual-in_err-replies.ensures.1 in
    refused_call g.N.Link.ConnectionLike.connection _ _ c.args.bytes.now _ p.0 _ c.args.self.now c.replies_to.new.self _ p.1

pub returns-in_err-answers-clause-call : goal.returns-in_err-answers-clause-call
returns-in_err-answers-clause-call g c =
    let p = err_from_is_err_and c.from_residual-in_err-answers.result c.from_residual-in_err-answers.ensures.1 in
    refused_call g.N.Link.ConnectionLike.connection _ _ c.args.bytes.now _ p.0 _ c.args.self.now c.replies_to.new.self _ p.1

pub returns-clause-call : goal.returns-clause-call
returns-clause-call g c =
    answered g.N.Link.ConnectionLike.connection g.met.N.Link.Unrouted.unrouted c.args.bytes.now c.args.self.now c.replies_to.new.self
    c.args.offset c.args.count (length c.as_slice.result.now) c.in_ok-replies.replies.items c.in_ok-answers.answers (search rules)
    c.in_ok-answers.ensures.tail c.in_ok-replies.ensures.answered

pub returns-in_default-clause-transaction : goal.returns-in_default-clause-transaction
returns-in_default-clause-transaction g c = λ rest is. unread c.too_many.result refl refl

pub returns-in_err-commands-clause-transaction : goal.returns-in_err-commands-clause-transaction
returns-in_err-commands-clause-transaction g c = λ rest is.
    let p = err_from_is_err_and c.from_residual.result c.from_residual.ensures.1 in
    unread p.0 refl p.1

pub returns-in_err-replies-clause-transaction : goal.returns-in_err-replies-clause-transaction
returns-in_err-replies-clause-transaction g c = λ rest is.
    let p = err_from_is_err_and c.from_residual-in_err-replies.result c.from_residual-in_err-replies.ensures.1 in
    read c.as_slice.result.now _ (search rules) (search rules) (c.in_err-replies.ensures.transaction rest is) (p.1 ∙ ap Err p.2)

pub returns-in_err-answers-clause-transaction : goal.returns-in_err-answers-clause-transaction
returns-in_err-answers-clause-transaction g c = λ rest is.
    let p = err_from_is_err_and c.from_residual-in_err-answers.result c.from_residual-in_err-answers.ensures.1 in
    read c.as_slice.result.now (Ok c.in_ok-replies.replies) (search rules) (search rules) (c.in_ok-replies.ensures.transaction rest is)
    (rw p.1 p.2)

pub returns-clause-transaction : goal.returns-clause-transaction
returns-clause-transaction g c = λ rest is.
    read c.as_slice.result.now (Ok c.in_ok-replies.replies) (search rules) (search rules) (c.in_ok-replies.ensures.transaction rest is)
    c.in_ok-answers.ensures.tail
