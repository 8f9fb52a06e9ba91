use Rattle.std.proofs.Common.{◌≡◌, ◌∙◌, ◌++◌, ap, sym, true, false}
use Rattle.resp_pipeline.proofs.Transactions.{packed_multi}
use Rattle.resp_cluster.proofs.Answering.{as_many_replies, spread_replies, whole_replies}
use Rattle.resp_cluster.proofs.Transacting.{sent_whole}
use Rattle.resp_cluster.proofs.cluster_link.ClusterLink.replies_to.Goals as goal

pub returns-then-starts_with-clause-answered : goal.returns-then-starts_with-clause-answered
returns-then-starts_with-clause-answered g c =
    whole_replies g.N.Link.ConnectionLike.connection g.met.N.Link.Unrouted.unrouted _ _ _ _
    (sent_whole g.N.Link.ConnectionLike.connection _ _ _ _ _ c.req_transaction.ensures.whole)

pub returns-clause-counted : goal.returns-clause-counted
returns-clause-counted g c =
    as_many_replies g.N.Link.ConnectionLike.connection g.met.N.Link.Unrouted.unrouted c.args.commands.now _ _ _ c.req_commands.ensures.spread

pub returns-clause-answered : goal.returns-clause-answered
returns-clause-answered g c =
    spread_replies g.N.Link.ConnectionLike.connection g.met.N.Link.Unrouted.unrouted c.args.bytes.now c.args.commands.now _ _ _
    c.requires.packed c.requires.awaited
    (λ rest is.
    let spelt = is ∙ ap (λ multi. multi ++ rest) (sym packed_multi) in
    let begins = rw spelt at c.starts_with.ensures.value in
    let e : false ≡ true = sym c.if-starts_with.false ∙ begins in cc)
    c.if-commands-eq1.false c.req_commands.ensures.spread

pub returns-then-commands-eq1-clause-transaction : goal.returns-then-commands-eq1-clause-transaction
returns-then-commands-eq1-clause-transaction g c = λ rest is.
    let spelt = is ∙ ap (λ multi. multi ++ rest) (sym packed_multi) in
    let begins = rw spelt at c.starts_with.ensures.value in
    absurd (let e : false ≡ true = sym c.if-starts_with.false ∙ begins in cc)

pub returns-clause-transaction : goal.returns-clause-transaction
returns-clause-transaction g c = λ rest is.
    let spelt = is ∙ ap (λ multi. multi ++ rest) (sym packed_multi) in
    let begins = rw spelt at c.starts_with.ensures.value in
    absurd (let e : false ≡ true = sym c.if-starts_with.false ∙ begins in cc)
