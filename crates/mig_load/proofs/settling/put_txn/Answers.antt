use Rattle.std.proofs.Common.{ap, ◌∙◌}
use Rattle.std.specs.Ordering.{nat_cmp}
use Rattle.std.specs.FinMap.{put}
use Rattle.std.proofs.lemmas.Result.{on_ok_weaker}
use Rattle.mark_model.specs.Stores.{Opens}
use Rattle.conn_rows.specs.Rows.{kept_txn, opens_in, opens_of, txns_of}
use Rattle.conn_rows.proofs.IdEntries.{put_map}
use Rattle.mig_load.proofs.settling.put_txn.Goals as goal

pub returns-clause-ok : goal.returns-clause-ok
returns-clause-ok c =
    let txns = c.args.rows.now.txns in
    on_ok_weaker c.add_txn.result (λ is.
    ap opens_of is
    ∙ put_map opens_in c.args.conn (put nat_cmp c.args.tx c.args.txn (txns_of c.args.conn txns)) txns
    ∙ ap (λ (o : Opens). put nat_cmp c.args.conn o (opens_of txns)) (put_map kept_txn c.args.tx c.args.txn (txns_of c.args.conn txns))) c.add_txn.ensures.ok
