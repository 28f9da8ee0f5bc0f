use Rattle.std.proofs.Common.{◌∙◌, ap, sym}
use Rattle.std.specs.Ordering.{nat_cmp}
use Rattle.std.specs.FinMap.{put}
use Rattle.std.proofs.lemmas.Result.{on_err_weaker}
use Rattle.conn_rows.proofs.IdEntries.{put_again}
use Rattle.mig_load.specs.Came.{Opens}
use Rattle.mig_load.proofs.connections.open_in.Goals as goal

pub returns-in-Some-clause-err : goal.returns-in-Some-clause-err
returns-in-Some-clause-err c =
    let saids = c.args.saids.now.entries in
    on_err_weaker c.open.result (λ same. ap (λ (opens : Opens). put nat_cmp c.args.conn opens saids) same
    ∙ put_again c.args.conn c.in-Some.opens.now saids c.get_mut.ensures.rising (sym c.in-Some.ensures.value)) c.open.ensures.err
