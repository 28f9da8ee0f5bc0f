use Rattle.std.proofs.Common.{◌∙◌, ap, sym}
use Rattle.std.specs.Ordering.{nat_cmp}
use Rattle.std.specs.FinMap.{put}
use Rattle.std.proofs.lemmas.Result.{on_err_weaker}
use Rattle.conn_rows.proofs.IdEntries.{put_again}
use Rattle.mig_load.specs.Came.{Opens}
use Rattle.mig_load.proofs.connections.mark_in.Goals as goal

pub returns-clause-err : goal.returns-clause-err
returns-clause-err c =
    let saids = c.args.saids.now.entries in
    on_err_weaker c.mark.result (λ same. ap (λ (opens : Opens). put nat_cmp c.args.conn opens saids) same
    ∙ put_again c.args.conn c.in-Some.opens.now saids c.get_mut.ensures.rising (sym c.in-Some.ensures.value)) c.mark.ensures.err
