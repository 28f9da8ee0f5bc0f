use Rattle.std.proofs.Common.{List, ◌∙◌, ap, sym}
use Rattle.std.specs.Ordering.{nat_cmp}
use Rattle.std.specs.FinMap.{put}
use Rattle.std.proofs.lemmas.Result.{on_err_weaker}
use Rattle.watch_table.specs.Tables.{Made}
use Rattle.watchers.proofs.WalkLemmas.{put_same}
use Rattle.watchers.proofs.watchers.add_to.Goals as goal

pub returns-in-Some-clause-err : goal.returns-in-Some-clause-err
returns-in-Some-clause-err c =
    on_err_weaker c.add_behind.result
    (λ same. ap (λ (made : List Made). put nat_cmp c.args.conn made c.args.watches.now.entries) same ∙ put_same c.args.conn c.in-Some.those.now c.args.watches.now.entries c.get_mut.ensures.rising (sym c.in-Some.ensures.value))
    c.add_behind.ensures.err
