use Rattle.std.proofs.Common.{List, ◌∙◌, ap, sym}
use Rattle.std.specs.Ordering.{nat_cmp}
use Rattle.std.specs.FinMap.{put}
use Rattle.watch_table.specs.Tables.{Made, watch_of}
use Rattle.watchers.proofs.WalkLemmas.{put_same}
use Rattle.watchers.proofs.SentLemmas.{none_removed}
use Rattle.watchers.proofs.watchers.remove_from.Goals as goal

pub returns-in-Some-clause-absent : goal.returns-in-Some-clause-absent
returns-in-Some-clause-absent c = λ none.
    let w = watch_of c.args.wpath.now c.args.token.now in
    let those = c.in-Some.those.now in
    ap (λ (made : List Made). put nat_cmp c.args.conn made c.args.watches.now.entries)
    (c.remove.ensures.after ∙ none_removed w those (sym c.remove.ensures.found ∙ none))
    ∙ put_same c.args.conn those c.args.watches.now.entries c.get_mut.ensures.rising (sym c.in-Some.ensures.value)
