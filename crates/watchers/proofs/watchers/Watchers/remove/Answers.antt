use Rattle.std.proofs.Common.{Bool, true, false, ◌≡◌, ◌∙◌, refl, sym, subst}
use Rattle.watch_table.specs.Tables.{watch_of}
use Rattle.watchers.specs.Watched.{Watched}
use Rattle.watchers.specs.Index.{IsIndexed}
use Rattle.watchers.proofs.IndexedLemmas.{indexed_removed, indexed_kept}
use Rattle.watchers.proofs.watchers.Watchers.remove.Goals as goal

pub invariant_of-self : goal.invariant_of-self
invariant_of-self c = by c.remove_from.result refl
  where
    by : (b : Bool) → c.remove_from.result ≡ b → IsIndexed c.remove_from.new.watches.entries c.unlist_watch.new.index.entries
    by true is = subst (λ (w : Watched). IsIndexed w c.unlist_watch.new.index.entries) (sym (c.remove_from.ensures.after is))
        (indexed_removed c.self.inside.watches.entries c.self.inside.index.entries c.unlist_watch.new.index.entries c.args.conn (watch_of c.args.wpath.now c.args.token.now) c.self.invariant c.unlist_watch.ensures)
    by false is = subst (λ (w : Watched). IsIndexed w c.unlist_watch.new.index.entries) (sym (c.remove_from.ensures.absent is))
        (indexed_kept c.self.inside.watches.entries c.self.inside.index.entries c.unlist_watch.new.index.entries c.args.conn (watch_of c.args.wpath.now c.args.token.now) c.self.invariant (sym c.remove_from.ensures.found ∙ is) c.unlist_watch.ensures)
