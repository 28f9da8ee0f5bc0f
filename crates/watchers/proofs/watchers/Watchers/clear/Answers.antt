use Rattle.std.proofs.Common.{sym, subst}
use Rattle.watchers.specs.Watched.{Watched}
use Rattle.watchers.specs.Index.{IsIndexed}
use Rattle.watchers.proofs.IndexedLemmas.{indexed_cleared}
use Rattle.watchers.proofs.watchers.Watchers.clear.Goals as goal

pub invariant_of-self : goal.invariant_of-self
invariant_of-self c =
    subst (λ (watched : Watched). IsIndexed watched c.unlist_all.new.index.entries) (sym c.remove.ensures.after)
    (indexed_cleared c.self.inside.watches.entries c.args.conn c.self.inside.index.entries c.unlist_all.new.index.entries c.self.invariant c.unlist_all.ensures)
