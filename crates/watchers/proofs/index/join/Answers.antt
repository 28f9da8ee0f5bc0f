use Rattle.std.proofs.Common.{◌∙◌, sym}
use Rattle.watchers.proofs.SetLemmas.{joined_last}
use Rattle.watchers.proofs.index.join.Goals as goal

pub returns-clause-more : goal.returns-clause-more
returns-clause-more c =
    joined_last c.args.more.now.entries c.ids.at c.ids.ids.entries (sym c.next_after.ensures.next ∙ c.in_default.is) c.ids.invariant.joined
