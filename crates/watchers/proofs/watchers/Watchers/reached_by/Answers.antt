use Rattle.std.proofs.Common.{subst}
use Rattle.std.proofs.lemmas.Result.{IfOk-weaker}
use Rattle.watchers.specs.Watched.{Watched}
use Rattle.watchers.specs.Index.{IsIndexed}
use Rattle.watchers.proofs.IndexedLemmas.{unreached}
use Rattle.watchers.proofs.watchers.Watchers.reached_by.Goals as goal

pub returns : goal.returns
returns c =
    let index = c.self.inside.index.entries in
    let indexed : IsIndexed c.args.self.now c.self.inside.index.entries = subst (λ (watched : Watched). IsIndexed watched c.self.inside.index.entries) c.self.view_is c.self.invariant in
    IfOk-weaker c.reached_in.result _ _ (λ ids all. unreached c.args.self.now index c.args.change.now ids indexed all) c.reached_in.ensures
