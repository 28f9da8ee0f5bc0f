use Rattle.std.proofs.Common.{◌+◌, ◌++◌, drop, sym, ap, ◌∙◌}
use Rattle.path_map.specs.Chunks.{joined}
use Rattle.txn_access.specs.Plans.{changes}
use Rattle.txn_access.proofs.PlanLemmas.{from_part, more_done, changes_append}
use Rattle.txn_access.proofs.plan.changed.Goals as goal

pub loop-part-preserved : goal.loop-part-preserved
loop-part-preserved c =
    let tree = c.args.tree.now.nodes in
    let parts = c.args.parts.now in
    let i = c.loop-part.part-index in
    let part = c.part-item.result in
    let so_far = c.loop-part.paths in
    more_done c.changed_in.new.paths so_far (changes tree part) (changes tree (joined (drop (i + 1) parts))) (changes tree (joined parts))
    (c.in_ok-changed_in.ensures ∙ ap (λ l. so_far ++ changes tree l) c.entries.ensures)
    (ap (λ l. so_far ++ l) (sym (from_part (changes tree) (changes_append tree) parts i part c.loop-part-test.true c.part-item.is)) ∙ c.loop-part.invariant)
