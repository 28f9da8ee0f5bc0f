use Rattle.std.proofs.Common.{◌+◌, ◌++◌, drop, sym, ap, ◌∙◌}
use Rattle.path_map.specs.Chunks.{joined}
use Rattle.mark_model.specs.Marks.{written_paths}
use Rattle.txn_access.proofs.PlanLemmas.{from_part, more_done, written_append}
use Rattle.txn_access.proofs.plan.written.Goals as goal

pub loop-part-preserved : goal.loop-part-preserved
loop-part-preserved c =
    let parts = c.args.parts.now in
    let i = c.loop-part.part-index in
    let part = c.part-item.result in
    let so_far = c.loop-part.paths in
    more_done c.written_in.new.paths so_far (written_paths part) (written_paths (joined (drop (i + 1) parts))) (written_paths (joined parts))
    (c.in_ok-written_in.ensures ∙ ap (λ l. so_far ++ written_paths l) c.entries.ensures)
    (ap (λ l. so_far ++ l) (sym (from_part written_paths written_append parts i part c.loop-part-test.true c.part-item.is)) ∙ c.loop-part.invariant)
