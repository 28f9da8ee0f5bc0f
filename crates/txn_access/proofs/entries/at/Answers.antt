use Rattle.std.proofs.Common.{◌+◌, ◌-◌, ◌<◌, ◌≤◌, length, drop, get_or, slice_get, ap, subst, ◌∙◌}
use Rattle.path_map.specs.Chunks.{joined}
use Rattle.mark_model.specs.Marks.{Marks}
use Rattle.txn_access.proofs.EntryLemmas.{get_in, get_past}
use Rattle.txn_access.proofs.entries.at.Goals as goal

pub returns-then-left-entries : goal.returns-then-left-entries
returns-then-left-entries c =
    let left = c.loop-chunk.left in
    let entry = c.index-entries-left.result in
    get_in c.args.chunks.now c.loop-chunk.chunk-index c.chunk-item.result c.loop-chunk-test.true c.chunk-item.is left entry
    (subst (λ (l : Marks). left < length l) c.entries-entries.ensures c.if-left-entries.true)
    (c.index-entries-left.is ∙ ap (λ (l : Marks). get_or l left entry) c.entries-entries.ensures)
    ∙ c.loop-chunk.invariant

pub loop-chunk-preserved : goal.loop-chunk-preserved
loop-chunk-preserved c =
    let left = c.loop-chunk.left in
    let i = c.loop-chunk.chunk-index in
    ap (λ (l : Marks). slice_get (joined (drop (i + 1) c.args.chunks.now)) (left - length l)) c.entries-entries.ensures
    ∙ get_past c.args.chunks.now i c.chunk-item.result c.loop-chunk-test.true c.chunk-item.is left
    (subst (λ (l : Marks). length l ≤ left) c.entries-entries.ensures c.if-left-entries.false)
    ∙ c.loop-chunk.invariant
