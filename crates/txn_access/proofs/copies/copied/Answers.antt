use Rattle.txn_access.proofs.EntryLemmas.{rises, done_more}
use Rattle.path_map.specs.Chunks.{joined}
use Rattle.std.proofs.Common.{◌++◌, ap, ◌∙◌}
use Rattle.txn_access.proofs.copies.copied.Goals as goal

pub copy_chunk-requires : goal.copy_chunk-requires
copy_chunk-requires c = rw c.entries.ensures (rises c.args.chunks.now c.loop-chunk.chunk-index c.chunk-item.result c.loop-chunk-test.true c.chunk-item.is c.loop-chunk.map.entries (joined c.args.chunks.now) c.loop-chunk.invariant c.requires)

pub loop-chunk-preserved : goal.loop-chunk-preserved
loop-chunk-preserved c =
    done_more c.args.chunks.now c.loop-chunk.chunk-index c.chunk-item.result c.loop-chunk-test.true c.chunk-item.is c.copy_chunk.new.map.entries c.loop-chunk.map.entries (joined c.args.chunks.now)
    (c.in_ok-copy_chunk.ensures ∙ ap (λ l. c.loop-chunk.map.entries ++ l) c.entries.ensures) c.loop-chunk.invariant
