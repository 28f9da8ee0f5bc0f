use Rattle.std.proofs.Common.{◌++◌}
use Rattle.txn_access.proofs.EntryLemmas.{one_more}
use Rattle.txn_access.proofs.copies.copy_chunk.Goals as goal

pub loop-entry-preserved : goal.loop-entry-preserved
loop-entry-preserved c =
    one_more c.copy_one.new.map.entries c.loop-entry.map.entries c.args.entries.now c.loop-entry.entry-index c.entry-item.result (c.args.map.now.entries ++ c.args.entries.now)
    c.loop-entry-test.true c.entry-item.is c.in_ok-copy_one.ensures c.loop-entry.invariant c.requires
