use Rattle.txn_access.specs.Entries.{entry_at}
use Rattle.mig_save.proofs.ToldMarks.{first_fits}
use Rattle.mig_save.proofs.marks.write_entries.Goals as goal

pub write_told-requires : goal.write_told-requires
write_told-requires c =
    first_fits c.args.tree.now.nodes c.marks.left (entry_at c.in-Some.told) c.requires.nodes c.marks.invariant.fit c.in-Some.ensures.entry
