use Rattle.std.proofs.Common.{◌+◌, length, sym, subst}
use Rattle.txn_access.specs.Entries.{entry_at}
use Rattle.kept_model.specs.Sound.{MarksFit}
use Rattle.mig_save.specs.Texts.{marks_text}
use Rattle.mig_save.proofs.ToldMarks.{first_fits, fit_behind}
use Rattle.mig_save.proofs.RecordSizes.{marks_size_more}
use Rattle.mig_save.proofs.sizes.add_entries.Goals as goal

pub add_told-requires : goal.add_told-requires
add_told-requires c =
    first_fits c.args.tree.now.nodes c.marks.left (entry_at c.in-Some.told) c.requires.nodes c.marks.invariant.fit c.in-Some.ensures.entry

pub marks-preserved : goal.marks-preserved
marks-preserved c =
    let tree = c.args.tree.now.nodes in
    record {
      size = λ k tx. marks_size_more tree k tx (c.args.count + length (marks_text tree k tx c.args.entries)) c.marks.total c.in_ok-total.total c.marks.left c.next_entry.new.self
          (entry_at c.in-Some.told) c.in-Some.ensures.entry c.next_entry.ensures.rest (c.in_ok-total.ensures k tx) (c.marks.invariant.size k tx);
      fit = subst MarksFit (sym c.next_entry.ensures.rest) (fit_behind c.marks.left c.marks.invariant.fit);
    }
