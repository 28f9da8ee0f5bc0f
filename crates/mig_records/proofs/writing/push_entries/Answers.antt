use Rattle.std.proofs.Common.{◌^◌, ◌<◌}
use Rattle.stream_model.specs.declared.record.RawPerm.{RawPerm}
use Rattle.stream_model.specs.Spelling.{entry_bytes}
use Rattle.mig_records.proofs.Written.{all_more, text_more}
use Rattle.mig_records.proofs.writing.push_entries.Goals as goal

pub loop-entry-preserved : goal.loop-entry-preserved
loop-entry-preserved c =
    let perms = c.args.perms.now in
    let i = c.loop-entry.entry-index in
    let lt = c.loop-entry-test.true in
    let pushed = c.in_ok-push_entry.ensures in
    let zero : RawPerm = record { letter = 0; flags = 0; domid = 0 } in
    record {
      text = text_more entry_bytes c.args.out.now c.loop-entry.out c.push_entry.new.out perms i zero lt c.loop-entry.invariant.text pushed.text;
      fit = all_more (λ p. p.domid < 2 ^ 16) perms i zero lt c.loop-entry.invariant.fit pushed.fits;
    }
