use Rattle.std.proofs.Common.{◌≡◌, ◌^◌, ◌<◌, ◌++◌, take}
use Rattle.std.specs.List.{flat_map, AllByRecursion}
use Rattle.stream_model.specs.Spelling.{entry_bytes}
use Rattle.mig_records.proofs.writing.push_entries.Given as goal

abbrev pub invariant-loop-entry : goal.invariant-loop-entry
invariant-loop-entry l = record {
  text : l.out ≡ l.fn.out ++ flat_map entry_bytes (take l.entry-index l.perms);
  fit : AllByRecursion (λ p. p.domid < 2 ^ 16) (take l.entry-index l.perms);
}
