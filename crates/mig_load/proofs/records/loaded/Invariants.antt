use Rattle.std.proofs.Common.{◌≡◌, ◌≤◌, length}
use Rattle.kept_model.specs.Loading.{none_came, load_from}
use Rattle.mig_load.proofs.records.loaded.Given as goal

-- what the records so far and those that are left tell is what all tell
abbrev pub invariant-records : goal.invariant-records
invariant-records l = record {
  told : load_from l.rec l.loading l.reader.records ≡ load_from 0 none_came l.initial.reader.records;
  few : l.rec ≤ l.reader.at;
}

abbrev pub decreases-records : goal.decreases-records
decreases-records l = length l.reader.records
