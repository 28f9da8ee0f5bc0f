use Rattle.std.proofs.Common.{◌≡◌, ◌⊎◌, ℕ, ◌+◌, List, ◌∷◌, Result, Ok, Err, inl, inr, sym, ap, subst, ◌∙◌}
use Rattle.stream_model.specs.Record.{StreamRecord}
use Rattle.mig_records.specs.Unread.{HandsOn}
use Rattle.mig_records.specs.RecordView.{record_of}
use Rattle.kept_model.specs.declared.fault.LoadFault.{LoadFault}
use Rattle.kept_model.specs.declared.fault.LoadFault.TheVariants.{NoMemory}
use Rattle.kept_model.specs.Loading.{Loading, none_came, load_record, load_from, ◌>>=◌}
use Rattle.mig_load.proofs.records.loaded.Goals as goal

stopped : (n : ℕ) (l : Loading) (rs rest : List StreamRecord) (r : StreamRecord) (all : Result Loading LoadFault) (fault : LoadFault) → load_from n l rs ≡ all → rs ≡ r ∷ rest
    → (fault ≡ NoMemory) ⊎ (load_record n l r ≡ Err fault) → (fault ≡ NoMemory) ⊎ (all ≡ Err fault)
stopped n l rs rest r all fault told is (inl e) = inl e
stopped n l rs rest r all fault told is (inr e) = inr (sym told ∙ ap (load_from n l) is ∙ ap (λ (x : Result Loading LoadFault). x >>= (λ next. load_from (n + 1) next rest)) e)

pub returns-in-Err : goal.returns-in-Err
returns-in-Err c =
    let handed = subst (λ r. HandsOn c.records.reader c.next.new.self r) (c.in_ok-item.ensures.ok ∙ ap (λ o. Ok o) c.in-Some.is) c.next.ensures in
    stopped c.records.rec c.records.loading c.records.reader.records c.next.new.self.records (record_of c.in-Some.item) (load_from 0 none_came c.args.reader.records) c.in-Err.fault c.records.invariant.told handed.0
    c.in-Err.ensures.0
