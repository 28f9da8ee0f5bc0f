use Rattle.std.proofs.Common.{is_some, ap, ◌∙◌}
use Rattle.txn_access.specs.Txns.{Txn}
use Rattle.mark_model.specs.Marks.{Marks, first_conflict, has_conflict}
use Rattle.txn_access.proofs.Conflicts.{conflict_any}
use Rattle.txn_access.proofs.txn.Txn.conflict.Goals as goal

pub returns-clause-any : goal.returns-clause-any
returns-clause-any c =
    ap is_some c.conflict.ensures ∙ ap (λ (ms : Marks). is_some (first_conflict ms)) c.parts.ensures.entries
    ∙ conflict_any c.self.inside.map.entries ∙ ap (λ (t : Txn). has_conflict t.marks) c.self.view_is
