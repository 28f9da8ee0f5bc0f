use Rattle.store_laws.proofs.WriterLemmas.{changes_allowed}
use Rattle.store_laws.proofs.laws.changes_are_allowed.Goals as goal

pub returns : goal.returns
returns c = changes_allowed
