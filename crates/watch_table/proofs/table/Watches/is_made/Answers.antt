use Rattle.std.proofs.Common.{subst}
use Rattle.watch_table.specs.Tables.{AreMade}
use Rattle.watch_table.proofs.TableLemmas.{are_made}
use Rattle.watch_table.proofs.table.Watches.is_made.Goals as goal

pub returns : goal.returns
returns c = subst AreMade c.self.view_is (are_made c.self.inside.entries.entries c.self.invariant c.len-entries.ensures.unique)
