use Rattle.conn_table.proofs.SmallLemmas.{tables_are_small}
use Rattle.conn_table.proofs.laws.tables_are_small.Goals as goal

pub returns : goal.returns
returns c = tables_are_small
