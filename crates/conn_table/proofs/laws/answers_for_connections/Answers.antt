use Rattle.conn_table.proofs.ConnLemmas.{answers_for}
use Rattle.conn_table.proofs.laws.answers_for_connections.Goals as goal

pub returns : goal.returns
returns c = answers_for
