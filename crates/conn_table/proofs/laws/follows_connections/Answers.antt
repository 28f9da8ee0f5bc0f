use Rattle.conn_table.proofs.ConnLemmas.{follows}
use Rattle.conn_table.proofs.laws.follows_connections.Goals as goal

pub returns : goal.returns
returns c = follows
