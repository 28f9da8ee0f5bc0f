use Rattle.conn_table.proofs.RingLemmas.{ring_is, one_ring}
use Rattle.conn_table.proofs.laws.rings_are_found.Goals as goal

pub returns-clause-found : goal.returns-clause-found
returns-clause-found c = λ es d id table. ring_is d id es table

pub returns-clause-distinct : goal.returns-clause-distinct
returns-clause-distinct c = λ es d i j table. one_ring d i j es table
