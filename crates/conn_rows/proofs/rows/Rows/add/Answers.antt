use Rattle.std.proofs.Common.{[], cond, Some, ap, ◌∙◌}
use Rattle.std.specs.Ordering.{nat_cmp}
use Rattle.std.specs.FinMap.{find}
use Rattle.conn_rows.specs.Queued.{unsent_of, rests_of}
use Rattle.conn_rows.proofs.IdEntries.{found_at}
use Rattle.conn_rows.proofs.UnsentBytes.{unsent_put, rests_put}
use Rattle.conn_rows.proofs.rows.Rows.add.Goals as goal

pub returns-clause-bytes : goal.returns-clause-bytes
returns-clause-bytes c =
    ap unsent_of c.put.ensures.queues ∙ unsent_put c.args.conn c.new-queue.result c.args.self.now.queues [] c.new-queue.ensures.bytes

pub returns-clause-rests : goal.returns-clause-rests
returns-clause-rests c =
    ap rests_of c.put.ensures.queues ∙ rests_put c.args.conn c.new-queue.result c.args.self.now.queues 0 c.new-queue.ensures.rest

pub returns-clause-others : goal.returns-clause-others
returns-clause-others c = λ other apart.
    ap (find nat_cmp other) c.put.ensures.queues
    ∙ found_at other c.args.conn c.new-queue.result c.args.self.now.queues
    ∙ ap (λ b. cond b (Some c.new-queue.result) (find nat_cmp other c.args.self.now.queues)) apart
