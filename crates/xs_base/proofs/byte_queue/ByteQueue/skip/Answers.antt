use Rattle.std.proofs.Common.{◌-◌, ◌≤◌, drop, length, ap, ◌∙◌, arith, length-take}
use Rattle.xs_base.specs.ByteQueue.{QueueState}
use Rattle.xs_base.proofs.QueueLemmas.{part_later}
use Rattle.xs_base.proofs.byte_queue.ByteQueue.skip.Goals as goal

pub returns-else-self-clause-bytes : goal.returns-else-self-clause-bytes
returns-else-self-clause-bytes c =
    let inside = c.self.inside in
    let unread = drop inside.start inside.memory.items in
    let same = ap (λ (q : QueueState). q.bytes) c.self.view_is in
    let within : c.args.count ≤ inside.end - inside.start = omega (arith, c.requires, ap length same, length-take (inside.end - inside.start) unread) in
    part_later c.args.count inside.start inside.end inside.memory.items within ∙ ap (drop c.args.count) same
