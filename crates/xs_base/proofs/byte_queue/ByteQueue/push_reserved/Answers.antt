use Rattle.std.proofs.Common.{◌+◌, ◌-◌, ◌≤◌, ◌++◌, drop, length, take, ap, ◌∙◌, arith}
use Rattle.xs_base.specs.ByteQueue.{QueueState}
use Rattle.xs_base.proofs.QueueLemmas.{part_written}
use Rattle.xs_base.proofs.byte_queue.ByteQueue.push_reserved.Goals as goal

pub returns-clause-bytes : goal.returns-clause-bytes
returns-clause-bytes c =
    let inside = c.self.inside in
    let items = inside.memory.items in
    let more = c.args.more.now in
    let within : inside.end ≤ length items = omega (arith, c.self.invariant.1, inside.memory.ok.0) in
    ap (λ xs. take (inside.end + length more - inside.start) (drop inside.start xs)) c.write_at.ensures.items
    ∙ part_written inside.start inside.end items more (drop (inside.end + length more) items) c.self.invariant.0 within
    ∙ ap (λ (q : QueueState). q.bytes ++ more) c.self.view_is
