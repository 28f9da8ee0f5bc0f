use Rattle.std.proofs.Common.{◌≡◌, ◌≤◌, length, arith}
use Rattle.out_queues.proofs.MessageLemmas.{whole_behind-rest_after}
use Rattle.out_queues.proofs.queue.OutQueue.pull.Goals as goal

-- what is left is the rest of a message and whole messages
pub invariant_of-self : goal.invariant_of-self
invariant_of-self c =
    let inside = c.self.inside in
    let unsent = inside.unsent.bytes in
    let n = c.min-count.result in
    let within : n ≤ length unsent = omega (arith, c.min-count.ensures, c.len.ensures) in
    let all : c.pull.result ≡ n = omega (arith, c.pull.ensures.count, c.min-count.ensures, c.len.ensures) in
    rw (c.pull.ensures.bytes, all, c.rest_after-self-inside.ensures, c.bytes.ensures) (whole_behind-rest_after inside.rest n unsent c.self.invariant within)
