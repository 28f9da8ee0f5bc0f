use Rattle.out_queues.proofs.MessageLemmas.{whole_behind-append}
use Rattle.out_queues.proofs.queue.OutQueue.push.Goals as goal

-- whole messages behind whole messages
pub invariant_of-self : goal.invariant_of-self
invariant_of-self c =
    let inside = c.self.inside in
    rw c.push_reserved.ensures.bytes (whole_behind-append inside.rest inside.unsent.bytes c.args.message.now c.self.invariant c.requires.whole)
