use Rattle.world_core.proofs.ShortLemmas.{short_without}
use Rattle.world_core.proofs.world.World.lose.Goals as goal
use Rattle.world_core.proofs.world.World.lose.Goals.{in-Some, in_default}

pub invariant_of-self : goal.invariant_of-self
invariant_of-self c =
    let short = short_without 16777216 c.self.inside.seats.ins.entries c.self.invariant.inboxes c.remove.new.self.entries c.args.conn c.remove.ensures.after in
    elim c.match-get_mut.branch [
      | in-Some w ↦ rw (w.self-inside-is) (record { count = c.self.invariant.count; spare = c.self.invariant.spare; inboxes = short })
      | in_default w ↦ rw (w.self-inside-is) (record { count = c.self.invariant.count; spare = c.self.invariant.spare; inboxes = short })
    ]
