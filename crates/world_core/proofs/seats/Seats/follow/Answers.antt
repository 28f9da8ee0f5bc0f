use Rattle.world_core.proofs.ShortLemmas.{short_empty, short_without}
use Rattle.world_core.proofs.seats.Seats.follow.Goals as goal

pub returns-in-Some-clause-short : goal.returns-in-Some-clause-short
returns-in-Some-clause-short c limit short =
    short_empty limit c.args.self.now.ins.entries short c.seat.new.self.ins.entries c.in-Some.conn c.seat.ensures.seated.inboxes

pub returns-in-Some-get-clause-short : goal.returns-in-Some-get-clause-short
returns-in-Some-get-clause-short c limit short =
    short_without limit c.args.self.now.ins.entries short c.remove.new.self.entries c.in-Some-get.conn.now c.remove.ensures.after
