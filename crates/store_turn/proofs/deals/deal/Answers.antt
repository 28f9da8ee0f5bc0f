use Rattle.std.proofs.Common.{rules}
use Rattle.store_turn.proofs.Ends.{deals}
use Rattle.store_turn.proofs.deals.deal.Goals as goal

pub split_seat-seat-requires : goal.split_seat-seat-requires
split_seat-seat-requires g c = (search rules, search rules, deals _ _ _ _ _ _ c.requires.idle.0)
