use Rattle.std.proofs.Common.{rules, ◌≡◌}
use Rattle.store_turn.proofs.Histories.{stays_replayed, stays_loud}
use Rattle.store_turn.proofs.desk.Desk.serve.Goals as goal

pub invariant_of-self-then-aloud : goal.invariant_of-self-then-aloud
invariant_of-self-then-aloud g c =
    let T = g.O.Object in
    let was = c.args.self.now.replays in
    let loud = c.args.self.now.loud in
    let next = c.in_ok-given.ensures.next in
    let longer : c.push_reserved.new.self.items ≡ _ = search rules in record {
      replays = stays_replayed T.next T.answer T.is_quiet _ _ _ _ _ c.args.number c.args.op was next longer;
      loud = stays_loud T.next T.answer T.is_quiet _ _ _ _ c.args.number c.args.op was loud (search rules) longer;
    }
