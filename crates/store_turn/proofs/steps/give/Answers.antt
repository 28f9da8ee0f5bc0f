use Rattle.std.proofs.Common.{rules}
use Rattle.store_turn.proofs.Moves.{gives_from, word_after}
use Rattle.store_turn.proofs.steps.give.Goals as goal

pub store-requires : goal.store-requires
store-requires g c = let m = c.requires.may in (
  search rules,
  search rules,
  gives_from _ _ _ _ _ _ _ _ _ m.desk m.t m.quiet m.op m.one m.seat m.stage m.known m.from m.longer (word_after c.args.ticket m.t m.word),
)

pub returns-clause-left : goal.returns-clause-left
returns-clause-left g c = let m = c.requires.may in (m.desk, m.seat, c.store.ensures.2 m.desk m.seat)
