use Rattle.store_turn.proofs.Ends.{opens}
use Rattle.store_turn.proofs.turn.open.Goals as goal

pub returns-clause-start : goal.returns-clause-start
returns-clause-start g c = (opens _ _ _ _ _ _ _ _ _ c.close_with-closed.ensures.values.2 c.requires.all.0 c.requires.all.1 c.take-desk.ensures.value).from

pub returns-clause-known : goal.returns-clause-known
returns-clause-known g c = (opens _ _ _ _ _ _ _ _ _ c.close_with-closed.ensures.values.2 c.requires.all.0 c.requires.all.1 c.take-desk.ensures.value).fits

pub returns-clause-others : goal.returns-clause-others
returns-clause-others g c = (opens _ _ _ _ _ _ _ _ _ c.close_with-closed.ensures.values.2 c.requires.all.0 c.requires.all.1 c.take-desk.ensures.value).others
