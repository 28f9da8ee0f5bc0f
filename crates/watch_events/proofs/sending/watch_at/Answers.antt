use Rattle.watch_events.proofs.ToldLemmas.{fit_at}
use Rattle.watch_events.proofs.sending.watch_at.Goals as goal

pub returns-clause-fit : goal.returns-clause-fit
returns-clause-fit c = fit_at c.args.watches.now c.args.place c.at.result c.is_made.ensures.each c.at.ensures
