use Rattle.id_map.proofs.MapLemmas.{above_at, above_gap}
use Rattle.id_map.proofs.map.place_above.Goals as goal

pub returns-in-Ok-clause-above : goal.returns-in-Ok-clause-above
returns-in-Ok-clause-above g c = above_at c.args.entries.now c.args.id c.in-Ok.place c.in-Ok.ensures.found

pub returns-in-Err-clause-above : goal.returns-in-Err-clause-above
returns-in-Err-clause-above g c = above_gap c.args.entries.now c.args.id c.in-Err.place c.in-Err.ensures.absent
