use Rattle.std.proofs.Common.{inr, refl}
use Rattle.xs_model.specs.Requests.{all_types}
use Rattle.world_model.specs.declared.Said.TheVariants as said
use Rattle.world_model.specs.Worlds.{Do, do_event}
use Rattle.world_core.proofs.EventLemmas.{connection_acts}
use Rattle.world_core.proofs.DoLemmas.{acts_part, acts_too_long, acts_whole, steps_or_none}
use Rattle.world_core.proofs.world.World.answer.Goals as goal

pub returns-in-Part : goal.returns-in-Part
returns-in-Part c =
    inr (connection_acts c.args.self.now c.args.domid (do_event all_types c.args.domid) c.args.self.now said.Part c.in-Some.conn c.in-Some.ensures
    (acts_part c.args.self.now c.args.domid c.in-Some.conn c.in-Part.ensures))

pub returns-in-TooLong : goal.returns-in-TooLong
returns-in-TooLong c =
    inr (connection_acts c.args.self.now c.args.domid (do_event all_types c.args.domid) c.drop_for_length.new.self c.drop_for_length.result c.in-Some.conn c.in-Some.ensures
    (acts_too_long c.args.self.now c.args.domid c.in-Some.conn c.drop_for_length.new.self c.drop_for_length.result c.in-TooLong.len c.in-TooLong.ensures c.drop_for_length.ensures))

pub returns-in-Whole : goal.returns-in-Whole
returns-in-Whole c =
    steps_or_none c.args.self.now c.submit.new.self (Do c.args.domid) c.submit.result c.args.domid c.in-Some.conn (do_event all_types c.args.domid) tt (λ w. refl) c.in-Some.ensures
    (acts_whole c.args.self.now c.args.domid c.in-Some.conn c.submit.new.self c.submit.result c.in-Whole.len c.in-Whole.ensures c.submit.ensures)
