use Rattle.std.proofs.Common.{inr, refl}
use Rattle.world_model.specs.declared.Said.TheVariants as said
use Rattle.world_model.specs.Fronts.{Whole, TooLong}
use Rattle.world_model.specs.Worlds.{intake_event}
use Rattle.world_core.proofs.EventLemmas.{connection_acts}
use Rattle.world_core.proofs.DoLemmas.{acts_full, acts_intake}
use Rattle.world_core.proofs.world.World.intake.Goals as goal

pub returns-in-Whole : goal.returns-in-Whole
returns-in-Whole c =
    inr (connection_acts c.args.self.now c.args.domid (intake_event c.args.domid c.args.max) c.args.self.now said.InFull c.in-Some.conn c.in-Some.ensures
    (acts_full c.args.self.now c.args.domid c.in-Some.conn c.args.max (Whole c.in-Whole.len) c.in-Whole.ensures refl))

pub returns-in-TooLong : goal.returns-in-TooLong
returns-in-TooLong c =
    inr (connection_acts c.args.self.now c.args.domid (intake_event c.args.domid c.args.max) c.args.self.now said.InFull c.in-Some.conn c.in-Some.ensures
    (acts_full c.args.self.now c.args.domid c.in-Some.conn c.args.max (TooLong c.in-TooLong.len) c.in-TooLong.ensures refl))

pub returns-in-Part : goal.returns-in-Part
returns-in-Part c =
    inr (connection_acts c.args.self.now c.args.domid (intake_event c.args.domid c.args.max) c.take_in.new.self c.take_in.result c.in-Some.conn c.in-Some.ensures
    (acts_intake c.args.self.now c.take_in.new.self c.take_in.result c.args.domid c.in-Some.conn c.args.max c.in-Part.ensures c.take_in.ensures))
