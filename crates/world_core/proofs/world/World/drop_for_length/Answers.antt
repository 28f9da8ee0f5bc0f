use Rattle.world_model.specs.declared.Said.TheVariants.{DroppedLength}
use Rattle.world_core.proofs.EventLemmas.{drops}
use Rattle.world_core.proofs.world.World.drop_for_length.Goals as goal

pub returns : goal.returns
returns c =
    drops c.args.self.now c.lose.new.self c.args.domid c.args.conn 3 (DroppedLength c.args.len) c.lose.ensures.daemon c.lose.ensures.inbox c.lose.ensures.guest c.lose.ensures.rings (λ n e. cc)
