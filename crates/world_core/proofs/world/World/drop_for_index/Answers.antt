use Rattle.world_model.specs.declared.Said.TheVariants.{DroppedIndex}
use Rattle.world_core.proofs.EventLemmas.{drops}
use Rattle.world_core.proofs.world.World.drop_for_index.Goals as goal

pub returns : goal.returns
returns c =
    drops c.args.self.now c.lose.new.self c.args.domid c.args.conn 2 (DroppedIndex c.args.bad.prod c.args.bad.cons) c.lose.ensures.daemon c.lose.ensures.inbox c.lose.ensures.guest c.lose.ensures.rings (λ n e. cc)
