use Rattle.std.proofs.Common.{◌≡◌, length}
use Rattle.world_model.specs.Rings.{Ring}
use Rattle.ring_index.specs.Pipes.{IsRing}
use Rattle.ring_index.proofs.PipeLemmas.{held-take_some, good_take}
use Rattle.ring_index.proofs.ring.Ring.take.Goals as goal

pub returns-clause-content : goal.returns-clause-content
returns-clause-content c =
    let inside = c.self.inside in
    let ring : Ring = record { cons = inside.cons; prod = inside.prod; cells = inside.cells } in
    let whole : IsRing ring = record { cons = c.self.invariant.0; prod = c.self.invariant.1; cells = c.self.told } in
    let same : length c.read_round.new.into ≡ length c.args.into.now = c.read_round.auto.into in
    rw (same, ← c.self.view_is) (held-take_some ring _ whole (rw (← c.self.view_is) at c.requires))

pub returns-clause-good : goal.returns-clause-good
returns-clause-good c =
    let inside = c.self.inside in
    let ring : Ring = record { cons = inside.cons; prod = inside.prod; cells = inside.cells } in
    let whole : IsRing ring = record { cons = c.self.invariant.0; prod = c.self.invariant.1; cells = c.self.told } in
    let same : length c.read_round.new.into ≡ length c.args.into.now = c.read_round.auto.into in
    rw (same, ← c.self.view_is) (good_take ring _ whole (rw (← c.self.view_is) at c.requires))
