use Rattle.std.proofs.Common.{◌≡◌, is_some, subst, sym, ◌∙◌}
use Rattle.std.specs.Ordering.{nat_cmp}
use Rattle.std.specs.FinMap.{find}
use Rattle.store_parts.specs.Kept.{Kept}
use Rattle.daemon.specs.Acts.{kept_by}
use Rattle.daemon.specs.Submits.{Drops}
use Rattle.daemon.proofs.SubmitLemmas.{drops, same_unsent}
use Rattle.daemon.proofs.WholeLemmas.{whole_less}
use Rattle.daemon.proofs.service.Daemon.drop_conn.Goals as goal

pub returns-clause-found : goal.returns-clause-found
returns-clause-found c =
    let peers = c.self.inside.peers in
    subst (λ (k : Kept). c.remove.result ≡ is_some (find nat_cmp c.args.conn k.unsent)) c.self.view_is
    (c.remove.ensures.found ∙ sym (same_unsent peers c.self.invariant.sound c.args.conn))

pub returns-clause-after : goal.returns-clause-after
returns-clause-after c =
    let tree = c.self.inside.tree in
    let peers = c.self.inside.peers in
    let globals = c.self.inside.globals in
    subst (λ (k : Kept). Drops k c.args.conn (kept_by tree c.remove.new.self globals)) c.self.view_is
    (drops tree globals peers c.remove.new.self c.args.conn c.self.invariant.sound c.remove.ensures.specs c.remove.ensures.queues c.remove.ensures.txns c.remove.ensures.watched (c.remove.ensures.sound c.self.invariant.sound))

pub invariant_of-self : goal.invariant_of-self
invariant_of-self c =
    whole_less c.self.inside.tree c.self.inside.peers c.self.invariant c.remove.new.self (c.remove.ensures.sound c.self.invariant.sound) c.args.conn c.remove.ensures.specs c.remove.ensures.watched c.remove.ensures.txns
