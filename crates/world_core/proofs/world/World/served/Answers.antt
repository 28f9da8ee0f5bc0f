use Rattle.std.proofs.Common.{None, Some, sym, ap, subst, ◌∙◌}
use Rattle.std.specs.Ordering.{nat_cmp}
use Rattle.std.specs.FinMap.{find}
use Rattle.world_core.specs.Parts.{IsServed}
use Rattle.world_core.proofs.ServedLemmas.{none_without_inbox, some_with_all}
use Rattle.world_core.proofs.world.World.served.Goals as goal

pub returns-in_err-_inbox : goal.returns-in_err-_inbox
returns-in_err-_inbox c =
    subst (IsServed c.args.self.now c.args.domid) (sym c.from_residual-in_err-_inbox.ensures)
    (subst (λ k. IsServed k c.args.domid None) c.self.view_is
    (λ w stands. none_without_inbox _ w c.args.domid c.in_ok-conn.conn c.in_ok-_guest._guest.now stands (sym (c.in_ok-conn.ensures w.machine stands.store))
    (ap (λ k. find nat_cmp k c.self.inside.seats.guests.entries) (sym c.from.ensures) ∙ sym c.in_ok-_guest.ensures.value) (sym c.in_err-_inbox.ensures.value)))

pub returns : goal.returns
returns c =
    subst (λ k. IsServed k c.args.domid (Some c.in_ok-conn.conn)) c.self.view_is
    (λ w stands. some_with_all _ w c.args.domid c.in_ok-conn.conn c.in_ok-_guest._guest.now c.in_ok-_inbox._inbox.now stands (sym (c.in_ok-conn.ensures w.machine stands.store))
    (ap (λ k. find nat_cmp k c.self.inside.seats.guests.entries) (sym c.from.ensures) ∙ sym c.in_ok-_guest.ensures.value) (sym c.in_ok-_inbox.ensures.value))
