use Rattle.std.proofs.Common.{rules, ◌++◌, List, ℕ, ap}
use Rattle.world_core.proofs.GuestLemmas.{one_step_is, fed}
use Rattle.world_core.proofs.guest.Guest.take_step.Goals as goal

pub returns-clause-count : goal.returns-clause-count
returns-clause-count c =
    let ring = c.self.inside.page.request in
    rw (← c.self.view_is) (one_step_is ring c.min-most.result c.in_ok-count.field-0 c.server_take.new.into c.in_ok-count.ensures.count c.in_ok-count.ensures.bytes c.server_take.auto.into c.args.inbox.now c.args.max (search rules))

pub returns-clause-inbox : goal.returns-clause-inbox
returns-clause-inbox c =
    let ring = c.self.inside.page.request in
    rw (← c.self.view_is) (rw (c.feed.ensures) (ap (λ (xs : List ℕ). c.args.inbox.now ++ xs) (fed ring c.min-most.result c.in_ok-count.field-0 c.server_take.new.into c.in_ok-count.ensures.count c.in_ok-count.ensures.bytes c.server_take.auto.into _)))
