use Rattle.std.proofs.Common.{◌+◌}
use Rattle.world_core.proofs.GuestLemmas.{no_error, both_told, both_fed, stays_short}
use Rattle.world_core.proofs.guest.Guest.intake.Goals as goal

-- the second step finds no bad indices where the first did not
pub returns-in_err-rest-clause-count : goal.returns-in_err-rest-clause-count
returns-in_err-rest-clause-count c =
    absurd (no_error c.take_step.new.self.page.request c.in_err-rest.field-0.0 _ c.in_ok-head.ensures.good c.in_err-rest.ensures.count)

pub returns-in_err-rest-clause-err : goal.returns-in_err-rest-clause-err
returns-in_err-rest-clause-err c =
    absurd (no_error c.take_step.new.self.page.request c.in_err-rest.field-0.0 _ c.in_ok-head.ensures.good c.in_err-rest.ensures.count)

pub returns-clause-count : goal.returns-clause-count
returns-clause-count c =
    both_told c.args.self.now.page.request c.take_step.new.self.page.request c.args.inbox.now c.take_step.new.inbox c.args.max c.in_ok-head.head c.in_ok-rest.rest c.in_ok-head.ensures.count c.in_ok-head.ensures.inbox c.in_ok-head.ensures.content c.in_ok-rest.ensures.count

pub returns-clause-inbox : goal.returns-clause-inbox
returns-clause-inbox c =
    both_fed c.args.self.now.page.request c.take_step.new.self.page.request c.args.inbox.now c.take_step.new.inbox c.args.max c.in_ok-head.head c.in_ok-rest.rest c.in_ok-head.ensures.count c.in_ok-head.ensures.inbox c.in_ok-head.ensures.content c.in_ok-rest.ensures.count c.take_step-2.new.inbox c.in_ok-rest.ensures.inbox

pub returns-in_err-rest-clause-short : goal.returns-in_err-rest-clause-short
returns-in_err-rest-clause-short c =
    absurd (no_error c.take_step.new.self.page.request c.in_err-rest.field-0.0 _ c.in_ok-head.ensures.good c.in_err-rest.ensures.count)

pub returns-clause-short : goal.returns-clause-short
returns-clause-short c limit large fits =
    let told = both_told c.args.self.now.page.request c.take_step.new.self.page.request c.args.inbox.now c.take_step.new.inbox c.args.max c.in_ok-head.head c.in_ok-rest.rest c.in_ok-head.ensures.count c.in_ok-head.ensures.inbox c.in_ok-head.ensures.content c.in_ok-rest.ensures.count in
    let fed = both_fed c.args.self.now.page.request c.take_step.new.self.page.request c.args.inbox.now c.take_step.new.inbox c.args.max c.in_ok-head.head c.in_ok-rest.rest c.in_ok-head.ensures.count c.in_ok-head.ensures.inbox c.in_ok-head.ensures.content c.in_ok-rest.ensures.count c.take_step-2.new.inbox c.in_ok-rest.ensures.inbox in
    stays_short c.args.self.now.page.request c.args.inbox.now c.take_step-2.new.inbox c.args.max (c.in_ok-head.head + c.in_ok-rest.rest) limit told fed large fits
