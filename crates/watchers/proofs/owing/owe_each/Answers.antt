use Rattle.std.proofs.Common.{◌∙◌, sym}
use Rattle.machine_model.specs.History.{unsent_to}
use Rattle.watchers.specs.Owing.{event_bytes}
use Rattle.watchers.proofs.WalkLemmas.{walk_next, walk_last, none_between, none_above}
use Rattle.watchers.proofs.IndexedLemmas.{event_unreached}
use Rattle.watchers.proofs.owing.owe_each.Goals as goal

pub ids-preserved : goal.ids-preserved
ids-preserved c =
    let specs = c.args.conns.now in
    let watched = c.args.watchers.now in
    let event = c.args.change.now in
    let perms = c.args.perms.now in
    walk_next (event_bytes specs watched event perms) (λ i. unsent_to i c.args.owed.now) c.ids.at c.in-Some.conn c.in-Some.ensures.least.above
    (λ i gt lt. event_unreached specs watched c.requires.own event perms i (c.requires.others i (none_between c.args.ids.now.entries c.ids.at c.in-Some.conn c.in-Some.ensures.least i gt lt)))
    (λ i. unsent_to i c.ids.owed) (λ i. unsent_to i c.owe_event-in-Some.new.owed) c.ids.invariant c.in_ok-owe_event-2.ensures

pub returns : goal.returns
returns c =
    let specs = c.args.conns.now in
    let watched = c.args.watchers.now in
    let event = c.args.change.now in
    let perms = c.args.perms.now in
    walk_last (event_bytes specs watched event perms) (λ i. unsent_to i c.args.owed.now) c.ids.at
    (λ i gt. event_unreached specs watched c.requires.own event perms i (c.requires.others i (none_above c.ids.at c.args.ids.now.entries (sym c.next_after.ensures.next ∙ c.in_default.is) i gt)))
    (λ i. unsent_to i c.ids.owed) c.ids.invariant
