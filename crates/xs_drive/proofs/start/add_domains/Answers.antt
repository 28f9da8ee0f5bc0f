use Rattle.std.proofs.Common.{◌≤◌, List, get_or, refl, sym, subst}
use Rattle.guest_script.specs.declared.event.DomainLine.{DomainLine as CodeLine}
use Rattle.xs_drive.proofs.StartLemmas.{sound_at, one_added, all_added}
use Rattle.xs_drive.proofs.start.add_domains.Goals as goal

pub add_domain-requires : goal.add_domain-requires
add_domain-requires c =
    let lt = rw c.as_slice-line-items.ensures at c.loop-line-test.true in
    subst (λ (lines : List CodeLine). (get_or lines c.loop-line.line-index (record { domid = 0; start = 0 })).domid ≤ 32751) (sym c.as_slice-line-items.ensures)
    (sound_at c.args.domains.now c.loop-line.line-index (record { domid = 0; start = 0 }) c.requires lt).0

pub loop-line-preserved : goal.loop-line-preserved
loop-line-preserved c = λ w stands.
    let lt = rw c.as_slice-line-items.ensures at c.loop-line-test.true in
    one_added c.loop-line.world c.add_domain.new.self c.args.domains.now c.loop-line.line-index (record { domid = 0; start = 0 }) _ lt (c.loop-line.invariant w stands)
    (rw c.as_slice-line-items.ensures at c.in_ok-add_domain.ensures.ok)

pub loop-line-init : goal.loop-line-init
loop-line-init c = λ w stands. record { w = w; stands = stands; leads = refl }

pub returns : goal.returns
returns c = λ w stands.
    all_added c.loop-line.world c.args.domains.now c.loop-line.line-index _ (rw c.as_slice-line-items.ensures at c.loop-line-test.false) (c.loop-line.invariant w stands)
