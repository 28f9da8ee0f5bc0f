use Rattle.std.proofs.Common.{◌≡◌, true, filter, sym, ap, ◌∙◌}
use Rattle.xs_model.specs.declared.perm.Rights.{Rights}
use Rattle.xs_model.specs.Perms.{Caller, rights_of}
use Rattle.xs_model.specs.Watches.{Event}
use Rattle.watch_table.specs.Tables.{is_reached}
use Rattle.watch_events.proofs.ToldLemmas.{owed_read}
use Rattle.watch_events.proofs.debts.told_places.Goals as goal

pub returns : goal.returns
returns c =
    let caller : Caller = record { domid = c.args.domid; target = c.args.target } in
    let made = c.args.watches.now in
    let read : (rights_of caller c.args.perms.now).can_read ≡ true = sym (ap (λ (r : Rights). r.can_read) c.rights.ensures) ∙ c.if-not-rights.false in
    let at = c.in_ok-reached.ensures.each ∙ ap (λ (e : Event). filter (is_reached e) made) c.change.view_is in
    owed_read caller made c.args.change.now c.args.perms.now c.in_ok-reached.field-0.items read c.requires.domid at
