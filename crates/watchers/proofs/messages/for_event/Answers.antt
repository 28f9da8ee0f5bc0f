use Rattle.std.proofs.Common.{◌≡◌, ◌++◌, flat_map, true, List, ℕ, sym, ap, subst, ◌∙◌}
use Rattle.xs_model.specs.Messages.{message_bytes}
use Rattle.xs_model.specs.Laws.{IsShort}
use Rattle.xs_model.specs.Watches.{Event, owed}
use Rattle.xs_model.specs.Wholes.{whole_behind}
use Rattle.xs_model.proofs.LengthLemmas.{spelled-short}
use Rattle.watch_table.specs.Tables.{watches_in}
use Rattle.watchers.proofs.WholeLemmas.{whole_event}
use Rattle.watchers.proofs.messages.for_event.Goals as goal

pub returns-clause-whole : goal.returns-clause-whole
returns-clause-whole c =
    let short : IsShort c.args.change.now.path = subst (λ (e : Event). IsShort e.path) c.change.view_is (spelled-short c.bytes-text.result.now 0 c.change.inside.path (c.bytes-text.ensures.read 0)) in
    subst (λ (bytes : List ℕ). whole_behind 0 bytes ≡ true)
    (sym (c.in_ok-push_owed.ensures.ok
    ∙ ap (λ (before : List ℕ). before ++ flat_map message_bytes (owed (record { domid = c.args.domid; target = c.args.target }) (watches_in c.args.watches.now) c.args.change.now c.args.perms.now)) c.new-bytes.ensures))
    (whole_event (record { domid = c.args.domid; target = c.args.target }) c.args.watches.now c.is_made.ensures.each c.args.change.now c.args.perms.now short)
