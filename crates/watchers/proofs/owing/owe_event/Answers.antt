use Rattle.std.proofs.Common.{◌≡◌, ◌++◌, List, ℕ, flat_map, sym, ap, subst, ◌∙◌}
use Rattle.std.specs.List.{AllByRecursion}
use Rattle.std.proofs.lemmas.Result.{on_ok_weaker}
use Rattle.xs_model.specs.Messages.{message_bytes}
use Rattle.xs_model.specs.Perms.{Caller}
use Rattle.xs_model.specs.Watches.{owed}
use Rattle.machine_model.specs.History.{unsent_to}
use Rattle.watch_table.specs.Tables.{Made, watches_in}
use Rattle.watchers.specs.Owing.{event_bytes, only_for}
use Rattle.watchers.proofs.SentLemmas.{event_found, own_watches}
use Rattle.watchers.proofs.owing.owe_event.Goals as goal

pub for_event-requires-clause-domid : goal.for_event-requires-clause-domid
for_event-requires-clause-domid c =
    let watches = c.in-Some-watches.watches.now in
    subst (λ (caller : Caller). AllByRecursion (λ (m : Made). m.domid ≡ caller.domid) c.in-Some-watches.watches.now) (sym c.caller-domid.ensures)
    (own_watches c.args.conns.now c.args.conn watches c.in-Some.spec c.args.watchers.now c.requires.own (sym c.in-Some-watches.ensures) (sym c.in-Some.ensures.found))

pub returns : goal.returns
returns c =
    let watches = c.in-Some-watches.watches.now in
    let event = c.args.change.now in
    let perms = c.args.perms.now in
    let bytes : c.in_ok-messages.messages ≡ event_bytes c.args.conns.now c.args.watchers.now event perms c.args.conn =
    c.in_ok-messages.ensures.bytes
    ∙ ap (λ (caller : Caller). flat_map message_bytes (owed caller (watches_in watches) event perms)) c.caller-domid.ensures
    ∙ sym (event_found c.args.conns.now c.args.watchers.now c.args.conn c.in-Some.spec watches (sym c.in-Some.ensures.found) (sym c.in-Some-watches.ensures) event perms)
    in
    on_ok_weaker c.append.result
    (λ h i. h i ∙ ap (λ (bs : List ℕ). unsent_to i c.args.owed.now ++ only_for c.args.conn bs i) bytes)
    c.append.ensures.ok
