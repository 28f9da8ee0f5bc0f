use Rattle.std.proofs.Common.{◌≡◌, ◌<◌, ◌≤◌, length, arith, eqb-true, sym, ap, subst, ◌∙◌}
use Rattle.machine_model.specs.History.{Unsent, unsent_to}
use Rattle.watchers.specs.Watched.{Watched}
use Rattle.watchers.specs.Index.{IsIndexed}
use Rattle.watchers.proofs.IndexedLemmas.{nothing_listed}
use Rattle.watchers.proofs.SentLemmas.{nothing_written, all_events_sent, event_in}
use Rattle.watchers.proofs.watchers.Watchers.owed.Goals as goal

pub returns-then-is_empty : goal.returns-then-is_empty
returns-then-is_empty g c = λ i.
    let indexed : IsIndexed c.args.self.now c.self.inside.index.entries = subst (λ (watched : Watched). IsIndexed watched c.self.inside.index.entries) c.self.view_is c.self.invariant in
    let none : length c.self.inside.index.entries ≡ 0 = eqb-true (length c.self.inside.index.entries) 0 (sym c.is_empty.ensures ∙ c.if-is_empty.true) in
    ap (λ (unsent : Unsent). unsent_to i unsent) c.new-owed.ensures
    ∙ sym (nothing_listed (g.A.Nodes.nodes c.args.before.now) (g.B.Nodes.nodes c.args.after.now) c.args.conns.now c.args.self.now c.self.inside.index.entries c.is_table.ensures.rising c.requires indexed none c.args.written.now i)

pub returns-then-is_empty-2 : goal.returns-then-is_empty-2
returns-then-is_empty-2 g c = λ i.
    ap (λ (unsent : Unsent). unsent_to i unsent) c.new-owed.ensures
    ∙ sym (nothing_written (g.A.Nodes.nodes c.args.before.now) (g.B.Nodes.nodes c.args.after.now) c.args.conns.now c.args.self.now c.is_table.ensures.rising c.args.written.now i
    (eqb-true (length c.args.written.now) 0 (sym c.is_empty-2.ensures ∙ c.if-is_empty-2.true)))

pub owe_change-requires-clause-there : goal.owe_change-requires-clause-there
owe_change-requires-clause-there g c =
    let before = g.A.Nodes.nodes c.args.before.now in
    let after = g.B.Nodes.nodes c.args.after.now in
    let within : c.loop-change.change-index < length c.as_slice-change-items.result.now = omega arith in
    event_in before after c.args.written.now c.as_slice-change-items.result.now (c.as_slice-change-items.ensures ∙ c.in_ok-changes.ensures) c.loop-change.change-index c.change-item.result within c.change-item.is

pub returns : goal.returns
returns g c = λ i.
    let before = g.A.Nodes.nodes c.args.before.now in
    let after = g.B.Nodes.nodes c.args.after.now in
    let past : length c.as_slice-change-items.result.now ≤ c.loop-change.change-index = omega arith in
    c.loop-change.invariant i
    ∙ all_events_sent before after c.args.conns.now c.args.self.now c.is_table.ensures.rising c.args.written.now i c.as_slice-change-items.result.now c.loop-change.change-index (c.as_slice-change-items.ensures ∙ c.in_ok-changes.ensures) past
