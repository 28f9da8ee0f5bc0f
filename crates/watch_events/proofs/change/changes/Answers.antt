use Rattle.std.proofs.Common.{◌≡◌, IfOk, sym, ap, subst, ◌∙◌}
use Rattle.std.specs.Prelude.{List, filter_map}
use Rattle.xs_model.specs.Paths.{Path}
use Rattle.xs_model.specs.Watches.{Event, event_at}
use Rattle.watch_events.specs.Rising.{is_rising}
use Rattle.watch_events.proofs.EventLemmas.{in_order-rising}
use Rattle.watch_events.proofs.change.changes.Goals as goal

pub returns-then-is_rising : goal.returns-then-is_rising
returns-then-is_rising g c =
    let rising = in_order-rising c.args.written.now (sym (c.if-is_rising.ensures ∙ ap is_rising c.as_slice.ensures)) in
    let paths = c.as_slice-then-is_rising.ensures ∙ sym rising in
    let happened = ap (λ (ps : List Path). filter_map (event_at (g.A.Nodes.nodes c.args.before.now) (g.B.Nodes.nodes c.args.after.now)) ps) paths in
    subst (λ (es : List Event). IfOk c.changes_at.result (λ changes. changes ≡ es)) happened c.changes_at.ensures
