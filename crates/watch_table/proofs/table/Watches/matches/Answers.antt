use Rattle.std.proofs.Common.{◌≡◌, List, Some, slice_get, ap, sym, ◌∙◌}
use Rattle.xs_model.specs.Watches.{reaches_watched}
use Rattle.watch_table.specs.Tables.{Made}
use Rattle.watch_table.proofs.TableLemmas.{node_at, none_at}
use Rattle.watch_table.proofs.table.Watches.matches.Goals as goal

pub returns-in-Some : goal.returns-in-Some
returns-in-Some c = λ m at.
    let here : slice_get c.self.inside.entries.entries c.args.place ≡ Some (c.in-Some._key.now, c.in-Some.kept.now) = sym c.in-Some.ensures.entry in
    c.is_reached.ensures
    ∙ ap (reaches_watched (record { path = c.args.path.now; exact = c.args.exact }))
    (node_at c.self.inside.entries.entries c.args.place (c.in-Some._key.now, c.in-Some.kept.now) m c.self.invariant here
    (ap (λ (ms : List Made). slice_get ms c.args.place) c.self.view_is ∙ at))

pub returns-in-None : goal.returns-in-None
returns-in-None c = λ m at.
    absurd (none_at c.self.inside.entries.entries c.args.place m (sym c.in-None.ensures.entry)
    (ap (λ (ms : List Made). slice_get ms c.args.place) c.self.view_is ∙ at))
