use Rattle.std.proofs.Common.{◌≡◌, true, sym, ap, subst, ◌∙◌}
use Rattle.std.specs.FinMap.{is_sorted}
use Rattle.xs_model.specs.Paths.{path_cmp}
use Rattle.path_map.specs.Map.{Entries, without}
use Rattle.path_map.specs.Places.{IsAt, IsGapFor}
use Rattle.path_map.proofs.Removed.{without_at, without_gap}
use Rattle.path_map.proofs.chunk.Chunk.remove.Goals as goal

pub returns-in-Ok : goal.returns-in-Ok
returns-in-Ok g c =
    let p = c.args.path.now in
    let entries = c.self.inside.entries.items in
    let rising = subst (λ (t : Entries g.row.T.Denot). is_sorted path_cmp t ≡ true) (sym c.self.view_is) c.requires in
    let at = subst (λ es. IsAt path_cmp es p c.in-Ok.place) c.deref.ensures.value c.in-Ok.ensures.found in
    c.remove-entry.ensures.by_index.2 ∙ without_at p entries c.in-Ok.place c.remove-entry.result rising at c.remove-entry.ensures.value ∙ ap (without p) c.self.view_is

pub returns-in_default : goal.returns-in_default
returns-in_default g c =
    let p = c.args.path.now in
    let gap = subst (λ es. IsGapFor path_cmp es p c.in_default.field-0) c.deref.ensures.value c.in_default.ensures.absent in
    sym c.self.view_is ∙ without_gap p c.self.inside.entries.items c.in_default.field-0 gap ∙ ap (without p) c.self.view_is
