use Rattle.std.proofs.Common.{◌≡◌, true, sym, ap, subst, ◌∙◌}
use Rattle.std.specs.FinMap.{find, is_sorted}
use Rattle.xs_model.specs.Paths.{path_cmp}
use Rattle.path_map.specs.Map.{Entries}
use Rattle.path_map.specs.Places.{IsAt, IsGapFor}
use Rattle.path_map.proofs.Rising.{find_at, find_in_gap}
use Rattle.xs_model.proofs.PathLemmas.{path_total}
use Rattle.path_map.proofs.chunk.Chunk.get.Goals as goal

pub returns-in-Ok : goal.returns-in-Ok
returns-in-Ok g c =
    let entries = c.self.inside.entries.items in
    let path = c.args.path.now in
    let rising = subst (λ (t : Entries g.row.T.Denot). is_sorted path_cmp t ≡ true) (sym c.self.view_is) c.requires in
    let at = subst (λ es. IsAt path_cmp es path c.in-Ok.place) c.deref.ensures.value c.in-Ok.ensures.found in
    find_at path_cmp path_total entries path c.in-Ok.place c.index.result.now rising at c.index.ensures ∙ ap (λ (t : Entries g.row.T.Denot). find path_cmp path t) c.self.view_is

pub returns-in-Err : goal.returns-in-Err
returns-in-Err g c =
    let path = c.args.path.now in
    let gap = subst (λ es. IsGapFor path_cmp es path c.in-Err.field-0) c.deref.ensures.value c.in-Err.ensures.absent in
    sym (find_in_gap path_cmp c.self.inside.entries.items path c.in-Err.field-0 gap) ∙ ap (λ (t : Entries g.row.T.Denot). find path_cmp path t) c.self.view_is
