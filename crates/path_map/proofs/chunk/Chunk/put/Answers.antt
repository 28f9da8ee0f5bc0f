use Rattle.std.proofs.Common.{◌≡◌, true, sym, ap, subst, ◌∙◌}
use Rattle.std.specs.Prelude.{if◌then◌else◌, is_ok}
use Rattle.std.specs.FinMap.{put, is_sorted}
use Rattle.std.specs.List.{insert}
use Rattle.xs_model.specs.Paths.{path_cmp}
use Rattle.path_map.specs.Map.{Entries}
use Rattle.path_map.specs.Places.{IsAt, IsGapFor}
use Rattle.path_map.proofs.Rising.{put_at, put_in_gap}
use Rattle.xs_model.proofs.PathLemmas.{path_total}
use Rattle.path_map.proofs.chunk.Chunk.put.Goals as goal

-- a write at the path's place
pub returns-in-Ok : goal.returns-in-Ok
returns-in-Ok g c =
    let entries = c.self.inside.entries.items in
    let rising = subst (λ (t : Entries g.row.T.Denot). is_sorted path_cmp t ≡ true) (sym c.self.view_is) c.requires.rising in
    let at = subst (λ es. IsAt path_cmp es c.args.path c.in-Ok.place) c.deref.ensures.value c.in-Ok.ensures.found in
    put_at path_cmp path_total entries c.args.path c.in-Ok.place c.index_mut.result.now rising at c.index_mut.ensures.value c.args.item
    ∙ ap (λ (t : Entries g.row.T.Denot). put path_cmp c.args.path c.args.item t) c.self.view_is

-- a new entry in the path's gap
pub returns-in-Err : goal.returns-in-Err
returns-in-Err g c =
    let entries = c.self.inside.entries.items in
    let gap = subst (λ es. IsGapFor path_cmp es c.args.path c.in-Err.place) c.deref.ensures.value c.in-Err.ensures.absent in
    (c.insert.ensures.items ∙ ap (λ r. if is_ok r then insert entries c.in-Err.place (c.args.path, c.args.item) else entries) c.unwrap.ensures)
    ∙ put_in_gap path_cmp entries c.args.path c.args.item c.in-Err.place gap
    ∙ ap (λ (t : Entries g.row.T.Denot). put path_cmp c.args.path c.args.item t) c.self.view_is
