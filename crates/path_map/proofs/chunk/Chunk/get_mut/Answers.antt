use Rattle.std.proofs.Common.{◌≡◌, ◌⊎◌, true, set, inl, inr, sym, ap, subst, ◌∙◌}
use Rattle.std.specs.FinMap.{find, put, is_sorted}
use Rattle.xs_model.specs.Paths.{path_cmp}
use Rattle.xs_model.proofs.PathLemmas.{path_total}
use Rattle.path_map.specs.Map.{Entries}
use Rattle.path_map.specs.Places.{IsAt, IsGapFor}
use Rattle.path_map.proofs.Rising.{find_at, put_at, find_in_gap}
use Rattle.path_map.proofs.chunk.Chunk.get_mut.Goals as goal

-- what a loan leaves, said by two functions that answer alike
alike : {N W M : Type 0} {name : N} {f h : W → M} → ((w : W) → f w ≡ h w) → ◌≡◌ {A = (N × (W → M)) ⊎ M} (inl (name, f)) (inl (name, h))
alike {name = name} same = λ j. inl (name, λ w. same w j)

-- whatever is left behind the reference is put
pub returns-in-Ok : goal.returns-in-Ok
returns-in-Ok g c =
    let entries : Entries g.row.T.Denot = c.self.inside.entries.items in
    let path = c.args.path.now in
    let rising = subst (λ (t : Entries g.row.T.Denot). is_sorted path_cmp t ≡ true) (sym c.self.view_is) c.requires in
    let at = subst (λ (es : Entries g.row.T.Denot). IsAt path_cmp es path c.in-Ok.place) c.deref.ensures.value c.in-Ok.ensures.found in
    let wrote : (w : g.row.T.Denot) → set entries c.in-Ok.place (c.index_mut.result.now.0, w) ≡ put path_cmp path w c.args.self.now =
    λ w. put_at path_cmp path_total entries path c.in-Ok.place c.index_mut.result.now rising at c.index_mut.ensures.value w
    ∙ ap (λ (t : Entries g.row.T.Denot). put path_cmp path w t) c.self.view_is in
    let found = find_at path_cmp path_total entries path c.in-Ok.place c.index_mut.result.now rising at c.index_mut.ensures.value
    ∙ ap (λ (t : Entries g.row.T.Denot). find path_cmp path t) c.self.view_is in
    (alike wrote, record { writes_back = tt; value = found })

pub returns-in-Err : goal.returns-in-Err
returns-in-Err g c =
    let path = c.args.path.now in
    let gap = subst (λ (es : Entries g.row.T.Denot). IsGapFor path_cmp es path c.in-Err.field-0) (c.deref.ensures.value ∙ c.self.view_is) c.in-Err.ensures.absent in
    (ap inr c.self.view_is, record { writes_back = tt; value = sym (find_in_gap path_cmp c.args.self.now path c.in-Err.field-0 gap) })
