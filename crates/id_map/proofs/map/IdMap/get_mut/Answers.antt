use Rattle.std.proofs.Common.{◌≡◌, ◌⊎◌, true, ℕ, List, ◌-◌, set, inl, inr, sym, ap, subst, ◌∙◌}
use Rattle.std.specs.Prelude.{vec_len, vec_capacity}
use Rattle.std.specs.FinMap.{find, put, is_sorted}
use Rattle.std.specs.Ordering.{nat_cmp}
use Rattle.id_map.specs.Maps.{Map}
use Rattle.id_map.specs.Places.{IsAt, IsGapFor}
use Rattle.id_map.proofs.MapLemmas.{entries_of, with_entries, find_at, put_at, find_in_gap, rising-put}
use Rattle.id_map.proofs.map.IdMap.get_mut.Goals as goal

-- what a loan leaves, said by two functions that answer alike
alike : {N W M : Type 0} {name : N} {f h : W → M} → ((w : W) → f w ≡ h w) → ◌≡◌ {A = (N × (W → M)) ⊎ M} (inl (name, f)) (inl (name, h))
alike {name = name} same = λ j. inl (name, λ w. same w j)

pub invariant_of-self-lent : goal.invariant_of-self-lent
invariant_of-self-lent g c = λ w.
    let at = subst (λ (es : List (ℕ × g.row.T.Denot)). IsAt es c.args.id c.in-Ok.place) c.deref.ensures.value c.in-Ok.ensures.found in
    subst (λ (es : List (ℕ × g.row.T.Denot)). is_sorted nat_cmp es ≡ true)
    (sym (put_at c.self.inside.entries.items c.args.id c.in-Ok.place at c.index_mut.result.now c.index_mut.ensures.value w))
    (rising-put c.args.id w c.self.inside.entries.items c.self.invariant)

-- whatever is left behind the reference is put
pub returns-in-Ok : goal.returns-in-Ok
returns-in-Ok g c =
    let entries : List (ℕ × g.row.T.Denot) = c.self.inside.entries.items in
    let spare : ℕ = vec_capacity c.self.inside.entries - vec_len c.self.inside.entries in
    let at = subst (λ (es : List (ℕ × g.row.T.Denot)). IsAt es c.args.id c.in-Ok.place) c.deref.ensures.value c.in-Ok.ensures.found in
    let wrote : (w : g.row.T.Denot) → with_entries (set entries c.in-Ok.place (c.index_mut.result.now.0, w)) spare ≡ with_entries (put nat_cmp c.args.id w c.args.self.now.entries) c.args.self.now.spare =
    λ w. ap (λ (es : List (ℕ × g.row.T.Denot)). with_entries es spare) (put_at entries c.args.id c.in-Ok.place at c.index_mut.result.now c.index_mut.ensures.value w)
    ∙ ap (λ (m : Map g.row.T.Denot). with_entries (put nat_cmp c.args.id w m.entries) m.spare) c.self.view_is in
    let found = sym (find_at entries c.args.id c.in-Ok.place at c.index_mut.result.now c.index_mut.ensures.value)
    ∙ ap (λ (es : List (ℕ × g.row.T.Denot)). find nat_cmp c.args.id es) (entries_of c.self.view_is) in
    (alike wrote, record { writes_back = tt; value = found; rising = subst (λ (es : List (ℕ × g.row.T.Denot)). is_sorted nat_cmp es ≡ true) (entries_of c.self.view_is) c.self.invariant })

pub returns-in-Err : goal.returns-in-Err
returns-in-Err g c =
    let gap = subst (λ (es : List (ℕ × g.row.T.Denot)). IsGapFor es c.args.id c.in-Err.field-0) (c.deref.ensures.value ∙ entries_of c.self.view_is) c.in-Err.ensures.absent in
    (ap inr c.self.view_is, record { writes_back = tt; value = sym (find_in_gap c.args.self.now.entries c.args.id c.in-Err.field-0 gap); rising = subst (λ (es : List (ℕ × g.row.T.Denot)). is_sorted nat_cmp es ≡ true) (entries_of c.self.view_is) c.self.invariant })
