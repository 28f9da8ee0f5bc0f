use Rattle.std.proofs.Common.{◌≡◌, ◌<◌, ◌++◌, ◌∷◌, [], cond, Bool, List, ℕ, All, length, get_or, sym, ap, subst, ◌∙◌, arith}
use Rattle.xs_model.specs.Watches.{Event}
use Rattle.watch_table.specs.Tables.{Made, is_reached, at_each}
use Rattle.watch_table.proofs.PlaceLemmas.{no_watch, there, place_step, within_step}
use Rattle.watch_table.proofs.table.Watches.reached.Goals as goal

pub loop-place-preserved : goal.loop-place-preserved
loop-place-preserved c =
    let ms : List Made = c.args.self.now in
    let i : ℕ = c.loop-place.place in
    let ps : List ℕ = c.loop-place.places.items in
    let event : Event = record { path = c.args.path.now; exact = c.args.exact } in
    let within : i < length ms = omega (arith, c.loop-place-test.true, c.len-place-end.ensures) in
    let told : c.matches.result ≡ is_reached event (get_or ms i no_watch) = c.matches.ensures (get_or ms i no_watch) (there ms i within) in
    let now = c.in_ok-push_if.ensures ∙ ap (λ (b : Bool). cond b (ps ++ i ∷ []) ps) told in
    record {
      each = ap (λ (l : List ℕ). at_each l ms) now ∙ place_step (is_reached event) ms i within ps c.loop-place.invariant.each;
      within = subst (All (λ p. p < length ms)) (sym now) (within_step (is_reached event) ms i within ps (is_reached event (get_or ms i no_watch)) c.loop-place.invariant.within);
    }
