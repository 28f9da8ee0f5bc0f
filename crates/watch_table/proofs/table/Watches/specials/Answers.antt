use Rattle.std.specs.Str.{bytes_eq}
use Rattle.std.proofs.Common.{◌≡◌, ◌<◌, ◌++◌, ◌∷◌, [], cond, Bool, List, ℕ, All, length, get_or, sym, ap, subst, ◌∙◌, arith}
use Rattle.watch_table.specs.Tables.{Made, at_each}
use Rattle.watch_table.proofs.PlaceLemmas.{no_watch, there, place_step, within_step}
use Rattle.watch_table.proofs.table.Watches.specials.Goals as goal

pub loop-place-preserved : goal.loop-place-preserved
loop-place-preserved c =
    let ms : List Made = c.args.self.now in
    let i : ℕ = c.loop-place.place in
    let ps : List ℕ = c.loop-place.places.items in
    let test : Made → Bool = λ m. bytes_eq m.watch.wpath c.args.special.now in
    let within : i < length ms = omega (arith, c.loop-place-test.true, c.len-place-end.ensures) in
    let told : c.has_path.result ≡ test (get_or ms i no_watch) = c.has_path.ensures (get_or ms i no_watch) (there ms i within) in
    let now = c.in_ok-push_if.ensures ∙ ap (λ (b : Bool). cond b (ps ++ i ∷ []) ps) told in
    record {
      each = ap (λ (l : List ℕ). at_each l ms) now ∙ place_step test ms i within ps c.loop-place.invariant.each;
      within = subst (All (λ p. p < length ms)) (sym now) (within_step test ms i within ps (test (get_or ms i no_watch)) c.loop-place.invariant.within);
    }
