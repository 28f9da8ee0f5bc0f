-- What the events say and leave, from what the code did to its parts.
use Rattle.std.proofs.Common.{◌≡◌, ℕ, ◌==◌, not, Some, None, refl, sym, ap, subst, ◌∙◌}
use Rattle.std.specs.Ordering.{nat_cmp}
use Rattle.std.specs.FinMap.{find, put}
use Rattle.std.specs.FinMap.Entries.{where_key}
use Rattle.world_model.specs.declared.Said.{Said}
use Rattle.world_model.specs.declared.Said.TheVariants as said
use Rattle.world_model.specs.Rings.{with_error}
use Rattle.world_model.specs.Worlds.{World, Guest, Served, Told, told, guest_event, for_guest, server_event, for_served, dropped}
use Rattle.daemon.specs.Submits.{Drops}
use Rattle.world_core.specs.Guests.{with_page_of}
use Rattle.world_core.specs.Stands.{Kept, StandsFor, Follows, Acts}
use Rattle.world_core.specs.Parts.{IsServed}
use Rattle.world_core.proofs.StandLemmas.{lost}
use Rattle.world_core.proofs.ServedLemmas.{parts_of}

-- NOTHING CHANGES
pub unchanged : (old : Kept) (w : World) (answer : Said) → StandsFor old w → ((n : ℕ) → answer ≡ said.Got n → ⊥) → Follows old answer (told w answer)
unchanged old w answer stands other = record { says = refl; stands = stands; taken = λ n e. absurd (other n e) }

-- A GUEST'S OWN EVENTS
module _ (old : Kept) (d : ℕ) (act : World → Guest → Told) where
  pub no_guest : find nat_cmp d old.guests ≡ None → (w : World) → StandsFor old w → Follows old said.Gone (guest_event d act w)
  no_guest none w stands =
      subst (λ o. Follows old said.Gone (for_guest act w o)) (sym (ap (find nat_cmp d) stands.guests ∙ none))
      (unchanged old w said.Gone stands (λ n e. cc))

  pub guest_acts : (new : Kept) (answer : Said) (guest : Guest) → find nat_cmp d old.guests ≡ Some guest → ((w : World) → StandsFor old w → Follows new answer (act w guest)) → (w : World) → StandsFor old w → Follows new answer (guest_event d act w)
  guest_acts new answer guest there does w stands =
      subst (λ o. Follows new answer (for_guest act w o)) (sym (ap (find nat_cmp d) stands.guests ∙ there)) (does w stands)

-- A CONNECTION'S EVENTS
module _ (old : Kept) (d : ℕ) (act : World → Served → Told) where
  pub not_served : IsServed old d None → (w : World) → StandsFor old w → Follows old said.Gone (server_event d act w)
  not_served none w stands =
      subst (λ o. Follows old said.Gone (for_served act w o)) (sym (none w stands)) (unchanged old w said.Gone stands (λ n e. cc))

  pub connection_acts : (new : Kept) (answer : Said) (c : ℕ) → IsServed old d (Some c) → Acts old d c act new answer → (w : World) → StandsFor old w → Follows new answer (server_event d act w)
  connection_acts new answer c is_served acts w stands =
      let some = is_served w stands in
      subst (λ o. Follows new answer (for_served act w o)) (sym some.served) (acts w some.at stands some.served some.conn)

-- A DROP
pub drops : (old new : Kept) (d c error : ℕ) (answer : Said) → Drops old.daemon c new.daemon → new.inboxes ≡ where_key nat_cmp (λ k. not (c == k)) old.inboxes → ((guest : Guest) → find nat_cmp d old.guests ≡ Some guest → new.guests ≡ put nat_cmp d (with_page_of (with_error error) guest) old.guests) → new.rings ≡ old.rings → ((n : ℕ) → answer ≡ said.Got n → ⊥) → Acts old d c (dropped d error answer) new answer
drops old new d c error answer lose inboxes guests rings other w at stands h conn =
    let parts = parts_of old w d at stands h in
    record {
      says = refl;
      stands = lost old new w at.conn d (with_page_of (with_error error) at.guest) stands (subst (λ k. Drops old.daemon k new.daemon) (sym conn) lose)
          (inboxes ∙ ap (λ k. where_key nat_cmp (λ j. not (k == j)) old.inboxes) (sym conn)) (guests at.guest parts.guest) rings;
      taken = λ n e. absurd (other n e);
    }
