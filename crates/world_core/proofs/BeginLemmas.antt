-- The pages of a start: one for each ring connection, in the order of their ids.
use Rattle.std.proofs.Common.{◌≡◌, ℕ, ◌<◌, ◌≤◌, ◌==◌, true, false, cond, not, List, [], ◌∷◌, length, drop, nat_lt, Some, None, is_some, inl, inr, refl, sym, ap, subst, ◌∙◌, eqb-true, arith}
use Rattle.std.specs.Ordering.{nat_cmp, is_eq}
use Rattle.std.specs.Cmp.{tied_itself}
use Rattle.std.specs.FinMap.{find, put, nat_cmp-IsAntisymmetric}
use Rattle.std.specs.FinMap.Entries.{find-where_key}
use Rattle.std.specs.List.{AllByRecursion, cons_option}
use Rattle.std.proofs.lemmas.Bool.{cases_Bool, and_parts}
use Rattle.std.proofs.lemmas.Bool.Decides.{nat_tests}
use Rattle.std.proofs.lemmas.Cmp.{nat_cmp_total}
use Rattle.xs_model.proofs.Maps.{from_Some, not_Some}
use Rattle.machine_model.specs.declared.ConnSpec.{ConnSpec}
use Rattle.machine_model.specs.declared.ConnSpec.TheVariants.{Ring, Socket}
use Rattle.id_map.specs.Ids.{above, first_id}
use Rattle.conn_table.specs.Tables.{Specs, ring_id, has_distinct_rings}
use Rattle.world_model.specs.Worlds.{Guest, ring_domid, with_fresh_guests}
use Rattle.world_laws.proofs.EntryLemmas.{not_none, none_of, found_same, found_other}
use Rattle.store_parts.specs.Kept.{Kept as KeptByDaemon}
use Rattle.daemon.specs.Keeps as daemon
use Rattle.world_core.proofs.SpecLemmas.{ring_as, domids_as}
use Rattle.world_core.specs.Guests.{ring_domids, with_fresh_page, with_ring, with_rings}
use Rattle.world_core.specs.Stands.{Kept, Begins}
use Rattle.world_core.proofs.RingLemmas.{is_not}

-- ONE AFTER THE OTHER, by ids
pages_by_one : (e : ℕ × ConnSpec) (es : Specs) (guests : List (ℕ × Guest)) → with_fresh_guests (ring_domids (e ∷ es)) guests ≡ with_fresh_guests (ring_domids es) (with_fresh_page (ring_domid e.1) guests)
pages_by_one e es guests =
    elim (ring_domid e.1) as (λ o. with_fresh_guests (cons_option o (ring_domids es)) guests ≡ with_fresh_guests (ring_domids es) (with_fresh_page o guests)) [ None ↦ refl | Some d ↦ refl ]

-- all of them are above 0
pub all_above : {X : Type 0} (es : List (ℕ × X)) → AllByRecursion (λ (e : ℕ × X). 1 ≤ e.0) es → above 0 es ≡ es
all_above [] h = refl
all_above (e ∷ es) h =
    let first : nat_lt 0 e.0 ≡ true = positive e.0 h.0 in
    ap (λ b. cond b (e ∷ above 0 es) (above 0 es)) first ∙ ap (λ l. e ∷ l) (all_above es h.1)
  where
    positive : (k : ℕ) → 1 ≤ k → nat_lt 0 k ≡ true
    positive k h = grind (arith, nat_tests)

pub none_left : {X : Type 0} (es : List (ℕ × X)) → None ≡ first_id es → es ≡ []
none_left [] h = refl
none_left (e ∷ es) h = not_Some h

first_is : {X : Type 0} (es : List (ℕ × X)) (n : ℕ) → Some n ≡ first_id es → (x : X) × (es ≡ (n, x) ∷ drop 1 es)
first_is [] n h = not_Some (sym h)
first_is (e ∷ es) n h = (e.1, ap (λ k. (k, e.1) ∷ es) (sym (from_Some h)))

found_above : {X : Type 0} (id n : ℕ) (es : List (ℕ × X)) (x : X) → find nat_cmp n (above id es) ≡ Some x → find nat_cmp n es ≡ Some x
found_above id n es x h =
    elim (nat_lt id n) as (λ b. cond b (find nat_cmp n es) None ≡ Some x → find nat_cmp n es ≡ Some x) [
      | true ↦ λ e. e
      | false ↦ λ e. not_Some e
    ] (sym (find-where_key nat_cmp (λ key. nat_lt id key) n (λ k t. ap (λ y. nat_lt id y) (sym (nat_cmp-IsAntisymmetric n k t))) es) ∙ h)

module _ (specs : Specs) (id n : ℕ) (next : Some n ≡ first_id (above id specs)) (walk : above n specs ≡ drop 1 (above id specs)) where
  record IsFirst : Type 0 where
    spec : ConnSpec
    found : find nat_cmp n specs ≡ Some spec
    left : above id specs ≡ (n, spec) ∷ above n specs

  first_left : IsFirst
  first_left =
      let first = first_is (above id specs) n next in
      let left : above id specs ≡ (n, first.0) ∷ above n specs = first.1 ∙ ap (λ l. (n, first.0) ∷ l) (sym walk) in
      record { spec = first.0; found = found_above id n specs first.0 (ap (find nat_cmp n) left ∙ found_at n first.0 (above n specs)); left = left }
    where
      found_at : (n : ℕ) (spec : ConnSpec) (es : Specs) → find nat_cmp n ((n, spec) ∷ es) ≡ Some spec
      found_at n spec es = ap (λ r. cond (is_eq r) (Some spec) (find nat_cmp n es)) (tied_itself nat_cmp_total n)

  pub fewer_left : length (above n specs) < length (above id specs)
  fewer_left =
      let left = first_left.left in
      subst (λ (es : Specs). length (above n specs) < length es) (sym left) (omega arith)

  pub pages_left : (old new : List (ℕ × Guest)) → ((spec : ConnSpec) → find nat_cmp n specs ≡ Some spec → new ≡ with_fresh_page (ring_domid spec) old)
      → with_fresh_guests (ring_domids (above n specs)) new ≡ with_fresh_guests (ring_domids (above id specs)) old
  pages_left old new seated =
      let first = first_left in
      ap (with_fresh_guests (ring_domids (above n specs))) (seated first.spec first.found)
      ∙ sym (pages_by_one (n, first.spec) (above n specs) old)
      ∙ ap (λ es. with_fresh_guests (ring_domids es) old) (sym first.left)

  pub rings_left : (old new : List (ℕ × ℕ)) → ((spec : ConnSpec) → find nat_cmp n specs ≡ Some spec → new ≡ with_ring n (ring_domid spec) old)
      → with_rings (above n specs) new ≡ with_rings (above id specs) old
  rings_left old new seated =
      let first = first_left in
      ap (with_rings (above n specs)) (seated first.spec first.found) ∙ ap (λ es. with_rings es old) (sym first.left)

-- THE RINGS that are kept
rings_stay : (d : ℕ) (es : Specs) (rings : List (ℕ × ℕ)) → ring_id d es ≡ None → find nat_cmp d (with_rings es rings) ≡ find nat_cmp d rings
rings_stay d [] rings h = refl
rings_stay d ((id, Socket fd) ∷ es) rings h = rings_stay d es rings h
rings_stay d ((id, Ring domid target evtchn) ∷ es) rings h =
    elim (cases_Bool (d == domid)) [
      | inl t ↦ not_none (ap (λ b. cond b (Some id) (ring_id d es)) t) h
      | inr f ↦ rings_stay d es (put nat_cmp domid id rings) (sym (ap (λ b. cond b (Some id) (ring_id d es)) f) ∙ h) ∙ found_other d domid id rings f
    ]

rings_found : (d c : ℕ) (es : Specs) (rings : List (ℕ × ℕ)) → has_distinct_rings es ≡ true → ring_id d es ≡ Some c → find nat_cmp d (with_rings es rings) ≡ Some c
rings_found d c [] rings distinct h = not_none h refl
rings_found d c ((id, Socket fd) ∷ es) rings distinct h = rings_found d c es rings distinct h
rings_found d c ((id, Ring domid target evtchn) ∷ es) rings distinct h =
    let parts = and_parts (not (is_some (ring_id domid es))) (has_distinct_rings es) distinct in
    let none : ring_id domid es ≡ None = none_of (ring_id domid es) (is_not (is_some (ring_id domid es)) parts.0) in
    elim (cases_Bool (d == domid)) [
      | inl t ↦
          let same = eqb-true d domid t in
          rings_stay d es (put nat_cmp domid id rings) (ap (λ k. ring_id k es) same ∙ none)
          ∙ ap (λ k. find nat_cmp k (put nat_cmp domid id rings)) same ∙ found_same domid id rings
          ∙ sym (ap (λ b. cond b (Some id) (ring_id d es)) t) ∙ h
      | inr f ↦ rings_found d c es (put nat_cmp domid id rings) parts.1 (sym (ap (λ b. cond b (Some id) (ring_id d es)) f) ∙ h)
    ]

-- A START
pub begins : (store : KeptByDaemon) (inboxes : List (ℕ × List ℕ)) (new : Kept) → new.daemon ≡ store → new.inboxes ≡ inboxes → new.guests ≡ with_fresh_guests (ring_domids store.specs) [] → new.rings ≡ with_rings store.specs [] → Begins store inboxes new
begins store inboxes new same_daemon same_inboxes guests rings = record {
  stands = λ m channels stands of_inboxes of_unsent of_rests order. record {
    store = subst (λ kept. daemon.StandsFor kept m) (sym same_daemon) stands;
    globals = ap (λ (kept : KeptByDaemon). kept.globals) (sym same_daemon);
    guests = ap (λ ds. with_fresh_guests ds []) (domids_as store m stands) ∙ sym guests;
    inboxes = of_inboxes ∙ sym same_inboxes;
    unsent = of_unsent ∙ ap (λ (kept : KeptByDaemon). kept.unsent) (sym same_daemon);
    rests = of_rests ∙ ap (λ (kept : KeptByDaemon). kept.rests) (sym same_daemon);
    order = order;
    rings = λ d c h. ap (find nat_cmp d) rings ∙ rings_found d c store.specs [] stands.table.rings (sym (ring_as store m stands d) ∙ h);
  };
}
