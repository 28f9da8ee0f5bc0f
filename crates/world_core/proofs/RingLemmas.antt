-- Ring connections of a store: which there are after a step and after an edit.
use Rattle.std.proofs.Common.{◌≡◌, ℕ, ◌==◌, Bool, true, false, cond, not, [], ◌∷◌, List, Some, None, is_some, inl, inr, refl, sym, ap, subst, ◌∙◌, eqb-true}
use Rattle.std.specs.Ordering.{nat_cmp, eq_by_cmp}
use Rattle.std.specs.Option.{option_map}
use Rattle.std.specs.FinMap.{find, put, is_sorted, nat_cmp-IsAntisymmetric}
use Rattle.std.specs.FinMap.Entries.{where_key}
use Rattle.std.proofs.lemmas.Bool.{cases_Bool, and_parts}
use Rattle.std.proofs.lemmas.Cmp.{nat_cmp_total}
use Rattle.xs_model.proofs.Maps.{from_Some, not_both, found_map, sorted_put, sorted_where, tied}
use Rattle.xs_model.specs.Requests.{all_types}
use Rattle.machine_model.specs.declared.ConnSpec.{ConnSpec}
use Rattle.machine_model.specs.declared.ConnSpec.TheVariants.{Ring, Socket}
use Rattle.machine_model.specs.Connections.{Connection, Connections, fresh, is_ring_of, ring_of}
use Rattle.machine_model.specs.Limits.{HasIds}
use Rattle.machine_model.specs.Machine.{Machine, Item, step}
use Rattle.conn_table.specs.Tables.{Specs, specs_of, ring_id, has_its_ring, has_distinct_rings}
use Rattle.world_model.specs.Worlds.{ring_domid}
use Rattle.world_laws.specs.Laws.{HasOneRingEach}
use Rattle.world_laws.proofs.ConnLemmas.{ends, OneRingEach, one_ring_each, no_ring, ring_ends, ring_is}
use Rattle.world_laws.proofs.EntryLemmas.{value_of, mapped_some, not_none, found_same, found_other, lost_same, lost_other}
use Rattle.world_laws.proofs.StepLemmas.{step_moves}
use Rattle.watchers.specs.Watched.{conns_of}
use Rattle.conn_rows.proofs.IdEntries.{same_there}
use Rattle.daemon.proofs.KeepsLemmas.{conns_found, conns_ring}
use Rattle.world_core.proofs.SpecLemmas.{ring_by_spec}
use Rattle.world_core.proofs.ChannelLemmas.{ids}

-- THE TABLE of a store's connections has each ring once
pub is_not : (b : Bool) → not b ≡ true → b ≡ false
is_not true h = sym h
is_not false h = refl

-- an entry is no ring of a domain that has its ring behind it
not_twice : (d c : ℕ) (spec : ConnSpec) (es : Specs) → has_its_ring spec es ≡ false → ring_of d (conns_of es []) ≡ Some c → is_ring_of d spec ≡ false
not_twice d c (Socket fd) es alone ring = refl
not_twice d c (Ring domid target evtchn) es alone ring =
    elim (cases_Bool (d == domid)) [
      | inl t ↦ not_both (ap is_some (ap (λ k. ring_id k es) (sym (eqb-true d domid t)) ∙ sym (conns_ring [] d es) ∙ ring)) alone
      | inr f ↦ f
    ]

has_one_ring_each : (specs : Specs) → has_distinct_rings specs ≡ true → HasOneRingEach (conns_of specs [])
has_one_ring_each [] distinct c d conn = λ there. not_none there refl
has_one_ring_each (e ∷ es) distinct c d conn =
    let parts = and_parts (not (has_its_ring e.1 es)) (has_distinct_rings es) distinct in
    let rest : find nat_cmp c (conns_of es []) ≡ Some conn → is_ring_of d conn.spec ≡ true → ring_of d (conns_of es []) ≡ Some c = has_one_ring_each es parts.1 c d conn in
    elim (eq_by_cmp nat_cmp c e.0) as (λ b. eq_by_cmp nat_cmp c e.0 ≡ b → cond b (Some (fresh e.1)) (find nat_cmp c (conns_of es [])) ≡ Some conn → is_ring_of d conn.spec ≡ true → ring_of d (conns_of (e ∷ es) []) ≡ Some c) [
      | true ↦ λ t there ring.
          ap (λ b. cond b (Some e.0) (ring_of d (conns_of es []))) (ap (λ (x : Connection). is_ring_of d x.spec) (from_Some there) ∙ ring)
          ∙ ap Some (sym (nat_cmp-IsAntisymmetric c e.0 (tied nat_cmp nat_cmp_total c e.0 t)))
      | false ↦ λ t there ring.
          let later = rest there ring in
          ap (λ b. cond b (Some e.0) (ring_of d (conns_of es []))) (not_twice d c e.1 es (is_not (has_its_ring e.1 es) parts.0) later) ∙ later
    ] refl

-- so has each store with these other ends
module _ (specs : Specs) (distinct : has_distinct_rings specs ≡ true) (conns : Connections) (same : specs_of conns ≡ specs) where
  found_fresh : (c : ℕ) (conn : Connection) → find nat_cmp c conns ≡ Some conn → find nat_cmp c (conns_of specs []) ≡ Some (fresh conn.spec)
  found_fresh c conn there =
      conns_found [] c specs ∙ ap (λ (es : Specs). option_map fresh (find nat_cmp c es)) (sym same)
      ∙ ap (option_map fresh) (found_map nat_cmp (λ (x : Connection). x.spec) c conns ∙ ap (option_map (λ (x : Connection). x.spec)) there)

  has_one : HasOneRingEach conns
  has_one c d conn there ring =
      ring_by_spec d conns ∙ ap (ring_id d) same ∙ sym (conns_ring [] d specs)
      ∙ has_one_ring_each specs distinct c d (fresh conn.spec) (found_fresh c conn there) ring

  pub one_ring : OneRingEach conns
  one_ring = one_ring_each conns has_one

-- the ring connections of a store are kept beside it
abbrev pub HasRings : List (ℕ × ℕ) → Connections → Type 0
HasRings rings conns = (d c : ℕ) → ring_of d conns ≡ Some c → find nat_cmp d rings ≡ Some c

module _ (conns : Connections) (rising : is_sorted nat_cmp conns ≡ true) (one : OneRingEach conns) where
  -- A CONNECTION LESS
  left_is : (c d b : ℕ) → ring_of d (where_key nat_cmp (λ k. not (c == k)) conns) ≡ Some b → ring_of d conns ≡ Some b
  left_is c d b h =
      let left = where_key nat_cmp (λ k. not (c == k)) conns in
      let there : ends left b ≡ Some (Some d) = ring_ends left (sorted_where nat_cmp (λ k. not (c == k)) conns rising) d b h in
      elim (cases_Bool (c == b)) [
        | inl t ↦ not_none there (ap (option_map (λ (conn : Connection). ring_domid conn.spec)) (subst (λ k. find nat_cmp k left ≡ None) (eqb-true c b t) (lost_same c conns)))
        | inr f ↦ ring_is conns rising one b d (sym (ap (option_map (λ (conn : Connection). ring_domid conn.spec)) (lost_other b c conns f)) ∙ there)
      ]

  pub rings_left : (c : ℕ) (rings : List (ℕ × ℕ)) → HasRings rings conns → HasRings rings (where_key nat_cmp (λ k. not (c == k)) conns)
  rings_left c rings has d b h = has d b (left_is c d b h)

  -- A CONNECTION MORE, of a domain that had none
  module _ (c d evtchn : ℕ) (none : ring_of d conns ≡ None) where
    abbrev more : Connections
    more = put nat_cmp c (fresh (Ring d None evtchn)) conns

    pub new_ends : ends more c ≡ Some (Some d)
    new_ends = ap (option_map (λ (conn : Connection). ring_domid conn.spec)) (found_same c (fresh (Ring d None evtchn)) conns)

    old_ends : (b : ℕ) → (b == c) ≡ false → ends more b ≡ ends conns b
    old_ends b apart = ap (option_map (λ (conn : Connection). ring_domid conn.spec)) (found_other b c (fresh (Ring d None evtchn)) conns apart)

    pub rings_more : (rings : List (ℕ × ℕ)) → HasRings rings conns → HasRings (put nat_cmp d c rings) more
    rings_more rings has e b h =
        let there : ends more b ≡ Some (Some e) = ring_ends more (sorted_put nat_cmp nat_cmp_total c (fresh (Ring d None evtchn)) conns rising) e b h in
        elim (cases_Bool (b == c)) [
          | inl t ↦
              let same = eqb-true b c t in
              let domain : d ≡ e = from_Some (from_Some (sym new_ends ∙ subst (λ k. ends more k ≡ Some (Some e)) same there)) in
              subst (λ k. find nat_cmp k (put nat_cmp d c rings) ≡ Some b) domain (found_same d c rings ∙ ap Some (sym same))
          | inr apart ↦
              let was : ends conns b ≡ Some (Some e) = sym (old_ends b apart) ∙ there in
              elim (cases_Bool (e == d)) [
                | inl t ↦ no_ring conns rising b d none (subst (λ k. ends conns b ≡ Some (Some k)) (eqb-true e d t) was)
                | inr f ↦ found_other e d c rings f ∙ has e b (ring_is conns rising one b e was)
              ]
        ]

-- A STEP that leaves the ids as they are leaves the rings as they are
module _ (m : Machine) (item : Item) (has : HasIds m.conns) (one : OneRingEach m.conns) where
  abbrev after : Connections
  after = (step m item).0.conns

  pub ring_stays : ids after ≡ ids m.conns → (d c : ℕ) → ring_of d after ≡ Some c → ring_of d m.conns ≡ Some c
  ring_stays same d c ring =
      let moved = step_moves m has all_types item in
      let there : ends after c ≡ Some (Some d) = ring_ends after moved.ids.rising d c ring in
      let now = mapped_some (λ (conn : Connection). ring_domid conn.spec) (find nat_cmp c after) (Some d) there in
      let before = value_of (find nat_cmp c m.conns) (sym (same_there after m.conns same c) ∙ ap is_some now.1) in
      let was : ends m.conns c ≡ Some (ring_domid before.0.spec) = ap (option_map (λ (conn : Connection). ring_domid conn.spec)) before.1 in
      ring_is m.conns has.rising one c d (sym (moved.kept c (ring_domid before.0.spec) (Some d) was there) ∙ there)
