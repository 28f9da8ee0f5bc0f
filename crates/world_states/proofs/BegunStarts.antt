-- The world that goes on from a sound state is one from which runs may start.
use Rattle.std.specs.Prelude.{◌≡◌, ℕ, ◌+◌, ◌≤◌, ◌==◌, Bool, true, false, cond, ◌||◌, List, [], ◌∷◌, length, filter, filter_map, map, Option, Some, None, is_some}
use Rattle.std.specs.List.{cons_option}
use Rattle.std.specs.Ordering.{nat_cmp, eq_by_cmp}
use Rattle.std.specs.FinMap.{find}
use Rattle.std.specs.Option.{option_map}
use Rattle.std.specs.Cmp.{unsigned_tied}
use Rattle.std.proofs.Common.{sym, refl, ap, ◌∙◌, arith, eqb-true}
use Rattle.std.proofs.lemmas.Bool.{or_right}
use Rattle.xs_model.proofs.Maps.{from_Some, not_Some, not_both, found_map}
use Rattle.machine_model.specs.declared.ConnSpec.{ConnSpec}
use Rattle.machine_model.specs.declared.ConnSpec.TheVariants.{Ring as RingSpec, Socket}
use Rattle.machine_model.specs.Connections.{Connection, Connections, is_ring_of, ring_of, has_ring}
use Rattle.mark_model.specs.Stores.{KeptStore, begun_conn, opens_of}
use Rattle.mark_model.proofs.MarkLaws.{laws}
use Rattle.mark_model.proofs.StoreKeepers.{begun_followed}
use Rattle.kept_model.specs.States.{ConnectionOf, State, begun, connection_in, store_of}
use Rattle.kept_model.specs.Sound.{IsSound, count_ends}
use Rattle.mark_model.specs.Marks.{Mark}
use Rattle.world_model.specs.Worlds.{fresh_guest, ring_domid}
use Rattle.world_laws.specs.Laws.{HasEmptyPage, HasOneRingEach, IsStart}
use Rattle.world_laws.proofs.FlowLemmas.{fresh_page_empty}
use Rattle.world_laws.proofs.MadeLemmas.{among, fresh_among}
use Rattle.world_states.specs.States.{channel_in, ring_domids, begun_world}

-- HOW MANY RINGS a domain has
count_first : (test : ConnSpec → Bool) (e : ℕ × Connection) (conns : Connections) → count_ends test (e ∷ conns) ≡ cond (test e.1.spec) 1 0 + count_ends test conns
count_first test e conns =
    let rest : Connections = filter (λ (f : ℕ × Connection). test f.1.spec) conns in
    elim (test e.1.spec) as (λ b. length (cond b (e ∷ rest) rest) ≡ cond b 1 0 + length rest) [ true ↦ omega arith | false ↦ omega arith ]

module _ (d : ℕ) where
  abbrev counted : Connections → ℕ
  counted conns = count_ends (is_ring_of d) conns

  counted_by : (e : ℕ × Connection) (conns : Connections) (b : Bool) → is_ring_of d e.1.spec ≡ b → counted (e ∷ conns) ≡ cond b 1 0 + counted conns
  counted_by e conns b is = count_first (is_ring_of d) e conns ∙ ap (λ b. cond b 1 0 + counted conns) is

  none_more : (c : ℕ) (conn : Connection) (es : Connections) → counted es ≤ 0 → find nat_cmp c es ≡ Some conn → is_ring_of d conn.spec ≡ false
  none_more c conn [] few = λ found. not_Some found
  none_more c conn (e ∷ es) few =
      elim (eq_by_cmp nat_cmp c e.0) as (λ t. cond t (Some e.1) (find nat_cmp c es) ≡ Some conn → is_ring_of d conn.spec ≡ false) [
        | true ↦ λ found. ap (λ (x : Connection). is_ring_of d x.spec) (sym (from_Some found)) ∙ apart (is_ring_of d e.1.spec) refl
        | false ↦ λ found. none_more c conn es (omega (arith, few, count_first (is_ring_of d) e es)) found
      ]
    where
      apart : (b : Bool) → is_ring_of d e.1.spec ≡ b → is_ring_of d e.1.spec ≡ false
      apart true is = absurd (omega (arith, few, counted_by e es true is))
      apart false is = is

  -- where there is one at the most, each of them is the one that is found
  only_ring : (c : ℕ) (conn : Connection) (es : Connections) → counted es ≤ 1 → find nat_cmp c es ≡ Some conn → is_ring_of d conn.spec ≡ true → ring_of d es ≡ Some c
  only_ring c conn [] few found ring = not_Some found
  only_ring c conn (e ∷ es) few found ring =
      by (λ less later. only_ring c conn es less later ring) (is_ring_of d e.1.spec) refl (eq_by_cmp nat_cmp c e.0) refl
    where
      at : (t : Bool) → eq_by_cmp nat_cmp c e.0 ≡ t → cond t (Some e.1) (find nat_cmp c es) ≡ Some conn
      at t s = sym (ap (λ t. cond t (Some e.1) (find nat_cmp c es)) s) ∙ found

      by : (counted es ≤ 1 → find nat_cmp c es ≡ Some conn → ring_of d es ≡ Some c) → (b : Bool) → is_ring_of d e.1.spec ≡ b → (t : Bool) → eq_by_cmp nat_cmp c e.0 ≡ t → cond b (Some e.0) (ring_of d es) ≡ Some c
      by more true is true s = ap Some (sym (eqb-true c e.0 (sym (unsigned_tied c e.0) ∙ s)))
      by more true is false s = not_both ring (none_more c conn es (omega (arith, few, counted_by e es true is)) (at false s))
      by more false is true s = not_both ring (ap (λ (x : Connection). is_ring_of d x.spec) (sym (from_Some (at true s))) ∙ is)
      by more false is false s = more (omega (arith, few, counted_by e es false is)) (at false s)

  -- a domain with a ring is among the domains of the rings
  among_cons : (o : Option ℕ) (ds : List ℕ) → among d ds ≡ true → among d (cons_option o ds) ≡ true
  among_cons None ds h = h
  among_cons (Some x) ds h = or_right (d == x) (among d ds) h

  ring_among : (es : List (ℕ × ConnectionOf Mark)) → has_ring d (map (λ e. (e.0, connection_in e.1)) es) ≡ true → among d (filter_map (λ e. ring_domid e.1.spec) es) ≡ true
  ring_among [] = λ h. not_both h refl
  ring_among (e ∷ es) =
      elim e.1.spec as (λ spec. is_some (cond (is_ring_of d spec) (Some e.0) (ring_of d (map (λ e. (e.0, connection_in e.1)) es))) ≡ true → among d (cons_option (ring_domid spec) (filter_map (λ e. ring_domid e.1.spec) es)) ≡ true) [
        | RingSpec domid target evtchn ↦ by (ring_among es) domid (d == domid) refl
        | Socket fd ↦ ring_among es
      ]
    where
      by : (has_ring d (map (λ e. (e.0, connection_in e.1)) es) ≡ true → among d (filter_map (λ e. ring_domid e.1.spec) es) ≡ true) → (domid : ℕ) (b : Bool) → (d == domid) ≡ b → is_some (cond b (Some e.0) (ring_of d (map (λ e. (e.0, connection_in e.1)) es))) ≡ true → ((d == domid) || among d (filter_map (λ e. ring_domid e.1.spec) es)) ≡ true
      by more domid true is h = ap (λ b. b || among d (filter_map (λ e. ring_domid e.1.spec) es)) is
      by more domid false is h = or_right (d == domid) (among d (filter_map (λ e. ring_domid e.1.spec) es)) (more h)

-- CONNECTIONS that were begun have the ids and the ends that they had
module _ (g : ℕ × Connection → Connection) (same : (e : ℕ × Connection) → (g e).spec ≡ e.1.spec) where
  abbrev again : Connections → Connections
  again es = map (λ e. (e.0, g e)) es

  there_again : (c : ℕ) (es : Connections) → is_some (find nat_cmp c (again es)) ≡ is_some (find nat_cmp c es)
  there_again c [] = refl
  there_again c (e ∷ es) =
      elim (eq_by_cmp nat_cmp c e.0) as (λ t. is_some (cond t (Some (g e)) (find nat_cmp c (again es))) ≡ is_some (cond t (Some e.1) (find nat_cmp c es))) [
        | true ↦ refl
        | false ↦ there_again c es
      ]

  ring_again : (d : ℕ) (es : Connections) → ring_of d (again es) ≡ ring_of d es
  ring_again d [] = refl
  ring_again d (e ∷ es) =
      ap (λ spec. cond (is_ring_of d spec) (Some e.0) (ring_of d (again es))) (same e) ∙ ap (cond (is_ring_of d e.1.spec) (Some e.0)) (ring_again d es)

  found_again : (c : ℕ) (conn : Connection) (es : Connections) → find nat_cmp c (again es) ≡ Some conn → (x : Connection) × (find nat_cmp c es ≡ Some x) × (conn.spec ≡ x.spec)
  found_again c conn [] = λ found. not_Some found
  found_again c conn (e ∷ es) =
      elim (eq_by_cmp nat_cmp c e.0) as (λ t. cond t (Some (g e)) (find nat_cmp c (again es)) ≡ Some conn → (x : Connection) × (cond t (Some e.1) (find nat_cmp c es) ≡ Some x) × (conn.spec ≡ x.spec)) [
        | true ↦ λ found. (e.1, refl, ap (λ (x : Connection). x.spec) (sym (from_Some found)) ∙ same e)
        | false ↦ found_again c conn es
      ]

module _ (s : State) (sound : IsSound s) where
  abbrev k : KeptStore
  k = store_of s

  abbrev goes_on : ℕ × Connection → Connection
  goes_on e = begun_conn k.machine.tree (opens_of e.0 k.opens) e.1

  rings : HasOneRingEach (begun s).conns
  rings = λ c d conn found ring.
      let was = found_again goes_on (λ e. refl) c conn k.machine.conns found in
      ring_again goes_on (λ e. refl) d k.machine.conns
      ∙ only_ring d c was.0 k.machine.conns (sound.store.rings d) was.1 (sym (ap (is_ring_of d) was.2) ∙ ring)

  page : (d : ℕ) → has_ring d (begun s).conns ≡ true → HasEmptyPage d (begun_world s).guests
  page d ring = record {
    guest = fresh_guest 0;
    there = fresh_among d (ring_domids s) [] (ring_among d s.conns (sym (ap is_some (ring_again goes_on (λ e. refl) d k.machine.conns)) ∙ ring));
    empty = fresh_page_empty 0 (omega arith);
  }

  channel : (c : ℕ) → is_some (find nat_cmp c (begun_world s).channels) ≡ is_some (find nat_cmp c (begun s).conns)
  channel c =
      ap is_some (found_map nat_cmp channel_in c s.conns) ∙ mapped (find nat_cmp c s.conns)
      ∙ sym (there_again goes_on (λ e. refl) c k.machine.conns ∙ ap is_some (found_map nat_cmp connection_in c s.conns))
    where
      mapped : (o : Option (ConnectionOf Mark)) → is_some (option_map channel_in o) ≡ is_some (option_map connection_in o)
      mapped None = refl
      mapped (Some conn) = refl

  pub begun_start : IsStart (begun_world s)
  begun_start = record { ids = (begun_followed laws k sound.store.kept).ids; rings = rings; pages = page; channels = channel }
