-- What depends on the other ends of connections alone, for a store that a daemon stands for.
use Rattle.std.proofs.Common.{◌≡◌, ℕ, ◌+◌, ◌==◌, cond, [], ◌∷◌, map, filter_map, Some, refl, sym, ap, ◌∙◌}
use Rattle.std.specs.List.{cons_option}
use Rattle.std.specs.Option.{option_map}
use Rattle.std.specs.Ordering.{nat_cmp}
use Rattle.std.specs.FinMap.{find, is_sorted}
use Rattle.xs_model.proofs.Maps.{found_map, sorted_map}
use Rattle.machine_model.specs.declared.ConnSpec.{ConnSpec}
use Rattle.machine_model.specs.Connections.{Connection, Connections, is_ring_of, ring_of, least_free_from, least_free}
use Rattle.machine_model.specs.Machine.{Machine}
use Rattle.mark_model.specs.Stores.{KeptStore, without_transactions}
use Rattle.conn_table.specs.Tables.{Specs, specs_of, ring_id}
use Rattle.world_model.specs.Worlds.{ring_domid}
use Rattle.store_parts.specs.Kept.{Kept as KeptByDaemon}
use Rattle.daemon.specs.Keeps as daemon
use Rattle.watchers.specs.Watched.{Watched, conns_of}
use Rattle.conn_rows.proofs.IdEntries.{keys_map}

pub ring_by_spec : (d : ℕ) (conns : Connections) → ring_of d conns ≡ ring_id d (specs_of conns)
ring_by_spec d [] = refl
ring_by_spec d (e ∷ es) = ap (cond (is_ring_of d e.1.spec) (Some e.0)) (ring_by_spec d es)

free_by_spec : (n : ℕ) (conns : Connections) → least_free_from n conns ≡ least_free_from n (specs_of conns)
free_by_spec n [] = refl
free_by_spec n (e ∷ es) = ap (λ m. cond (e.0 == n) m n) (free_by_spec (n + 1) es)

domids_by_spec : (conns : Connections) → filter_map (λ (e : ℕ × Connection). ring_domid e.1.spec) conns ≡ filter_map (λ (e : ℕ × ConnSpec). ring_domid e.1) (specs_of conns)
domids_by_spec [] = refl
domids_by_spec (e ∷ es) = ap (cons_option (ring_domid e.1.spec)) (domids_by_spec es)

specs_without : (conns : Connections) → specs_of (map (λ e. (e.0, without_transactions e.1)) conns) ≡ specs_of conns
specs_without [] = refl
specs_without (e ∷ es) = ap (λ specs. (e.0, e.1.spec) ∷ specs) (specs_without es)

specs_watching : (specs : Specs) (watched : Watched) → specs_of (conns_of specs watched) ≡ specs
specs_watching [] watched = refl
specs_watching (e ∷ es) watched = ap (λ specs. e ∷ specs) (specs_watching es watched)

module _ (kept : KeptByDaemon) (m : Machine) (store : daemon.StandsFor kept m) where
  -- the other ends are those of the table
  pub specs_are : specs_of m.conns ≡ kept.specs
  specs_are = sym (specs_without m.conns) ∙ ap (λ (k : KeptStore). specs_of k.machine.conns) store.same ∙ specs_watching kept.specs kept.watched

  pub ring_as : (d : ℕ) → ring_of d m.conns ≡ ring_id d kept.specs
  ring_as d = ring_by_spec d m.conns ∙ ap (ring_id d) specs_are

  pub free_as : least_free m.conns ≡ least_free kept.specs
  free_as = free_by_spec 1 m.conns ∙ ap (λ (specs : Specs). least_free specs) specs_are

  pub ids_as : map (λ e. e.0) m.conns ≡ map (λ e. e.0) kept.specs
  ids_as = sym (keys_map (λ (conn : Connection). conn.spec) m.conns) ∙ ap (map (λ e. e.0)) specs_are

  pub rising_as : is_sorted nat_cmp m.conns ≡ is_sorted nat_cmp kept.specs
  rising_as = sym (sorted_map nat_cmp (λ (conn : Connection). conn.spec) m.conns) ∙ ap (is_sorted nat_cmp) specs_are

  pub domids_as : filter_map (λ (e : ℕ × Connection). ring_domid e.1.spec) m.conns ≡ filter_map (λ (e : ℕ × ConnSpec). ring_domid e.1) kept.specs
  domids_as = domids_by_spec m.conns ∙ ap (filter_map (λ (e : ℕ × ConnSpec). ring_domid e.1)) specs_are

  pub found_as : (c : ℕ) → option_map (λ (conn : Connection). conn.spec) (find nat_cmp c m.conns) ≡ find nat_cmp c kept.specs
  found_as c = sym (found_map nat_cmp (λ (conn : Connection). conn.spec) c m.conns) ∙ ap (find nat_cmp c) specs_are
