-- What follows of a state that is sound: it is so without the bytes that were read, and these are few.
use Rattle.std.proofs.Common.{◌≡◌, ◌≤◌, ℕ, true, List, [], ◌∷◌, length, map, Some, Option, is_some, arith, refl, sym, ap, subst, ◌∙◌}
use Rattle.std.specs.Option.{option_map}
use Rattle.std.specs.List.{AllByRecursion}
use Rattle.std.specs.Ordering.{nat_cmp}
use Rattle.std.specs.FinMap.{find, is_sorted}
use Rattle.xs_model.proofs.Maps.{all_found, sorted_map}
use Rattle.machine_model.specs.Connections.{Connection}
use Rattle.machine_model.specs.History.{bytes_or_none}
use Rattle.machine_model.proofs.Lists.{all_weaker}
use Rattle.mark_model.specs.Marks.{Mark}
use Rattle.mark_model.specs.Stores.{Opens}
use Rattle.mark_model.proofs.StoreMaps.{each_found}
use Rattle.kept_model.specs.States.{ConnectionOf, connection_in, opens_in}
use Rattle.kept_model.specs.Sound.{BytesFit, IsSoundStore, IsSound}
use Rattle.conn_table.specs.Tables.{Specs}
use Rattle.conn_rows.proofs.IdEntries.{same_there, same_rising}
use Rattle.store_parts.specs.Kept.{Kept}
use Rattle.store_parts.specs.States.{Inboxes, connection_of, state_of}
use Rattle.mig_load.proofs.CameLemmas.{at_ids, at_found, at_rising, there_is}

module _ (kept : Kept) (ins : Inboxes) where
  -- the store is the same
  same_conns : (specs : Specs) → map {B = ℕ × Connection} (λ (e : ℕ × ConnectionOf Mark). (e.0, connection_in e.1)) (at_ids (connection_of kept ins) specs) ≡ map {B = ℕ × Connection} (λ (e : ℕ × ConnectionOf Mark). (e.0, connection_in e.1)) (at_ids (connection_of kept []) specs)
  same_conns [] = refl
  same_conns (e ∷ specs) = ap (λ (conns : List (ℕ × Connection)). (e.0, connection_in (connection_of kept [] e.0 e.1)) ∷ conns) (same_conns specs)

  same_opens : (specs : Specs) → map {B = ℕ × Opens} (λ (e : ℕ × ConnectionOf Mark). (e.0, opens_in e.1)) (at_ids (connection_of kept ins) specs) ≡ map {B = ℕ × Opens} (λ (e : ℕ × ConnectionOf Mark). (e.0, opens_in e.1)) (at_ids (connection_of kept []) specs)
  same_opens [] = refl
  same_opens (e ∷ specs) = ap (λ (opens : List (ℕ × Opens)). (e.0, opens_in (connection_of kept [] e.0 e.1)) ∷ opens) (same_opens specs)

  none_fit : (specs : Specs) → AllByRecursion (λ e. BytesFit e.1) (at_ids (connection_of kept ins) specs) → AllByRecursion (λ e. BytesFit e.1) (at_ids (connection_of kept []) specs)
  none_fit [] h = tt
  none_fit (e ∷ specs) h = (record { inbox = omega arith; unsent = h.0.unsent; whole = h.0.whole }, none_fit specs h.1)

  module _ (sound : IsSound (state_of kept ins)) where
    pub sound_unread : IsSound (state_of kept [])
    sound_unread = record {
      store = subst IsSoundStore (λ i. record {
        machine = record { tree = kept.tree; gens = kept.gens; conns = same_conns kept.specs i };
        opens = same_opens kept.specs i;
      }) sound.store;
      globals = sound.globals;
      bytes = none_fit kept.specs sound.bytes;
    }

    -- few bytes were read
    module _ (read : map (λ e. e.0) ins ≡ map (λ e. e.0) kept.specs) where
      rising : is_sorted nat_cmp ins ≡ true
      rising =
          same_rising ins kept.specs read ∙ sym (at_rising (connection_of kept ins) kept.specs)
          ∙ sym (sorted_map nat_cmp connection_in (at_ids (connection_of kept ins) kept.specs)) ∙ sound.store.kept.ids.rising

      one_short : (e : ℕ × List ℕ) → find nat_cmp e.0 ins ≡ Some e.1 → length e.1 ≤ 16777216
      one_short e found =
          let spec = there_is (find nat_cmp e.0 kept.specs) (sym (same_there ins kept.specs read e.0) ∙ ap is_some found) in
          let fits = all_found nat_cmp (λ (conn : ConnectionOf Mark). BytesFit conn) e.0 (at_ids (connection_of kept ins) kept.specs) (connection_of kept ins e.0 spec.0) sound.bytes
          (at_found (connection_of kept ins) e.0 kept.specs ∙ ap (option_map (connection_of kept ins e.0)) spec.1) in
          subst (λ (o : Option (List ℕ)). length (bytes_or_none o) ≤ 16777216) found fits.inbox

      pub all_short : AllByRecursion (λ e. length e.1 ≤ 16777216) ins
      all_short = all_weaker (λ (e : ℕ × List ℕ). find nat_cmp e.0 ins ≡ Some e.1) (λ (e : ℕ × List ℕ). length e.1 ≤ 16777216) one_short ins (each_found ins rising)
