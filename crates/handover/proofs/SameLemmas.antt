-- Two stores in one state keep the same.
use Rattle.std.proofs.Common.{◌≡◌, ◌⊎◌, inl, inr, ℕ, Ok, Err, is_ok, true, false, List, [], ◌∷◌, map, Option, Some, None, is_some, refl, sym, ap, subst, ◌∙◌}
use Rattle.std.proofs.lemmas.Bool.{false≢true}
use Rattle.std.specs.Option.{option_map}
use Rattle.std.specs.List.{AllByRecursion}
use Rattle.std.specs.Ordering.{nat_cmp}
use Rattle.std.specs.FinMap.{find, is_sorted, nat_cmp-IsAntisymmetric}
use Rattle.xs_model.specs.Watches.{Watch}
use Rattle.xs_model.proofs.Maps.{from_Some, keys_found}
use Rattle.machine_model.specs.declared.ConnSpec.{ConnSpec}
use Rattle.machine_model.specs.History.{bytes_or_none}
use Rattle.mark_model.specs.Marks.{Mark}
use Rattle.mark_model.specs.Stores.{KeptStore, Opens, or_no_opens, opens_of}
use Rattle.kept_model.specs.States.{TransactionOf, ConnectionOf, State, kept_transaction, opens_in}
use Rattle.conn_table.specs.Tables.{Specs}
use Rattle.conn_rows.proofs.IdEntries.{same_rising}
use Rattle.watch_table.specs.Tables.{Made, watches_in}
use Rattle.kept_model.specs.declared.fault.LoadFault.{LoadFault}
use Rattle.kept_model.specs.declared.fault.LoadFault.TheVariants.{NoMemory}
use Rattle.kept_model.specs.Images.{image}
use Rattle.kept_model.specs.Normal.{state_of_bytes}
use Rattle.kept_model.specs.Sound.{IsSoundStore}
use Rattle.watchers.specs.Watched.{Watched, or_none, watches_of, conns_of}
use Rattle.store_parts.specs.Kept.{Kept}
use Rattle.store_parts.specs.States.{Inboxes, or_zero, rest_of, transactions_of, connection_of, state_of}
use Rattle.daemon.specs.Keeps.{store_of}
use Rattle.daemon.specs.Ids.{AreIds, IsSameStore}
use Rattle.daemon.proofs.KeepsLemmas.{conns_keys, at_ids, at_found}
use Rattle.daemon.proofs.ValueLemmas.{values_same}
use Rattle.handover.specs.Handed.{GoesOn}

-- THE STATE TELLS what is kept, part by part
same_txns : (opens : Opens) → map (λ (e : ℕ × TransactionOf Mark). (e.0, kept_transaction e.1)) (transactions_of opens) ≡ opens
same_txns [] = refl
same_txns (e ∷ opens) = ap (λ es. e ∷ es) (same_txns opens)

module _ (kept : Kept) (ins : Inboxes) where
  abbrev conns_from : Specs → List (ℕ × ConnectionOf Mark)
  conns_from specs = map (λ (e : ℕ × ConnSpec). (e.0, connection_of kept ins e.0 e.1)) specs

  specs_told : (specs : Specs) → map {B = ℕ × ConnSpec} (λ (e : ℕ × ConnectionOf Mark). (e.0, e.1.spec)) (conns_from specs) ≡ specs
  specs_told [] = refl
  specs_told (e ∷ specs) = ap (λ es. e ∷ es) (specs_told specs)

  unsent_from : (specs : Specs) → map (λ (e : ℕ × ConnectionOf Mark). (e.0, e.1.unsent)) (conns_from specs) ≡ map {B = ℕ × List ℕ} (λ e. (e.0, bytes_or_none (find nat_cmp e.0 kept.unsent))) specs
  unsent_from [] = refl
  unsent_from (e ∷ specs) = ap {A = List (ℕ × List ℕ)} (λ es. (e.0, bytes_or_none (find nat_cmp e.0 kept.unsent)) ∷ es) (unsent_from specs)

  inboxes_from : (specs : Specs) → map (λ (e : ℕ × ConnectionOf Mark). (e.0, e.1.inbox)) (conns_from specs) ≡ map {B = ℕ × List ℕ} (λ e. (e.0, bytes_or_none (find nat_cmp e.0 ins))) specs
  inboxes_from [] = refl
  inboxes_from (e ∷ specs) = ap {A = List (ℕ × List ℕ)} (λ es. (e.0, bytes_or_none (find nat_cmp e.0 ins)) ∷ es) (inboxes_from specs)

  rests_from : (specs : Specs) → map (λ (e : ℕ × ConnectionOf Mark). (e.0, e.1.rest)) (conns_from specs) ≡ map {B = ℕ × ℕ} (λ e. (e.0, or_zero (find nat_cmp e.0 kept.rests))) specs
  rests_from [] = refl
  rests_from (e ∷ specs) = ap {A = List (ℕ × ℕ)} (λ es. (e.0, rest_of e.0 kept.rests) ∷ es) (rests_from specs)

  opens_from : (specs : Specs) → map (λ (e : ℕ × ConnectionOf Mark). (e.0, opens_in e.1)) (conns_from specs) ≡ map {B = ℕ × Opens} (λ e. (e.0, or_no_opens (find nat_cmp e.0 kept.opens))) specs
  opens_from [] = refl
  opens_from (e ∷ specs) = λ i. (e.0, same_txns (opens_of e.0 kept.opens) i) ∷ opens_from specs i

  watches_from : (specs : Specs) → map (λ (e : ℕ × ConnectionOf Mark). (e.0, e.1.watches)) (conns_from specs) ≡ at_ids {Y = List Watch} (λ (c : ℕ) (spec : ConnSpec). watches_of c kept.watched) specs
  watches_from [] = refl
  watches_from (e ∷ specs) = ap {A = List (ℕ × List Watch)} (λ es. (e.0, watches_of e.0 kept.watched) ∷ es) (watches_from specs)

  -- and of one without watches there are none
  unwatched : AreIds kept → (c : ℕ) → find nat_cmp c kept.specs ≡ None → watches_of c kept.watched ≡ []
  unwatched ids c absent = by (find nat_cmp c kept.watched) refl
    where
      by : (o : Option (List Made)) → find nat_cmp c kept.watched ≡ o → watches_in (or_none o) ≡ []
      by None t = refl
      by (Some made) t =
          absurd (false≢true (sym (ap is_some absent) ∙ keys_found nat_cmp (λ k. is_some (find nat_cmp k kept.specs) ≡ true) nat_cmp-IsAntisymmetric c kept.watched made ids.watched t))

  module _ (ids : AreIds kept) (rising : is_sorted nat_cmp kept.specs ≡ true) where
    unsent_told : kept.unsent ≡ map (λ (e : ℕ × ConnectionOf Mark). (e.0, e.1.unsent)) (conns_from kept.specs)
    unsent_told = values_same bytes_or_none (λ bytes. refl) kept.unsent kept.specs ids.unsent rising kept.specs refl ∙ sym (unsent_from kept.specs)

    rests_told : kept.rests ≡ map (λ (e : ℕ × ConnectionOf Mark). (e.0, e.1.rest)) (conns_from kept.specs)
    rests_told = values_same or_zero (λ rest. refl) kept.rests kept.specs ids.rests rising kept.specs refl ∙ sym (rests_from kept.specs)

    opens_told : kept.opens ≡ map (λ (e : ℕ × ConnectionOf Mark). (e.0, opens_in e.1)) (conns_from kept.specs)
    opens_told = values_same or_no_opens (λ txns. refl) kept.opens kept.specs ids.opens rising kept.specs refl ∙ sym (opens_from kept.specs)

    inboxes_told : map (λ e. e.0) ins ≡ map (λ e. e.0) kept.specs → ins ≡ map (λ (e : ℕ × ConnectionOf Mark). (e.0, e.1.inbox)) (conns_from kept.specs)
    inboxes_told named = values_same bytes_or_none (λ bytes. refl) ins kept.specs named rising kept.specs refl ∙ sym (inboxes_from kept.specs)

    watches_told : (c : ℕ) → option_map (λ (spec : ConnSpec). watches_of c kept.watched) (find nat_cmp c kept.specs) ≡ find nat_cmp c (map (λ (e : ℕ × ConnectionOf Mark). (e.0, e.1.watches)) (conns_from kept.specs))
    watches_told c = sym (at_found (λ (k : ℕ) (spec : ConnSpec). watches_of k kept.watched) c kept.specs) ∙ ap (find nat_cmp c) (sym (watches_from kept.specs))

-- TWO STORES in one state
module _ (old : Kept) (old_ins : Inboxes) (new : Kept) (ins : Inboxes) (same : state_of new ins ≡ state_of old old_ins) (old_ids : AreIds old) (ids : AreIds new) (old_sound : IsSoundStore (store_of old)) where
  same_specs : new.specs ≡ old.specs
  same_specs = sym (specs_told new ins new.specs) ∙ ap (λ (s : State). map {B = ℕ × ConnSpec} (λ (e : ℕ × ConnectionOf Mark). (e.0, e.1.spec)) s.conns) same ∙ specs_told old old_ins old.specs

  old_rising : is_sorted nat_cmp old.specs ≡ true
  old_rising = sym (same_rising (conns_of old.specs old.watched) old.specs (conns_keys old.watched old.specs)) ∙ old_sound.kept.ids.rising

  rising : is_sorted nat_cmp new.specs ≡ true
  rising = ap (is_sorted nat_cmp) same_specs ∙ old_rising

  same_watches : (c : ℕ) → watches_of c new.watched ≡ watches_of c old.watched
  same_watches c = by (find nat_cmp c old.specs) refl
    where
      told : option_map (λ (spec : ConnSpec). watches_of c new.watched) (find nat_cmp c old.specs) ≡ option_map (λ (spec : ConnSpec). watches_of c old.watched) (find nat_cmp c old.specs)
      told =
          ap (λ (specs : Specs). option_map (λ (spec : ConnSpec). watches_of c new.watched) (find nat_cmp c specs)) (sym same_specs)
          ∙ watches_told new ins ids rising c
          ∙ ap (λ (s : State). find nat_cmp c (map {B = ℕ × List Watch} (λ (e : ℕ × ConnectionOf Mark). (e.0, e.1.watches)) s.conns)) same
          ∙ sym (watches_told old old_ins old_ids old_rising c)

      by : (o : Option ConnSpec) → find nat_cmp c old.specs ≡ o → watches_of c new.watched ≡ watches_of c old.watched
      by None t = unwatched new ins ids c (ap (find nat_cmp c) same_specs ∙ t) ∙ sym (unwatched old old_ins old_ids c t)
      by (Some spec) t = from_Some (subst (λ (o : Option ConnSpec). option_map (λ (spec : ConnSpec). watches_of c new.watched) o ≡ option_map (λ (spec : ConnSpec). watches_of c old.watched) o) t told)

  same_store : IsSameStore old new
  same_store = record {
    tree = ap (λ (s : State). s.tree) same;
    gens = ap (λ (s : State). s.gens) same;
    globals = ap (λ (s : State). s.globals) same;
    specs = same_specs;
    watches = same_watches;
    opens =
        opens_told new ins ids rising ∙ ap (λ (s : State). map {B = ℕ × Opens} (λ (e : ℕ × ConnectionOf Mark). (e.0, opens_in e.1)) s.conns) same
        ∙ sym (opens_told old old_ins old_ids old_rising);
    unsent =
        unsent_told new ins ids rising ∙ ap (λ (s : State). map {B = ℕ × List ℕ} (λ (e : ℕ × ConnectionOf Mark). (e.0, e.1.unsent)) s.conns) same
        ∙ sym (unsent_told old old_ins old_ids old_rising);
    rests =
        rests_told new ins ids rising ∙ ap (λ (s : State). map {B = ℕ × ℕ} (λ (e : ℕ × ConnectionOf Mark). (e.0, e.1.rest)) s.conns) same
        ∙ sym (rests_told old old_ins old_ids old_rising);
  }

  -- the new one goes on
  pub goes_on : map (λ e. e.0) ins ≡ map (λ e. e.0) new.unsent → GoesOn old old_ins new ins
  goes_on unsent =
      let named : map (λ (e : ℕ × List ℕ). e.0) ins ≡ map (λ (e : ℕ × ConnSpec). e.0) new.specs = unsent ∙ ids.unsent in
      record {
        same = same;
        store = same_store;
        named = named;
        inboxes = λ old_named.
            inboxes_told new ins ids rising named ∙ ap (λ (s : State). map {B = ℕ × List ℕ} (λ (e : ℕ × ConnectionOf Mark). (e.0, e.1.inbox)) s.conns) same
            ∙ sym (inboxes_told old old_ins old_ids old_rising old_named);
      }

-- THE IMAGE OF A STATE that it tells is loaded, where there is memory
pub for_memory : (bytes : List ℕ) (state : State) (fault : LoadFault) → bytes ≡ image state → state_of_bytes (image state) ≡ Ok state
    → (fault ≡ NoMemory) ⊎ (state_of_bytes bytes ≡ Err fault) → fault ≡ NoMemory
for_memory bytes state fault is tells (inl none) = none
for_memory bytes state fault is tells (inr told) = absurd (false≢true (sym (ap is_ok told) ∙ ap is_ok (ap state_of_bytes is ∙ tells)))
