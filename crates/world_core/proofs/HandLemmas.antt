-- A handover: the store that goes on stands for the same stores, and what a refusal says.
use Rattle.std.proofs.Common.{◌≡◌, ℕ, List, [], ◌∷◌, map, refl, sym, ap, ap₂, subst, ◌∙◌}
use Rattle.xs_model.specs.Watches.{Watch}
use Rattle.machine_model.specs.Machine.{Machine}
use Rattle.kept_model.specs.Images.{image}
use Rattle.conn_table.specs.Tables.{Specs, IsTable}
use Rattle.watchers.specs.Watched.{Watched, watching, watches_of, conns_of}
use Rattle.store_parts.specs.Kept.{Kept as KeptByDaemon}
use Rattle.store_parts.specs.States.{Inboxes, state_of}
use Rattle.conn_rows.proofs.IdEntries.{keys_map}
use Rattle.daemon.specs.Keeps as daemon
use Rattle.daemon.specs.Ids.{IsSameStore}
use Rattle.world_model.specs.declared.Said.TheVariants.{Handed}
use Rattle.world_model.specs.Worlds.{World}
use Rattle.world_states.specs.States.{kept}
use Rattle.handover.specs.declared.handed.Refusal.{Refusal}
use Rattle.handover.specs.declared.handed.Refusal.TheVariants as refusal
use Rattle.handover.specs.Hands.{Told, HasHanded, IsRefused}
use Rattle.world_core.specs.Handovers.{HandsAs, HandsOver, refused_by}
use Rattle.world_core.specs.Stands.{Kept, StandsFor, GoesOn}
use Rattle.world_core.proofs.ChannelLemmas.{ids}
use Rattle.world_core.proofs.StandLemmas.{inbox, unsent, kept_rings}
use Rattle.world_core.proofs.KeptLemmas.{kept_is}

-- THE SAME STORE is kept where the watches of each connection are the same
conns_alike : (old new : Watched) → ((c : ℕ) → watches_of c new ≡ watches_of c old) → (specs : Specs) → conns_of specs new ≡ conns_of specs old
conns_alike old new same [] = refl
conns_alike old new same (e ∷ es) =
    ap₂ (λ (ws : List Watch) l. (e.0, watching e.1 ws) ∷ l) (same e.0) (conns_alike old new same es)

module _ (old new : KeptByDaemon) (same : IsSameStore old new) where
  conns_same : conns_of new.specs new.watched ≡ conns_of old.specs old.watched
  conns_same = ap (λ specs. conns_of specs new.watched) same.specs ∙ conns_alike old.watched new.watched same.watches old.specs

  store_same : daemon.store_of new ≡ daemon.store_of old
  store_same = λ i. record { machine = record { tree = same.tree i; gens = same.gens i; conns = conns_same i }; opens = same.opens i }

  same_stands : (m : Machine) → daemon.StandsFor old m → daemon.StandsFor new m
  same_stands m stands = record {
    same = stands.same ∙ sym store_same;
    followed = stands.followed;
    conn_ids = stands.conn_ids;
    table = subst IsTable (sym same.specs) stands.table;
    ids = ap (map (λ e. e.0)) same.unsent ∙ stands.ids ∙ ap (map (λ e. e.0)) (sym same.specs);
    rest_ids = ap (map (λ e. e.0)) same.rests ∙ stands.rest_ids ∙ ap (map (λ e. e.0)) (sym same.specs);
  }

-- THE INBOXES of each world that is stood for are by the ids of its connections
named_inboxes : (old : Kept) (w : World) → StandsFor old w → ids old.inboxes ≡ ids old.daemon.specs
named_inboxes old w stands =
    ap (λ (es : Inboxes). ids es) (sym stands.inboxes) ∙ keys_map inbox w.channels ∙ sym (keys_map unsent w.channels)
    ∙ ap (λ (es : Inboxes). ids es) stands.unsent ∙ stands.store.ids

-- WHAT GOES ON
pub goes_on : (old new : Kept) → IsSameStore old.daemon new.daemon → (ids old.inboxes ≡ ids old.daemon.specs → new.inboxes ≡ old.inboxes) → new.guests ≡ old.guests → new.rings ≡ old.rings → GoesOn old new
goes_on old new same inboxes guests rings w stands = record {
  store = same_stands old.daemon new.daemon same w.machine stands.store;
  globals = stands.globals ∙ sym same.globals;
  guests = stands.guests ∙ sym guests;
  inboxes = stands.inboxes ∙ sym (inboxes (named_inboxes old w stands));
  unsent = stands.unsent ∙ sym same.unsent;
  rests = stands.rests ∙ sym same.rests;
  order = stands.order;
  rings = kept_rings old new w stands rings;
}

-- WHAT IS SAID
hands_as : (bytes : List ℕ) (vault vault_new : Told) (why : Refusal) → IsRefused bytes vault why vault_new → HandsAs bytes vault (refused_by why) vault_new
hands_as bytes vault vault_new refusal.VaultFault h = h
hands_as bytes vault vault_new (refusal.Changed change) h = h
hands_as bytes vault vault_new refusal.NoMemory h = h

module _ (old : Kept) where
  -- the image is that of what each world keeps
  image_is : (w : World) → StandsFor old w → image (kept w) ≡ image (state_of old.daemon old.inboxes)
  image_is w stands = ap (λ s. image s) (kept_is old w stands)

  pub handed_over : (new : Kept) (vault vault_new : Told) → GoesOn old new → HasHanded (image (state_of old.daemon old.inboxes)) vault vault_new → HandsOver old vault Handed new vault_new
  handed_over new vault vault_new goes handed = record {
    hands = λ w stands. subst (λ bytes. HasHanded bytes vault vault_new) (sym (image_is w stands)) handed;
    goes_on = goes;
    refused = λ other. absurd (other refl);
  }

  pub refused_over : (vault vault_new : Told) (why : Refusal) → IsRefused (image (state_of old.daemon old.inboxes)) vault why vault_new → HandsOver old vault (refused_by why) old vault_new
  refused_over vault vault_new why is = record {
    hands = λ w stands.
        subst (λ bytes. HandsAs bytes vault (refused_by why) vault_new) (sym (image_is w stands))
        (hands_as (image (state_of old.daemon old.inboxes)) vault vault_new why is);
    goes_on = λ w stands. stands;
    refused = λ _. refl;
  }
