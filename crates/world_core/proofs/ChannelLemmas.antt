-- The two sides of channels: what is done to the channels is done to each side.
use Rattle.std.proofs.Common.{◌≡◌, ℕ, Bool, true, false, cond, List, [], ◌∷◌, ◌++◌, map, Option, Some, None, is_some, refl, sym, ap, ap₂, ◌∙◌}
use Rattle.std.specs.declared.cmp.Ordering.TheVariants.{Less, Equal, Greater}
use Rattle.std.specs.Ordering.{nat_cmp}
use Rattle.std.specs.FinMap.{find, put, is_sorted, nat_cmp-IsAntisymmetric}
use Rattle.std.specs.FinMap.Entries.{where_key, by_order}
use Rattle.std.specs.List.{AllByRecursion}
use Rattle.std.specs.Option.{option_map}
use Rattle.xs_model.proofs.Maps.{found_map}
use Rattle.machine_model.specs.Connections.{Connection, Connections}
use Rattle.machine_model.specs.Machine.{Step, Send}
use Rattle.machine_model.specs.History.{bytes_or_none, sent_to, unsent_after}
use Rattle.world_model.specs.Worlds.{Channel, channel_or_empty, channel_after, channels_after, unsent_of}
use Rattle.world_laws.proofs.EntryLemmas.{each_is_itself}
use Rattle.daemon.proofs.ValueLemmas.{same_ids}
use Rattle.conn_rows.proofs.IdEntries.{same_there, none_there}
use Rattle.store_parts.specs.States.{or_zero, rest_of}
use Rattle.world_core.specs.Stands.{inboxes_of, rests_of}

abbrev pub ids : {X : Type 0} → List (ℕ × X) → List ℕ
ids es = map (λ e. e.0) es

-- VALUES by their keys alone
module _ {X Y : Type 0} (g : ℕ → Y) where
  abbrev keyed : List (ℕ × X) → List (ℕ × Y)
  keyed es = map (λ e. (e.0, g e.0)) es

  pub keyed_put : (k : ℕ) (x : X) (es : List (ℕ × X)) → keyed (put nat_cmp k x es) ≡ put nat_cmp k (g k) (keyed es)
  keyed_put k x [] = refl
  keyed_put k x (e ∷ es) =
      let rest = keyed_put k x es in
      elim (nat_cmp k e.0) as (λ o. nat_cmp k e.0 ≡ o → keyed (by_order o ((k, x) ∷ e ∷ es) ((e.0, x) ∷ es) (e ∷ put nat_cmp k x es)) ≡ by_order o ((k, g k) ∷ (e.0, g e.0) ∷ keyed es) ((e.0, g k) ∷ keyed es) ((e.0, g e.0) ∷ put nat_cmp k (g k) (keyed es))) [
        | Less ↦ λ o. refl
        | Equal ↦ λ o. ap (λ n. (e.0, g n) ∷ keyed es) (sym (nat_cmp-IsAntisymmetric k e.0 o))
        | Greater ↦ λ o. ap (λ l. (e.0, g e.0) ∷ l) rest
      ] refl

  pub keyed_where : (t : ℕ → Bool) (es : List (ℕ × X)) → keyed (where_key nat_cmp t es) ≡ where_key nat_cmp t (keyed es)
  keyed_where t [] = refl
  keyed_where t (e ∷ es) =
      let rest = keyed_where t es in
      elim (t e.0) as (λ b. keyed (cond b (e ∷ where_key nat_cmp t es) (where_key nat_cmp t es)) ≡ cond b ((e.0, g e.0) ∷ where_key nat_cmp t (keyed es)) (where_key nat_cmp t (keyed es))) [
        | true ↦ ap (λ l. (e.0, g e.0) ∷ l) rest
        | false ↦ rest
      ]

-- VALUES THAT ARE FOUND by other entries with the same keys
module _ {X Y : Type 0} (h : Option X → Y) where
  by_values : (all es : List (ℕ × X)) → AllByRecursion (λ d. find nat_cmp d.0 all ≡ Some d.1) es → map {B = ℕ × Y} (λ e. (e.0, h (find nat_cmp e.0 all))) es ≡ map {B = ℕ × Y} (λ e. (e.0, h (Some e.1))) es
  by_values all [] found = refl
  by_values all (e ∷ es) found = ap₂ (λ (y : Y) l. (e.0, y) ∷ l) (ap h found.0) (by_values all es found.1)

  by_ids : {A : Type 0} (all : List (ℕ × X)) (ks : List (ℕ × A)) → map {B = ℕ × Y} (λ e. (e.0, h (find nat_cmp e.0 all))) ks ≡ map {B = ℕ × Y} (λ k. (k, h (find nat_cmp k all))) (ids ks)
  by_ids all [] = refl
  by_ids all (k ∷ ks) = ap (λ l. (k.0, h (find nat_cmp k.0 all)) ∷ l) (by_ids all ks)

  pub found_by_ids : {A : Type 0} (ks : List (ℕ × A)) (es : List (ℕ × X)) → ids ks ≡ ids es → is_sorted nat_cmp es ≡ true → map {B = ℕ × Y} (λ e. (e.0, h (find nat_cmp e.0 es))) ks ≡ map {B = ℕ × Y} (λ e. (e.0, h (Some e.1))) es
  found_by_ids ks es same sorted =
      by_ids es ks ∙ ap (map {B = ℕ × Y} (λ k. (k, h (find nat_cmp k es)))) same ∙ sym (by_ids es es) ∙ by_values es es (each_is_itself es sorted)

-- A STEP: what is unsent after it, on either account
unsent_of_found : (sends : List Send) (c : ℕ) (o : Option Channel) → (channel_after sends c (channel_or_empty o)).unsent ≡ bytes_or_none (option_map (λ (ch : Channel). ch.unsent) o) ++ sent_to c sends
unsent_of_found sends c None = refl
unsent_of_found sends c (Some channel) = refl

unsent_by_conns : {A : Type 0} (sends : List Send) (channels : List (ℕ × Channel)) (ks : List (ℕ × A)) → unsent_of (map (λ e. (e.0, channel_after sends e.0 (channel_or_empty (find nat_cmp e.0 channels)))) ks) ≡ map (λ e. (e.0, bytes_or_none (find nat_cmp e.0 (unsent_of channels)) ++ sent_to e.0 sends)) ks
unsent_by_conns sends channels [] = refl
unsent_by_conns sends channels (k ∷ ks) =
    ap₂ (λ (u : List ℕ) l. (k.0, u) ∷ l)
    (unsent_of_found sends k.0 (find nat_cmp k.0 channels) ∙ ap (λ o. bytes_or_none o ++ sent_to k.0 sends) (sym (found_map nat_cmp (λ (ch : Channel). ch.unsent) k.0 channels)))
    (unsent_by_conns sends channels ks)

pub unsent_stepped : (stepped : Step) (channels : List (ℕ × Channel)) → unsent_of (channels_after stepped channels) ≡ unsent_after stepped (unsent_of channels)
unsent_stepped stepped channels = unsent_by_conns stepped.1 channels stepped.0.conns

-- how many of these bytes end a message that was sent in part: as many as before
rest_of_found : (sends : List Send) (c : ℕ) (o : Option Channel) → (channel_after sends c (channel_or_empty o)).rest ≡ or_zero (option_map (λ (ch : Channel). ch.rest) o)
rest_of_found sends c None = refl
rest_of_found sends c (Some channel) = refl

rests_by_conns : {A : Type 0} (sends : List Send) (channels : List (ℕ × Channel)) (ks : List (ℕ × A)) → rests_of (map (λ e. (e.0, channel_after sends e.0 (channel_or_empty (find nat_cmp e.0 channels)))) ks) ≡ map (λ e. (e.0, rest_of e.0 (rests_of channels))) ks
rests_by_conns sends channels [] = refl
rests_by_conns sends channels (k ∷ ks) =
    ap₂ (λ (n : ℕ) l. (k.0, n) ∷ l)
    (rest_of_found sends k.0 (find nat_cmp k.0 channels) ∙ ap or_zero (sym (found_map nat_cmp (λ (ch : Channel). ch.rest) k.0 channels)))
    (rests_by_conns sends channels ks)

pub rests_stepped : {A : Type 0} (stepped : Step) (channels : List (ℕ × Channel)) (specs : List (ℕ × A)) → ids stepped.0.conns ≡ ids specs → rests_of (channels_after stepped channels) ≡ map (λ e. (e.0, rest_of e.0 (rests_of channels))) specs
rests_stepped stepped channels specs same =
    rests_by_conns stepped.1 channels stepped.0.conns ∙ same_ids (λ k. rest_of k (rests_of channels)) stepped.0.conns specs same

-- inboxes stay, where the connections do
abbrev inbox_or_empty : Option Channel → List ℕ
inbox_or_empty o = (channel_or_empty o).inbox

inboxes_by_conns : {A : Type 0} (sends : List Send) (channels : List (ℕ × Channel)) (ks : List (ℕ × A)) → inboxes_of (map (λ e. (e.0, channel_after sends e.0 (channel_or_empty (find nat_cmp e.0 channels)))) ks) ≡ map (λ e. (e.0, inbox_or_empty (find nat_cmp e.0 channels))) ks
inboxes_by_conns sends channels [] = refl
inboxes_by_conns sends channels (k ∷ ks) = ap (λ l. (k.0, inbox_or_empty (find nat_cmp k.0 channels)) ∷ l) (inboxes_by_conns sends channels ks)

pub inboxes_stepped : (stepped : Step) (channels : List (ℕ × Channel)) → ids stepped.0.conns ≡ ids channels → is_sorted nat_cmp channels ≡ true → inboxes_of (channels_after stepped channels) ≡ inboxes_of channels
inboxes_stepped stepped channels same sorted =
    inboxes_by_conns stepped.1 channels stepped.0.conns ∙ found_by_ids inbox_or_empty stepped.0.conns channels same sorted

-- a new connection has an empty one
pub inboxes_made : (stepped : Step) (channels : List (ℕ × Channel)) (before : Connections) (c : ℕ) (conn : Connection) → stepped.0.conns ≡ put nat_cmp c conn before → ids before ≡ ids channels → is_sorted nat_cmp channels ≡ true → find nat_cmp c before ≡ None
    → inboxes_of (channels_after stepped channels) ≡ put nat_cmp c [] (inboxes_of channels)
inboxes_made stepped channels before c conn made same sorted free =
    inboxes_by_conns stepped.1 channels stepped.0.conns
    ∙ ap (map (λ (e : ℕ × Connection). (e.0, inbox_or_empty (find nat_cmp e.0 channels)))) made
    ∙ keyed_put (λ k. inbox_or_empty (find nat_cmp k channels)) c conn before
    ∙ ap₂ (put nat_cmp c) (ap inbox_or_empty (none_there (find nat_cmp c channels) (sym (same_there before channels same c) ∙ ap is_some free))) (found_by_ids inbox_or_empty before channels same sorted)

-- and a connection that is lost has none
pub inboxes_lost : (stepped : Step) (channels : List (ℕ × Channel)) (before : Connections) (t : ℕ → Bool) → stepped.0.conns ≡ where_key nat_cmp t before → ids before ≡ ids channels → is_sorted nat_cmp channels ≡ true
    → inboxes_of (channels_after stepped channels) ≡ where_key nat_cmp t (inboxes_of channels)
inboxes_lost stepped channels before t lost same sorted =
    inboxes_by_conns stepped.1 channels stepped.0.conns
    ∙ ap (map (λ (e : ℕ × Connection). (e.0, inbox_or_empty (find nat_cmp e.0 channels)))) lost
    ∙ keyed_where (λ k. inbox_or_empty (find nat_cmp k channels)) t before
    ∙ ap (where_key nat_cmp t) (found_by_ids inbox_or_empty before channels same sorted)
