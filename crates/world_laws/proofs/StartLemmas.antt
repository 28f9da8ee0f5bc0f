-- A world at its start has a sound account, and head lines of scripts make such worlds.
use Rattle.std.specs.Prelude.{◌≡◌, ℕ, ◌<◌, ◌^◌, ◌==◌, Bool, true, false, cond, List, [], ◌∷◌, map, filter_map, Option, Some, None, is_some, option_map, slice_get}
use Rattle.std.specs.List.{AllByRecursion}
use Rattle.std.specs.Ordering.{nat_cmp, eq_by_cmp}
use Rattle.std.specs.Cmp.{unsigned_tied}
use Rattle.std.specs.FinMap.{find, put}
use Rattle.std.proofs.Common.{sym, refl, ap, subst, ◌∙◌, inl, inr, arith, zero-add, eqb-true, eq-eqb, le_refl}
use Rattle.std.proofs.lemmas.Bool.{cases_Bool}
use Rattle.xs_model.proofs.Maps.{not_both, not_Some, from_Some}
use Rattle.machine_model.specs.declared.ConnSpec.TheVariants.{Ring as RingSpec}
use Rattle.machine_model.specs.Connections.{Connection, Connections, fresh, ring_of, has_ring, least_free}
use Rattle.machine_model.specs.Machine.{new_machine}
use Rattle.machine_model.proofs.Lists.{all_map_of, all_weaker}
use Rattle.machine_model.specs.History.{Life, begun_life, bytes_or_none, unsent_to}
use Rattle.world_model.specs.Worlds.{World, Guest, Channel, empty_channel, channel_or_empty, unsent_of, fresh_guest, new_world, ring_domid, domain_added, add_domain}
use Rattle.world_model.specs.Scripts.{DomainLine}
use Rattle.world_model.specs.Transcripts.{with_domains}
use Rattle.world_model.specs.Served.{PageLog, account_at_start, begun_log, inbox_at, new_log, life_of_ring, open_life_from, log_for}
use Rattle.world_laws.specs.Laws.{is_log_of, HasLogs, HasEmptyPage, IsStart}
use Rattle.world_laws.proofs.EntryLemmas.{value_of, mapped_some, found_same, found_other, found_mapped, each_is_found, each_any, each_of, each_at, any_mapped, any_of, any_found}
use Rattle.world_laws.proofs.ConnLemmas.{ends, one_ring_each, ring_ends, ends_ring, has_one_ring_each}
use Rattle.world_laws.proofs.StepLemmas.{Moved, moved_rings, new_ends, old_ends, new_moves}
use Rattle.world_laws.proofs.FlowLemmas.{flows_begun, fresh_page_empty}
use Rattle.world_laws.proofs.SoundLemmas.{State, HasState, Fits, IsOfConn, Sound}
use Rattle.world_laws.proofs.LifeLemmas.{IsOpenAt, open_at, is_open_of, open_found}

module _ (w : World) (start : IsStart w) where
  abbrev conns : Connections
  conns = w.machine.conns

  abbrev begun : ℕ × Connection → Life
  begun e = begun_life e.0 (unsent_to e.0 (unsent_of w.channels))

  abbrev lives : List Life
  lives = map begun conns

  start_fits : Fits w
  start_fits = record {
    ids = start.ids;
    rings = one_ring_each conns start.rings;
    pages = λ c d e. ap is_some (start.pages d (ends_ring conns c d e)).there;
    channels = start.channels;
  }

  start_lives : AllByRecursion (IsOfConn conns) lives
  start_lives =
      all_map_of (IsOfConn conns) begun conns
      (all_weaker (λ (e : ℕ × Connection). is_some (find nat_cmp e.0 conns) ≡ true) (λ e. IsOfConn conns (begun e)) (λ e found opened. found) conns (each_is_found conns))

  abbrev begun_as : Life → Life
  begun_as life = begun_life life.conn (unsent_to life.conn (unsent_of w.channels))

  all_begun : AllByRecursion (λ (life : Life). life ≡ begun_as life) lives
  all_begun = all_map_of (λ (life : Life). life ≡ begun_as life) begun conns (each_any (λ (e : ℕ × Connection). begun e ≡ begun_as (begun e)) (λ e. refl) conns)

  unsent_is : (c : ℕ) (channel : Channel) → find nat_cmp c w.channels ≡ Some channel → unsent_to c (unsent_of w.channels) ≡ channel.unsent
  unsent_is c channel e = ap bytes_or_none (found_mapped (λ k (x : Channel). x.unsent) c w.channels ∙ ap (option_map (λ (x : Channel). x.unsent)) e)

  start_state : (d c p : ℕ) → ring_of d conns ≡ Some c → IsOpenAt c 0 lives p → HasState w lives (begun_log w (new_log d p))
  start_state d c p ring at =
      let is : at.life ≡ begun_life c (unsent_to c (unsent_of w.channels)) =
      each_at (λ (life : Life). life ≡ begun_as life) lives at.i at.life all_begun at.stands ∙ ap (λ k. begun_life k (unsent_to k (unsent_of w.channels))) at.conn
      in
      let of_ring : ends conns c ≡ Some (Some d) = ring_ends conns start.ids.rising d c ring in
      let conn = mapped_some (λ (conn : Connection). ring_domid conn.spec) (find nat_cmp c conns) (Some d) of_ring in
      let channel = value_of (find nat_cmp c w.channels) (start.channels c ∙ ap is_some conn.1) in
      let page = start.pages d (ap is_some ring) in
      record {
        life = at.life;
        stands = ap (slice_get lives) (at.place ∙ zero-add at.i) ∙ at.stands;
        state = subst (λ life. State w (begun_log w (new_log d p)) life) (sym is) (inr (inr (record {
          there = refl;
          opened = refl;
          ring = of_ring;
          guest = page.guest;
          found = page.there;
          channel = channel.0;
          channel_found = channel.1;
          flows = λ u. flows_begun page.guest.page channel.0 _ _ page.empty
              (ap (inbox_at w) ring ∙ ap (λ o. (channel_or_empty o).inbox) channel.1) (unsent_is c channel.0 channel.1);
        })));
      }

  start_log_by : (d : ℕ) (log : PageLog) (o : Option ℕ) → ring_of d conns ≡ o → option_map (new_log d) (life_of_ring lives o) ≡ Some log → HasState w lives (begun_log w log)
  start_log_by d log None ring e = not_Some e
  start_log_by d log (Some c) ring e =
      let x = mapped_some (new_log d) (open_life_from 0 c lives) log e in
      subst (λ l. HasState w lives (begun_log w l)) (from_Some x.2) (start_state d c x.0 ring (open_at c 0 lives x.0 x.1))

  has_begun_life : (c : ℕ) → is_some (find nat_cmp c conns) ≡ true → is_some (open_life_from 0 c lives) ≡ true
  has_begun_life c there =
      open_found c 0 lives (any_mapped (is_open_of c) (λ (e : ℕ × Connection). c == e.0) begun (λ e t. eq-eqb e.0 c (sym (eqb-true c e.0 t))) conns (any_found c conns there))

  begun_log_found : (d c e : ℕ) → ring_of d conns ≡ Some c → is_some (find nat_cmp c conns) ≡ true → (d == e) ≡ true → (log : PageLog) × (log_for conns lives e ≡ Some log) × (is_log_of d log ≡ true)
  begun_log_found d c e ring there t =
      let same = eqb-true d e t in
      let p = value_of (open_life_from 0 c lives) (has_begun_life c there) in
      (new_log e p.0, ap (λ o. option_map (new_log e) (life_of_ring lives o)) (ap (λ k. ring_of k conns) (sym same) ∙ ring) ∙ ap (option_map (new_log e)) p.1, eq-eqb e d (sym same))

  abbrev first_logs : List PageLog
  first_logs = filter_map (λ (e : ℕ × Guest). log_for conns lives e.0) w.guests

  start_logged : HasLogs conns (map (begun_log w) first_logs)
  start_logged d ring =
      let c = value_of (ring_of d conns) ring in
      let conn = mapped_some (λ (conn : Connection). ring_domid conn.spec) (find nat_cmp c.0 conns) (Some d) (ring_ends conns start.ids.rising d c.0 c.1) in
      any_mapped (is_log_of d) (is_log_of d) (begun_log w) (λ log t. t) first_logs
      (any_of (is_log_of d) (λ (e : ℕ × Guest). d == e.0) (λ (e : ℕ × Guest). log_for conns lives e.0)
      (λ e same. begun_log_found d c.0 e.0 c.1 (ap is_some conn.1) same) w.guests (any_found d w.guests (ap is_some (start.pages d ring).there)))

  pub start_sound : Sound (account_at_start w)
  start_sound = record {
    machine = refl;
    fits = start_fits;
    lives = start_lives;
    logged = start_logged;
    logs = all_map_of (HasState w lives) (begun_log w) first_logs
        (each_of (λ log. HasState w lives (begun_log w log)) (λ (e : ℕ × Guest). e ≡ e) (λ (e : ℕ × Guest). log_for conns lives e.0) (λ e log h r. start_log_by e.0 log (ring_of e.0 conns) refl r) w.guests (each_any (λ (e : ℕ × Guest). e ≡ e) (λ e. refl) w.guests));
  }

-- SCRIPTS. A new world
only_one : {X : Type 0} (k c : ℕ) (v x : X) → find nat_cmp c ((k, v) ∷ []) ≡ Some x → c ≡ k
only_one k c v x =
    elim (eq_by_cmp nat_cmp c k) as (λ b. eq_by_cmp nat_cmp c k ≡ b → cond b (Some v) None ≡ Some x → c ≡ k) [
      | true ↦ λ t e. eqb-true c k (sym (unsigned_tied c k) ∙ t)
      | false ↦ λ t e. not_Some e
    ] refl

new_start : IsStart new_world
new_start = record {
  ids = record { rising = refl; positive = (le_refl 1, tt) };
  rings = has_one_ring_each new_machine.conns refl (λ c b d e f.
      let x = mapped_some (λ (conn : Connection). ring_domid conn.spec) (find nat_cmp c new_machine.conns) (Some d) e in
      let y = mapped_some (λ (conn : Connection). ring_domid conn.spec) (find nat_cmp b new_machine.conns) (Some d) f in
      only_one 1 c (fresh (RingSpec 0 None 0)) x.0 x.1 ∙ sym (only_one 1 b (fresh (RingSpec 0 None 0)) y.0 y.1));
  pages = λ d ring. page_by d (d == 0) refl ring;
  channels = λ c. channel_by (eq_by_cmp nat_cmp c 1);
}
  where
    page_by : (d : ℕ) (b : Bool) → (d == 0) ≡ b → is_some {T = ℕ} (cond b (Some 1) None) ≡ true → HasEmptyPage d ((0, fresh_guest 0) ∷ [])
    page_by d true t ring = record {
      guest = fresh_guest 0;
      there = ap (λ k. find nat_cmp k ((0, fresh_guest 0) ∷ [])) (eqb-true d 0 t);
      empty = fresh_page_empty 0 (omega arith);
    }
    page_by d false t ring = not_both ring refl

    channel_by : (b : Bool) → is_some (cond b (Some empty_channel) None) ≡ is_some (cond b (Some (fresh (RingSpec 0 None 0))) None)
    channel_by true = refl
    channel_by false = refl

-- one domain more
module _ (d start : ℕ) (low : start < 2 ^ 32) (w : World) (is : IsStart w) where
  page_here : (e : ℕ) → (e == d) ≡ true → HasEmptyPage e (put nat_cmp d (fresh_guest start) w.guests)
  page_here e t = record {
    guest = fresh_guest start;
    there = ap (λ k. find nat_cmp k (put nat_cmp d (fresh_guest start) w.guests)) (eqb-true e d t) ∙ found_same d (fresh_guest start) w.guests;
    empty = fresh_page_empty start low;
  }

  page_elsewhere : (e : ℕ) → (e == d) ≡ false → HasEmptyPage e w.guests → HasEmptyPage e (put nat_cmp d (fresh_guest start) w.guests)
  page_elsewhere e f p = record { guest = p.guest; there = found_other e d (fresh_guest start) w.guests f ∙ p.there; empty = p.empty }

  -- one that has no connection gets one
  module _ (none : ring_of d w.machine.conns ≡ None) where
    abbrev new_id : ℕ
    new_id = least_free w.machine.conns

    abbrev new_conn : Connection
    new_conn = fresh (RingSpec d None 0)

    abbrev after : Connections
    after = put nat_cmp new_id new_conn w.machine.conns

    moved : Moved w.machine.conns after []
    moved = new_moves w.machine is.ids d new_conn refl [] refl none

    old_ring : (q : ℕ) → (q == d) ≡ false → has_ring q after ≡ true → has_ring q w.machine.conns ≡ true
    old_ring q f ring =
        let r = value_of (ring_of q after) ring in
        let at : ends after r.0 ≡ Some (Some q) = ring_ends after moved.ids.rising q r.0 r.1 in
        elim (cases_Bool (r.0 == new_id)) [
          | inl t ↦
              let same : d ≡ q = from_Some (from_Some (sym (new_ends w.machine is.ids d new_conn refl [] refl none) ∙ ap (ends after) (sym (eqb-true r.0 new_id t)) ∙ at)) in
              not_both (eq-eqb q d (sym same)) f
          | inr apart ↦ ends_ring w.machine.conns r.0 q (sym (old_ends w.machine is.ids d new_conn refl [] refl none r.0 apart) ∙ at)
        ]

    channel_at : (k : ℕ) → is_some (find nat_cmp k (put nat_cmp new_id empty_channel w.channels)) ≡ is_some (find nat_cmp k after)
    channel_at k = elim (cases_Bool (k == new_id)) [
      | inl t ↦ subst (λ j. is_some (find nat_cmp j (put nat_cmp new_id empty_channel w.channels)) ≡ is_some (find nat_cmp j after)) (sym (eqb-true k new_id t))
          (ap is_some (found_same new_id empty_channel w.channels) ∙ sym (ap is_some (found_same new_id new_conn w.machine.conns)))
      | inr f ↦ ap is_some (found_other k new_id empty_channel w.channels f) ∙ is.channels k ∙ sym (ap is_some (found_other k new_id new_conn w.machine.conns f))
    ]

    connected : IsStart (domain_added d start None w)
    connected = record {
      ids = moved.ids;
      rings = has_one_ring_each after moved.ids.rising (moved_rings w.machine.conns after [] is.ids (one_ring_each w.machine.conns is.rings) moved);
      pages = λ q ring. elim (cases_Bool (q == d)) [ inl t ↦ page_here q t | inr f ↦ page_elsewhere q f (is.pages q (old_ring q f ring)) ];
      channels = channel_at;
    }

  added_by : (o : Option ℕ) → ring_of d w.machine.conns ≡ o → IsStart (domain_added d start o w)
  added_by (Some c) e = record {
    ids = is.ids;
    rings = is.rings;
    pages = λ q ring. elim (cases_Bool (q == d)) [ inl t ↦ page_here q t | inr f ↦ page_elsewhere q f (is.pages q ring) ];
    channels = is.channels;
  }
  added_by None e = connected e

  added_start : IsStart (add_domain d start w)
  added_start = added_by (ring_of d w.machine.conns) refl

pub lines_start : (lines : List DomainLine) (w : World) → AllByRecursion (λ (line : DomainLine). line.start < 2 ^ 32) lines → IsStart w → IsStart (with_domains lines w)
lines_start [] w h is = is
lines_start (line ∷ lines) w h is = lines_start lines (add_domain line.domid line.start w) h.1 (added_start line.domid line.start h.0 w is)

pub scripts_start : (lines : List DomainLine) → AllByRecursion (λ (line : DomainLine). line.start < 2 ^ 32) lines → IsStart (with_domains lines new_world)
scripts_start lines h = lines_start lines new_world h new_start
