-- Requests on watches and on domains do what they do in the sequential store, and keep the open transactions.
use Rattle.std.specs.Prelude.{◌≡◌, ℕ, ◌==◌, Bool, true, false, cond, not, List, [], ◌∷◌, ◌++◌, filter, Option, Some, None, is_some, Result, Ok}
use Rattle.std.specs.Option.{option_map}
use Rattle.std.specs.List.{AllByRecursion, list_any}
use Rattle.std.specs.Ordering.{nat_cmp, eq_by_cmp}
use Rattle.std.specs.Cmp.{nat_cmp_total}
use Rattle.std.specs.FinMap.{find, put, is_sorted, nat_cmp-IsAntisymmetric}
use Rattle.std.specs.FinMap.Entries.{where_key, find-where_key}
use Rattle.std.proofs.Common.{sym, refl, ap, subst, ◌∙◌}
use Rattle.xs_model.specs.declared.message.WireErr.{WireErr}
use Rattle.xs_model.specs.declared.message.WireErr.TheVariants.{Eacces, Eexist, Enoent, E2big}
use Rattle.xs_model.specs.Messages.{ok_payload, string}
use Rattle.xs_model.specs.Paths.{text, home}
use Rattle.xs_model.specs.Requests.{introduce_domain, release_domain}
use Rattle.xs_model.specs.Watches.{Watch, same_watch, first_event, special_owed}
use Rattle.xs_model.proofs.Maps.{found_map, tied, found_put, sorted_put, sorted_where, keys_map}
use Rattle.machine_model.specs.declared.ConnSpec.{ConnSpec}
use Rattle.machine_model.specs.declared.ConnSpec.TheVariants.{Ring}
use Rattle.machine_model.specs.Connections.{Connection, Connections, fresh, caller_of, is_ring_of, ring_of, has_ring, with_evtchn, with_target, least_free}
use Rattle.machine_model.specs.Machine.{Machine, Done, Send, refused, replied, granted, with_conn, with_watches, with_spec, special_sends, sends_to, may_watch, add_watch, remove_watch, if_control, set_spec, set_spec_of, introduce, release, set_target, introduced_payload}
use Rattle.machine_model.specs.Limits.{HasIds}
use Rattle.machine_model.proofs.Lists.{all_weaker}
use Rattle.machine_model.proofs.LimitLemmas.{least_free-is}
use Rattle.mark_model.specs.Stores.{Opens, opens_in, without_transactions, bare, kept_of, opens_of, or_no_opens, with_opens, opens_by, beside}
use Rattle.mark_model.proofs.StoreMaps.{with_values, put_values, where_values, free_values, map_map, map_alike, all_of_any, each_found, where_passes, flat_values}
use Rattle.mark_model.proofs.StoreParts.{same_opens}
use Rattle.mark_model.proofs.StoreRequests.{done_kept}

-- THE OPEN TRANSACTIONS of the connections that are there
opens_itself : (conns : Connections) → is_sorted nat_cmp conns ≡ true → opens_by (with_values without_transactions conns) (with_values opens_in conns) ≡ with_values opens_in conns
opens_itself conns h =
    map_map (λ (e : ℕ × Connection). (e.0, without_transactions e.1)) (λ e. (e.0, opens_of e.0 (with_values opens_in conns))) conns
    ∙ map_alike (λ (e : ℕ × Connection). (e.0, opens_of e.0 (with_values opens_in conns))) (λ e. (e.0, opens_in e.1)) conns
    (all_weaker (λ (e : ℕ × Connection). find nat_cmp e.0 conns ≡ Some e.1) (λ e. (e.0, opens_of e.0 (with_values opens_in conns)) ≡ (e.0, opens_in e.1))
    (λ e found i. (e.0, or_no_opens ((found_map nat_cmp opens_in e.0 conns ∙ ap (option_map opens_in) found) i))) conns (each_found conns h))

opens_alike : (conns : Connections) (old new : List (ℕ × Opens)) → AllByRecursion (λ (e : ℕ × Connection). opens_of e.0 old ≡ opens_of e.0 new) conns → opens_by conns old ≡ opens_by conns new
opens_alike conns old new h =
    map_alike (λ (e : ℕ × Connection). (e.0, opens_of e.0 old)) (λ e. (e.0, opens_of e.0 new)) conns
    (all_weaker (λ (e : ℕ × Connection). opens_of e.0 old ≡ opens_of e.0 new) (λ e. (e.0, opens_of e.0 old) ≡ (e.0, opens_of e.0 new)) (λ e same i. (e.0, same i)) conns h)

-- WITHOUT TRANSACTIONS
bare_ring : (d : ℕ) (conns : Connections) → ring_of d (with_values without_transactions conns) ≡ ring_of d conns
bare_ring d [] = refl
bare_ring d (e ∷ conns) = ap (cond (is_ring_of d e.1.spec) (Some e.0)) (bare_ring d conns)

bare_special : (special : List ℕ) (conns : Connections) → special_sends special (with_values without_transactions conns) ≡ special_sends special conns
bare_special special conns = flat_values without_transactions (λ e. sends_to e.0 (special_owed (caller_of e.1.spec) e.1.watches special)) conns

-- what a request did, without the transactions
abbrev bared : Done → Done
bared done = record { reply = done.reply; machine = bare done.machine; sends = done.sends }

-- the request does the same to a store without transactions, and leaves those of the connections that stay
pub record IsBeside (m : Machine) (done other : Done) : Type 0 where
  pub same : other ≡ bared done
  pub opens : opens_by (bare done.machine).conns (kept_of m).opens ≡ (kept_of done.machine).opens

pub beside_kept : (m : Machine) (done other : Done) → IsBeside m done other → done_kept done ≡ beside (kept_of m) other
beside_kept m done other is =
    sym (ap (beside (kept_of m)) is.same ∙ (λ i. record { reply = done.reply; store = record { machine = bare done.machine; opens = is.opens i }; sends = done.sends }))

if_beside : (m : Machine) (b : Bool) (x y u v : Done) → IsBeside m x u → IsBeside m y v → IsBeside m (cond b x y) (cond b u v)
if_beside m true x y u v g h = g
if_beside m false x y u v g h = h

module _ (m : Machine) (ids : HasIds m.conns) where
  unchanged : (reply : Result (List ℕ) WireErr) → IsBeside m (record { reply = reply; machine = m; sends = [] }) (record { reply = reply; machine = bare m; sends = [] })
  unchanged reply = record { same = refl; opens = opens_itself m.conns ids.rising }

  sorted_now : (c : ℕ) (new : Connection) → is_sorted nat_cmp (put nat_cmp c new m.conns) ≡ true
  sorted_now c new = sorted_put nat_cmp nat_cmp_total c new m.conns ids.rising

  -- a connection that is there keeps its transactions
  put_same : (c : ℕ) (conn : Connection) → find nat_cmp c m.conns ≡ Some conn → (reply : Result (List ℕ) WireErr) (sends : List Send) (new : Connection) → opens_in new ≡ opens_in conn
      → IsBeside m (record { reply = reply; machine = with_conn c new m; sends = sends }) (record { reply = reply; machine = with_conn c (without_transactions new) (bare m); sends = sends })
  put_same c conn found reply sends new same = record {
    same = λ i. record { reply = reply; machine = record { tree = m.tree; gens = m.gens; conns = put_values nat_cmp without_transactions c new m.conns i }; sends = sends };
    opens =
        let now : Connections = put nat_cmp c new m.conns in
        ap (opens_by (with_values without_transactions now)) (sym (same_opens m ids c conn found new same)) ∙ opens_itself now (sorted_now c new);
  }

  -- WATCHES
  module _ (c : ℕ) (conn : Connection) (found : find nat_cmp c m.conns ≡ Some conn) where
    pub add_beside : (w : Watch) → IsBeside m (add_watch m c conn w) (add_watch (bare m) c (without_transactions conn) w)
    add_beside w =
        let watched : List Watch = conn.watches ++ w ∷ [] in
        let made : Done = record { reply = Ok ok_payload; machine = with_conn c (with_watches watched conn) m; sends = (c, first_event w) ∷ [] } in
        let other : Done = record { reply = Ok ok_payload; machine = with_conn c (with_watches watched (without_transactions conn)) (bare m); sends = (c, first_event w) ∷ [] } in
        let full : Bool = not (may_watch conn) in
        if_beside m (list_any (same_watch w) conn.watches) (refused Eexist m) (cond full (refused E2big m) made) (refused Eexist (bare m)) (cond full (refused E2big (bare m)) other) (unchanged _)
        (if_beside m full (refused E2big m) made (refused E2big (bare m)) other (unchanged _) (put_same c conn found (Ok ok_payload) ((c, first_event w) ∷ []) (with_watches watched conn) refl))

    pub remove_beside : (w : Watch) → IsBeside m (remove_watch m c conn w) (remove_watch (bare m) c (without_transactions conn) w)
    remove_beside w =
        let left : List Watch = filter (λ v. not (same_watch w v)) conn.watches in
        if_beside m (list_any (same_watch w) conn.watches) (granted (with_conn c (with_watches left conn) m)) (refused Enoent m)
        (granted (with_conn c (with_watches left (without_transactions conn)) (bare m))) (refused Enoent (bare m))
        (put_same c conn found (Ok ok_payload) [] (with_watches left conn) refl) (unchanged _)

    -- no transaction stays
    pub reset_kept : done_kept (granted (with_conn c (fresh conn.spec) m)) ≡ beside (with_opens c [] (kept_of m)) (granted (with_conn c (fresh conn.spec) (bare m)))
    reset_kept =
        let now : Connections = put nat_cmp c (fresh conn.spec) m.conns in
        let bares : put nat_cmp c (fresh conn.spec) (bare m).conns ≡ with_values without_transactions now = put_values nat_cmp without_transactions c (fresh conn.spec) m.conns in
        let opens : opens_by (put nat_cmp c (fresh conn.spec) (bare m).conns) (put nat_cmp c [] (kept_of m).opens) ≡ with_values opens_in now =
        (λ i. opens_by (bares i) (put_values nat_cmp opens_in c (fresh conn.spec) m.conns i)) ∙ opens_itself now (sorted_now c (fresh conn.spec))
        in
        λ i. record { reply = Ok ok_payload; store = record { machine = record { tree = m.tree; gens = m.gens; conns = sym bares i }; opens = sym opens i }; sends = [] }

  -- DOMAINS
  set_by : (change : ConnSpec → ConnSpec) (c : ℕ) (o : Option Connection) → find nat_cmp c m.conns ≡ o
      → IsBeside m (granted (set_spec change c o m)) (granted (set_spec change c (option_map without_transactions o) (bare m)))
  set_by change c None e = unchanged _
  set_by change c (Some conn) e = put_same c conn e (Ok ok_payload) [] (with_spec (change conn.spec) conn) refl

  set_beside : (change : ConnSpec → ConnSpec) (c : ℕ) → IsBeside m (granted (set_spec_of change c m)) (granted (set_spec_of change c (bare m)))
  set_beside change c =
      subst (λ o. IsBeside m (granted (set_spec_of change c m)) (granted (set_spec change c o (bare m)))) (sym (found_map nat_cmp without_transactions c m.conns))
      (set_by change c (find nat_cmp c m.conns) refl)

  -- a connection that is made: at this id there is none
  module _ (n : ℕ) (free : find nat_cmp n m.conns ≡ None) (spec : ConnSpec) where
    abbrev now : Connections
    now = put nat_cmp n (fresh spec) m.conns

    new_opens : (c : ℕ) → opens_of c (with_values opens_in m.conns) ≡ opens_of c (with_values opens_in now)
    new_opens c =
        by (eq_by_cmp nat_cmp c n) refl
        ∙ ap or_no_opens (sym (found_put nat_cmp nat_cmp_total c n [] (with_values opens_in m.conns)) ∙ ap (find nat_cmp c) (put_values nat_cmp opens_in n (fresh spec) m.conns))
      where
        by : (b : Bool) → eq_by_cmp nat_cmp c n ≡ b → opens_of c (with_values opens_in m.conns) ≡ or_no_opens (cond b (Some []) (find nat_cmp c (with_values opens_in m.conns)))
        by true t =
            ap or_no_opens (
            ap (λ d. find nat_cmp d (with_values opens_in m.conns)) (nat_cmp-IsAntisymmetric c n (tied nat_cmp nat_cmp_total c n t))
            ∙ found_map nat_cmp opens_in n m.conns ∙ ap (option_map opens_in) free)
        by false t = refl

    made_beside : IsBeside m (record { reply = Ok ok_payload; machine = with_conn n (fresh spec) m; sends = special_sends introduce_domain now })
        (record { reply = Ok ok_payload; machine = with_conn n (fresh spec) (bare m); sends = special_sends introduce_domain (put nat_cmp n (fresh spec) (bare m).conns) })
    made_beside =
        let bares : put nat_cmp n (fresh spec) (bare m).conns ≡ with_values without_transactions now = put_values nat_cmp without_transactions n (fresh spec) m.conns in
        record {
          same = λ i. record {
            reply = Ok ok_payload;
            machine = record { tree = m.tree; gens = m.gens; conns = bares i };
            sends = (ap (special_sends introduce_domain) bares ∙ bare_special introduce_domain now) i;
          };
          opens =
              opens_alike (with_values without_transactions now) (with_values opens_in m.conns) (with_values opens_in now) (all_of_any _ (λ e. new_opens e.0) _)
              ∙ opens_itself now (sorted_now n (fresh spec));
        }

  introduce_beside : (domid evtchn : ℕ) (o : Option ℕ) → IsBeside m (introduce m domid evtchn o) (introduce (bare m) domid evtchn o)
  introduce_beside domid evtchn (Some id) = set_beside (with_evtchn evtchn) id
  introduce_beside domid evtchn None =
      subst (λ n. IsBeside m (introduce m domid evtchn None) (record { reply = Ok ok_payload; machine = with_conn n (fresh (Ring domid None evtchn)) (bare m); sends = special_sends introduce_domain (put nat_cmp n (fresh (Ring domid None evtchn)) (bare m).conns) }))
      (sym (free_values without_transactions 1 m.conns))
      (made_beside (least_free m.conns) (least_free-is m.conns ids.rising ids.positive).free (Ring domid None evtchn))

  -- a connection that goes
  gone_beside : (c : ℕ) → IsBeside m (release m (Some c)) (release (bare m) (Some c))
  gone_beside c =
      let stays : ℕ → Bool = λ d. not (c == d) in
      let now : Connections = where_key nat_cmp stays m.conns in
      let bares : where_key nat_cmp stays (bare m).conns ≡ with_values without_transactions now = where_values nat_cmp without_transactions stays m.conns in
      record {
        same = λ i. record {
          reply = Ok ok_payload;
          machine = record { tree = m.tree; gens = m.gens; conns = bares i };
          sends = (ap (special_sends release_domain) bares ∙ bare_special release_domain now) i;
        };
        opens =
            opens_alike (with_values without_transactions now) (with_values opens_in m.conns) (with_values opens_in now)
            (all_weaker (λ (e : ℕ × Connection). stays e.0 ≡ true) (λ e. opens_of e.0 (with_values opens_in m.conns) ≡ opens_of e.0 (with_values opens_in now)) (λ e. kept_open e.0)
            (with_values without_transactions now) (keys_map (λ d. stays d ≡ true) without_transactions now (where_passes stays m.conns)))
            ∙ opens_itself now (sorted_where nat_cmp stays m.conns ids.rising);
      }
    where
      kept_open : (d : ℕ) → not (c == d) ≡ true → opens_of d (with_values opens_in m.conns) ≡ opens_of d (with_values opens_in (where_key nat_cmp (λ d. not (c == d)) m.conns))
      kept_open d h =
          ap or_no_opens (
          ap (λ b. cond b (find nat_cmp d (with_values opens_in m.conns)) None) (sym h)
          ∙ sym (find-where_key nat_cmp (λ d. not (c == d)) d (λ x t. ap (λ e. not (c == e)) (sym (nat_cmp-IsAntisymmetric d x t))) (with_values opens_in m.conns))
          ∙ ap (find nat_cmp d) (where_values nat_cmp opens_in (λ d. not (c == d)) m.conns))

  release_beside : (o : Option ℕ) → IsBeside m (release m o) (release (bare m) o)
  release_beside None = unchanged _
  release_beside (Some c) = gone_beside c

  target_beside : (target : ℕ) (o : Option ℕ) (b : Bool) → IsBeside m (set_target m target o b) (set_target (bare m) target o b)
  target_beside target None b = unchanged _
  target_beside target (Some id) false = unchanged _
  target_beside target (Some id) true = set_beside (with_target target) id

  -- THE REQUESTS on domains
  control_beside : (conn : Connection) (done other : Done) → IsBeside m done other → IsBeside m (if_control conn m done) (if_control (without_transactions conn) (bare m) other)
  control_beside conn done other h = if_beside m ((caller_of conn.spec).domid == 0) done (refused Eacces m) other (refused Eacces (bare m)) h (unchanged _)

  module _ (conn : Connection) where
    pub introduced : (domid evtchn : ℕ) → IsBeside m (if_control conn m (introduce m domid evtchn (ring_of domid m.conns))) (if_control (without_transactions conn) (bare m) (introduce (bare m) domid evtchn (ring_of domid (bare m).conns)))
    introduced domid evtchn =
        control_beside conn (introduce m domid evtchn (ring_of domid m.conns)) (introduce (bare m) domid evtchn (ring_of domid (bare m).conns))
        (subst (λ o. IsBeside m (introduce m domid evtchn (ring_of domid m.conns)) (introduce (bare m) domid evtchn o)) (sym (bare_ring domid m.conns)) (introduce_beside domid evtchn (ring_of domid m.conns)))

    pub released : (domid : ℕ) → IsBeside m (if_control conn m (release m (ring_of domid m.conns))) (if_control (without_transactions conn) (bare m) (release (bare m) (ring_of domid (bare m).conns)))
    released domid =
        control_beside conn (release m (ring_of domid m.conns)) (release (bare m) (ring_of domid (bare m).conns))
        (subst (λ o. IsBeside m (release m (ring_of domid m.conns)) (release (bare m) o)) (sym (bare_ring domid m.conns)) (release_beside (ring_of domid m.conns)))

    pub targeted : (domid target : ℕ) → IsBeside m (if_control conn m (set_target m target (ring_of domid m.conns) (has_ring target m.conns)))
        (if_control (without_transactions conn) (bare m) (set_target (bare m) target (ring_of domid (bare m).conns) (has_ring target (bare m).conns)))
    targeted domid target =
        let done : Done = set_target m target (ring_of domid m.conns) (has_ring target m.conns) in
        control_beside conn done (set_target (bare m) target (ring_of domid (bare m).conns) (has_ring target (bare m).conns))
        (subst (λ o. IsBeside m done (set_target (bare m) target o (has_ring target (bare m).conns))) (sym (bare_ring domid m.conns))
        (subst (λ o. IsBeside m done (set_target (bare m) target (ring_of domid m.conns) (is_some o))) (sym (bare_ring target m.conns)) (target_beside target (ring_of domid m.conns) (has_ring target m.conns))))

  pub told_path : (domid : ℕ) → IsBeside m (replied (string (text (home domid))) m) (replied (string (text (home domid))) (bare m))
  told_path domid = unchanged _

  pub told_ring : (domid : ℕ) → IsBeside m (replied (introduced_payload (has_ring domid m.conns)) m) (replied (introduced_payload (has_ring domid (bare m).conns)) (bare m))
  told_ring domid =
      subst (λ o. IsBeside m (replied (introduced_payload (has_ring domid m.conns)) m) (replied (introduced_payload (is_some o)) (bare m))) (sym (bare_ring domid m.conns)) (unchanged _)
