-- What one step of the store does to the connections that are there: their domids stay, and at most one is new.
use Rattle.std.specs.Prelude.{◌≡◌, ℕ, ◌≤◌, ◌==◌, Bool, true, false, cond, not, List, [], ◌∷◌, ◌++◌, filter, flat_map, length, nat_le, decimal, Option, Some, None, option_map, Result, Ok, Err}
use Rattle.std.specs.List.{AllByRecursion, list_any}
use Rattle.std.specs.Ordering.{nat_cmp}
use Rattle.std.specs.Cmp.{nat_cmp_total}
use Rattle.std.specs.FinMap.{find, put, nat_cmp-IsAntisymmetric}
use Rattle.std.proofs.Common.{sym, refl, ap, subst, ◌∙◌, inl, inr, eqb-true, ne_eqb}
use Rattle.std.proofs.lemmas.Bool.{cases_Bool}
use Rattle.xs_model.specs.declared.message.WireErr.{WireErr}
use Rattle.xs_model.specs.declared.message.WireErr.TheVariants.{Eacces, Eexist, Enoent, Enospc, Ebusy, Eagain, E2big}
use Rattle.xs_model.specs.Paths.{Path}
use Rattle.xs_model.specs.Perms.{Caller}
use Rattle.xs_model.specs.Trees.{Tree}
use Rattle.xs_model.specs.Messages.{Message, message_bytes, string, ok_payload, header_of, payload_of}
use Rattle.xs_model.specs.Requests.{Operation, Request, Command, Watch as WatchRequest, Unwatch, Start, End, Introduce, Release, DomainPath, IsIntroduced, SetTarget, ResetWatches, request_of, introduce_domain, release_domain}
use Rattle.xs_model.specs.Commands.{Outcome}
use Rattle.xs_model.specs.Generations.{generation_of}
use Rattle.xs_model.specs.Changes.{changed_paths}
use Rattle.xs_model.specs.Watches.{Watch, same_watch, first_event, special_owed}
use Rattle.xs_model.proofs.Maps.{from_Some, sorted_put, sorted_where, sorted_map, keys_put, keys_where, keys_map, keys_found, found_map}
use Rattle.machine_model.specs.declared.ConnSpec.{ConnSpec}
use Rattle.machine_model.specs.declared.ConnSpec.TheVariants.{Ring, Socket}
use Rattle.machine_model.specs.Connections.{Connection, Connections, fresh, caller_of, ring_of, has_ring, with_evtchn, with_target, least_free}
use Rattle.machine_model.specs.Transactions.{Transaction, started, outcome_on, run_on, wrote, is_in_conflict}
use Rattle.machine_model.specs.Machine.{Machine, Item, Asked, Lost, Done, Send, refused, replied, granted, with_conn, without_conn, with_watches, with_transaction, without_transaction, with_spec, told, tell, special_sends, sends_to, changed_machine, ran_by, done_command, command_inside, run_command, transaction_limit, start, committed, finish, close, may_watch, add_watch, remove_watch, if_control, set_spec, introduce, release, set_target, act, act_or_refuse, step_of_conn, step_with, reply_message}
use Rattle.machine_model.specs.History.{sent_to}
use Rattle.machine_model.specs.Limits.{HasIds}
use Rattle.machine_model.proofs.LimitLemmas.{least_free-is}
use Rattle.world_model.specs.Worlds.{ring_domid}
use Rattle.machine_model.proofs.Lists.{all_weaker}
use Rattle.world_laws.proofs.EntryLemmas.{not_none, each_is_itself, found_same, found_other, lost_same, lost_other}
use Rattle.world_laws.proofs.ConnLemmas.{ends, OneRingEach, no_ring}

-- THE SAME CONNECTIONS, each of the same domid
pub record Kept (before after : Connections) : Type 0 where
  pub ids : HasIds after
  pub same : (c : ℕ) → ends after c ≡ ends before c

-- some that were there, and new ones: at most one, of a domid that had no ring, to which nothing is sent
pub record Moved (before after : Connections) (sends : List Send) : Type 0 where
  pub ids : HasIds after
  pub kept : (c : ℕ) (x y : Option ℕ) → ends before c ≡ Some x → ends after c ≡ Some y → ends after c ≡ ends before c
  pub made : (c d : ℕ) → ends before c ≡ None → ends after c ≡ Some (Some d) → ring_of d before ≡ None
  pub one : (c b : ℕ) (x y : Option ℕ) → ends before c ≡ None → ends before b ≡ None → ends after c ≡ Some x → ends after b ≡ Some y → c ≡ b
  pub unsent : (c : ℕ) (x : Option ℕ) → ends before c ≡ None → ends after c ≡ Some x → sent_to c sends ≡ []

-- domids stay distinct
module _ (before after : Connections) (sends : List Send) (ids : HasIds before) (rings : OneRingEach before) (moved : Moved before after sends) where
  one_by : (c b d : ℕ) (o p : Option (Option ℕ)) → ends before c ≡ o → ends before b ≡ p → ends after c ≡ Some (Some d) → ends after b ≡ Some (Some d) → c ≡ b
  one_by c b d None None e f g h = moved.one c b (Some d) (Some d) e f g h
  one_by c b d (Some x) (Some y) e f g h = rings c b d (sym (moved.kept c x (Some d) e g) ∙ g) (sym (moved.kept b y (Some d) f h) ∙ h)
  one_by c b d None (Some y) e f g h = no_ring before ids.rising b d (moved.made c d e g) (sym (moved.kept b y (Some d) f h) ∙ h)
  one_by c b d (Some x) None e f g h = no_ring before ids.rising c d (moved.made b d f h) (sym (moved.kept c x (Some d) e g) ∙ g)

  pub moved_rings : OneRingEach after
  moved_rings c b d g h = one_by c b d (ends before c) (ends before b) refl refl g h

kept_twice : (x y z : Connections) → Kept x y → Kept y z → Kept x z
kept_twice x y z a b = record { ids = b.ids; same = λ c. b.same c ∙ a.same c }

kept_moves : (before after : Connections) (sends : List Send) → Kept before after → Moved before after sends
kept_moves before after sends k = record {
  ids = k.ids;
  kept = λ c x y e f. k.same c;
  made = λ c d e f. not_none f (k.same c ∙ e);
  one = λ c b x y e f g h. not_none g (k.same c ∙ e);
  unsent = λ c x e f. not_none f (k.same c ∙ e);
}

tell_kept : (paths : List Path) (conns : Connections) → HasIds conns → Kept conns (tell paths conns)
tell_kept [] conns ids = record { ids = ids; same = λ c. refl }
tell_kept (p ∷ ps) conns ids = record {
  ids = record {
    rising = sorted_map nat_cmp (told (p ∷ ps)) conns ∙ ids.rising;
    positive = keys_map (λ i. 1 ≤ i) (told (p ∷ ps)) conns ids.positive;
  };
  same = λ c. ap (option_map (λ (conn : Connection). ring_domid conn.spec)) (found_map nat_cmp (told (p ∷ ps)) c conns) ∙ told_domid (find nat_cmp c conns);
}
  where
    told_domid : (o : Option Connection) → option_map (λ (conn : Connection). ring_domid conn.spec) (option_map (told (p ∷ ps)) o) ≡ option_map (λ (conn : Connection). ring_domid conn.spec) o
    told_domid None = refl
    told_domid (Some conn) = refl

evtchn-domid : (evtchn : ℕ) (spec : ConnSpec) → ring_domid (with_evtchn evtchn spec) ≡ ring_domid spec
evtchn-domid evtchn (Ring domid target old) = refl
evtchn-domid evtchn (Socket fd) = refl

target-domid : (target : ℕ) (spec : ConnSpec) → ring_domid (with_target target spec) ≡ ring_domid spec
target-domid target (Ring domid old evtchn) = refl
target-domid target (Socket fd) = refl

if_kept : (m : Machine) (b : Bool) (x y : Done) → Kept m.conns x.machine.conns → Kept m.conns y.machine.conns → Kept m.conns (cond b x y).machine.conns
if_kept m true x y p q = p
if_kept m false x y p q = q

module _ (m : Machine) (ids : HasIds m.conns) where
  all_kept : Kept m.conns m.conns
  all_kept = record { ids = ids; same = λ c. refl }

  put_kept : (c : ℕ) (old new : Connection) → find nat_cmp c m.conns ≡ Some old → ring_domid new.spec ≡ ring_domid old.spec → Kept m.conns (put nat_cmp c new m.conns)
  put_kept c old new e same = record {
    ids = record {
      rising = sorted_put nat_cmp nat_cmp_total c new m.conns ids.rising;
      positive = keys_put nat_cmp (λ i. 1 ≤ i) c new m.conns (keys_found nat_cmp (λ i. 1 ≤ i) nat_cmp-IsAntisymmetric c m.conns old ids.positive e) ids.positive;
    };
    same = λ q. elim (cases_Bool (q == c)) [
      | inl t ↦ subst (λ k. ends (put nat_cmp c new m.conns) k ≡ ends m.conns k) (sym (eqb-true q c t))
          (ap (option_map (λ (conn : Connection). ring_domid conn.spec)) (found_same c new m.conns) ∙ ap Some same ∙ sym (ap (option_map (λ (conn : Connection). ring_domid conn.spec)) e))
      | inr f ↦ ap (option_map (λ (conn : Connection). ring_domid conn.spec)) (found_other q c new m.conns f)
    ];
  }

  change_kept : (tree : Tree) (written : List Path) → Kept m.conns (changed_machine tree written m).conns
  change_kept tree written = tell_kept (changed_paths m.tree written tree) m.conns ids

-- REQUESTS of a connection that is there
module _ (m : Machine) (ids : HasIds m.conns) (c : ℕ) (conn : Connection) (there : find nat_cmp c m.conns ≡ Some conn) where
  own_kept : (new : Connection) → ring_domid new.spec ≡ ring_domid conn.spec → Kept m.conns (with_conn c new m).conns
  own_kept new same = put_kept m ids c conn new there same

  inside_kept : (id : ℕ) (operation : Operation) (path : Path) (found : Option Transaction) → Kept m.conns (command_inside m c conn id operation path found).machine.conns
  inside_kept id operation path None = all_kept m ids
  inside_kept id operation path (Some t) = own_kept _ refl

  run_command_kept : (tx : ℕ) (operation : Operation) (path : Path) → Kept m.conns (run_command m c conn tx operation path).machine.conns
  run_command_kept tx operation path =
      let outcome : Outcome = outcome_on m.tree (ran_by conn operation path (generation_of m.gens path)) in
      if_kept m (tx == 0) (done_command m outcome) (command_inside m c conn tx operation path (find nat_cmp tx conn.transactions))
      (change_kept m ids outcome.tree outcome.written) (inside_kept tx operation path (find nat_cmp tx conn.transactions))

  start_kept : (tx : ℕ) → Kept m.conns (start m c conn tx).machine.conns
  start_kept tx =
      let id = least_free conn.transactions in
      let done = replied (string (decimal id)) (with_conn c (with_transaction id (started m.tree) conn) m) in
      let full = nat_le (transaction_limit conn.spec) (length conn.transactions) in
      if_kept m (not (tx == 0)) (refused Ebusy m) (cond full (refused Enospc m) done) (all_kept m ids)
      (if_kept m full (refused Enospc m) done (all_kept m ids) (own_kept _ refl))

  finish_kept : (commit : Bool) (closed : Machine) (t : Transaction) → Kept m.conns closed.conns → Kept m.conns (finish commit closed t).machine.conns
  finish_kept false closed t k = k
  finish_kept true closed t k =
      if_kept m (is_in_conflict t) (refused Eagain closed) (committed closed t (run_on closed.tree t)) k
      (kept_twice m.conns closed.conns _ k (change_kept closed k.ids (run_on closed.tree t).tree (wrote t)))

  close_kept : (commit : Bool) (id : ℕ) (found : Option Transaction) → Kept m.conns (close commit m c conn id found).machine.conns
  close_kept commit id None = all_kept m ids
  close_kept commit id (Some t) = finish_kept commit (with_conn c (without_transaction id conn) m) t (own_kept (without_transaction id conn) refl)

  add_watch_kept : (w : Watch) → Kept m.conns (add_watch m c conn w).machine.conns
  add_watch_kept w =
      let made : Done = record { reply = Ok ok_payload; machine = with_conn c (with_watches (conn.watches ++ w ∷ []) conn) m; sends = (c, first_event w) ∷ [] } in
      let full = not (may_watch conn) in
      if_kept m (list_any (same_watch w) conn.watches) (refused Eexist m) (cond full (refused E2big m) made) (all_kept m ids)
      (if_kept m full (refused E2big m) made (all_kept m ids) (own_kept _ refl))

  remove_watch_kept : (w : Watch) → Kept m.conns (remove_watch m c conn w).machine.conns
  remove_watch_kept w =
      if_kept m (list_any (same_watch w) conn.watches) (granted (with_conn c (with_watches (filter (λ v. not (same_watch w v)) conn.watches) conn) m)) (refused Enoent m)
      (own_kept _ refl) (all_kept m ids)

-- NEW CONNECTIONS, and lost ones
nothing_sent : (c b : ℕ) (messages : List Message) (rest : List Send) → (c == b) ≡ false → sent_to c (sends_to b messages ++ rest) ≡ sent_to c rest
nothing_sent c b [] rest apart = refl
nothing_sent c b (message ∷ messages) rest apart =
    ap (λ t. flat_map (λ (s : Send). message_bytes s.1) (cond t ((b, message) ∷ filter (λ (s : Send). c == s.0) (sends_to b messages ++ rest)) (filter (λ (s : Send). c == s.0) (sends_to b messages ++ rest)))) apart
    ∙ nothing_sent c b messages rest apart

special_none : (special : List ℕ) (c : ℕ) (spec : ConnSpec) (es : Connections) → AllByRecursion (λ (e : ℕ × Connection). (c == e.0) ≡ true → e.1 ≡ fresh spec) es → sent_to c (special_sends special es) ≡ []
special_none special c spec [] h = refl
special_none special c spec (e ∷ es) h =
    let rest = special_none special c spec es h.1 in
    elim (cases_Bool (c == e.0)) [
      | inl t ↦ ap (λ (conn : Connection). sent_to c (sends_to e.0 (special_owed (caller_of conn.spec) conn.watches special) ++ special_sends special es)) (h.0 t)
          ∙ ap (λ (messages : List Message). sent_to c (sends_to e.0 messages ++ special_sends special es)) (nothing_owed (caller_of spec)) ∙ rest
      | inr f ↦ nothing_sent c e.0 (special_owed (caller_of e.1.spec) e.1.watches special) (special_sends special es) f ∙ rest
    ]
  where
    nothing_owed_by : (b : Bool) → ◌≡◌ {A = List Message} (cond b [] []) []
    nothing_owed_by true = refl
    nothing_owed_by false = refl

    nothing_owed : (caller : Caller) → special_owed caller [] special ≡ []
    nothing_owed caller = nothing_owed_by (caller.domid == 0)

module _ (m : Machine) (ids : HasIds m.conns) where
  -- a new connection with the least free id
  module _ (domid : ℕ) (conn : Connection) (ring : ring_domid conn.spec ≡ Some domid) (sends : List Send) (unsent : sent_to (least_free m.conns) sends ≡ []) (none : ring_of domid m.conns ≡ None) where
    abbrev new_id : ℕ
    new_id = least_free m.conns

    abbrev with_new : Connections
    with_new = put nat_cmp new_id conn m.conns

    pub new_ends : ends with_new new_id ≡ Some (Some domid)
    new_ends = ap (option_map (λ (conn : Connection). ring_domid conn.spec)) (found_same new_id conn m.conns) ∙ ap Some ring

    pub old_ends : (c : ℕ) → (c == new_id) ≡ false → ends with_new c ≡ ends m.conns c
    old_ends c f = ap (option_map (λ (conn : Connection). ring_domid conn.spec)) (found_other c new_id conn m.conns f)

    -- the only one that is new
    is_new : (c : ℕ) (x : Option ℕ) → ends m.conns c ≡ None → ends with_new c ≡ Some x → c ≡ new_id
    is_new c x e f = elim (cases_Bool (c == new_id)) [
      | inl t ↦ eqb-true c new_id t
      | inr apart ↦ not_none f (old_ends c apart ∙ e)
    ]

    pub new_moves : Moved m.conns with_new sends
    new_moves =
        let least = least_free-is m.conns ids.rising ids.positive in
        record {
          ids = record {
            rising = sorted_put nat_cmp nat_cmp_total new_id conn m.conns ids.rising;
            positive = keys_put nat_cmp (λ i. 1 ≤ i) new_id conn m.conns least.positive ids.positive;
          };
          kept = λ c x y e f. elim (cases_Bool (c == new_id)) [
            | inl t ↦ not_none e (ap (option_map (λ (conn : Connection). ring_domid conn.spec)) (subst (λ k. find nat_cmp k m.conns ≡ None) (sym (eqb-true c new_id t)) least.free))
            | inr apart ↦ old_ends c apart
          ];
          made = λ c d e f. subst (λ k. ring_of k m.conns ≡ None) (from_Some (from_Some (sym new_ends ∙ subst (λ k. ends with_new k ≡ Some (Some d)) (is_new c (Some d) e f) f))) none;
          one = λ c b x y e f g h. is_new c x e g ∙ sym (is_new b y f h);
          unsent = λ c x e f. subst (λ k. sent_to k sends ≡ []) (sym (is_new c x e f)) unsent;
        }

  lost_moves : (c : ℕ) (sends : List Send) → Moved m.conns (without_conn c m).conns sends
  lost_moves c sends = record {
    ids = record {
      rising = sorted_where nat_cmp (λ d. not (c == d)) m.conns ids.rising;
      positive = keys_where nat_cmp (λ i. 1 ≤ i) (λ d. not (c == d)) m.conns ids.positive;
    };
    kept = λ b x y e f. stays b y f;
    made = λ b d e f. not_none f (stays b (Some d) f ∙ e);
    one = λ b a x y e f g h. not_none g (stays b x g ∙ e);
    unsent = λ b x e f. not_none f (stays b x f ∙ e);
  }
    where
      stays : (b : ℕ) (x : Option ℕ) → ends (without_conn c m).conns b ≡ Some x → ends (without_conn c m).conns b ≡ ends m.conns b
      stays b x e = elim (cases_Bool (c == b)) [
        | inl t ↦ not_none e (ap (option_map (λ (conn : Connection). ring_domid conn.spec)) (subst (λ k. find nat_cmp k (without_conn c m).conns ≡ None) (eqb-true c b t) (lost_same c m.conns)))
        | inr apart ↦ ap (option_map (λ (conn : Connection). ring_domid conn.spec)) (lost_other b c m.conns apart)
      ]

  set_spec_kept : (change : ConnSpec → ConnSpec) → ((spec : ConnSpec) → ring_domid (change spec) ≡ ring_domid spec) → (c : ℕ) (found : Option Connection) → find nat_cmp c m.conns ≡ found → Kept m.conns (set_spec change c found m).conns
  set_spec_kept change same c None e = all_kept m ids
  set_spec_kept change same c (Some conn) e = put_kept m ids c conn (with_spec (change conn.spec) conn) e (same conn.spec)

  set_target_kept : (target : ℕ) (found : Option ℕ) (target_there : Bool) → Kept m.conns (set_target m target found target_there).machine.conns
  set_target_kept target None target_there = all_kept m ids
  set_target_kept target (Some id) false = all_kept m ids
  set_target_kept target (Some id) true = set_spec_kept (with_target target) (target-domid target) id (find nat_cmp id m.conns) refl

  -- what a connection that is there asked for, whose reply is sent to it
  module _ (c : ℕ) (conn : Connection) (there : find nat_cmp c m.conns ≡ Some conn) (reply : Message) where
    abbrev Moves : Done → Type 0
    Moves done = Moved m.conns done.machine.conns ((c, reply) ∷ done.sends)

    kept_done : (done : Done) → Kept m.conns done.machine.conns → Moves done
    kept_done done k = kept_moves m.conns done.machine.conns ((c, reply) ∷ done.sends) k

    control_moves : (done : Done) → Moves done → Moves (if_control conn m done)
    control_moves done h = elim ((caller_of conn.spec).domid == 0) as (λ b. Moves (cond b done (refused Eacces m))) [
      | true ↦ h
      | false ↦ kept_done (refused Eacces m) (all_kept m ids)
    ]

    new_apart : (least_free m.conns == c) ≡ false
    new_apart = ne_eqb (least_free m.conns) c (λ same. not_none there (subst (λ k. find nat_cmp k m.conns ≡ None) same (least_free-is m.conns ids.rising ids.positive).free))

    introduce_moves : (domid evtchn : ℕ) (found : Option ℕ) → ring_of domid m.conns ≡ found → Moves (introduce m domid evtchn found)
    introduce_moves domid evtchn (Some id) e = kept_done (introduce m domid evtchn (Some id)) (set_spec_kept (with_evtchn evtchn) (evtchn-domid evtchn) id (find nat_cmp id m.conns) refl)
    introduce_moves domid evtchn None e =
        let new = least_free m.conns in
        let spec = Ring domid None evtchn in
        let after : Connections = put nat_cmp new (fresh spec) m.conns in
        let rising = sorted_put nat_cmp nat_cmp_total new (fresh spec) m.conns ids.rising in
        let events : sent_to new (special_sends introduce_domain after) ≡ [] =
        special_none introduce_domain new spec after
        (all_weaker (λ (f : ℕ × Connection). find nat_cmp f.0 after ≡ Some f.1) (λ (f : ℕ × Connection). (new == f.0) ≡ true → f.1 ≡ fresh spec)
        (λ f found t. from_Some (sym found ∙ subst (λ k. find nat_cmp k after ≡ Some (fresh spec)) (eqb-true new f.0 t) (found_same new (fresh spec) m.conns)))
        after (each_is_itself after rising))
        in
        new_moves domid (fresh spec) refl ((c, reply) ∷ special_sends introduce_domain after)
        (ap (λ b. flat_map (λ (s : Send). message_bytes s.1) (cond b ((c, reply) ∷ filter (λ (s : Send). new == s.0) (special_sends introduce_domain after)) (filter (λ (s : Send). new == s.0) (special_sends introduce_domain after)))) new_apart ∙ events)
        e

    release_moves : (found : Option ℕ) → Moves (release m found)
    release_moves None = kept_done (release m None) (all_kept m ids)
    release_moves (Some id) = lost_moves id ((c, reply) ∷ special_sends release_domain (without_conn id m).conns)

    act_moves : (tx : ℕ) (request : Request) → Moves (act m c conn tx request)
    act_moves tx (Command operation path) = kept_done (act m c conn tx (Command operation path)) (run_command_kept m ids c conn there tx operation path)
    act_moves tx (WatchRequest wpath token) = kept_done (act m c conn tx (WatchRequest wpath token)) (add_watch_kept m ids c conn there (record { wpath = wpath; token = token }))
    act_moves tx (Unwatch wpath token) = kept_done (act m c conn tx (Unwatch wpath token)) (remove_watch_kept m ids c conn there (record { wpath = wpath; token = token }))
    act_moves tx Start = kept_done (act m c conn tx Start) (start_kept m ids c conn there tx)
    act_moves tx (End commit) = kept_done (act m c conn tx (End commit)) (close_kept m ids c conn there commit tx (find nat_cmp tx conn.transactions))
    act_moves tx (Introduce domid evtchn) = control_moves (introduce m domid evtchn (ring_of domid m.conns)) (introduce_moves domid evtchn (ring_of domid m.conns) refl)
    act_moves tx (Release domid) = control_moves (release m (ring_of domid m.conns)) (release_moves (ring_of domid m.conns))
    act_moves tx (DomainPath domid) = kept_done (act m c conn tx (DomainPath domid)) (all_kept m ids)
    act_moves tx (IsIntroduced domid) = kept_done (act m c conn tx (IsIntroduced domid)) (all_kept m ids)
    act_moves tx (SetTarget domid target) =
        control_moves (set_target m target (ring_of domid m.conns) (has_ring target m.conns)) (kept_done (set_target m target (ring_of domid m.conns) (has_ring target m.conns)) (set_target_kept target (ring_of domid m.conns) (has_ring target m.conns)))
    act_moves tx ResetWatches = kept_done (act m c conn tx ResetWatches) (own_kept m ids c conn there (fresh conn.spec) refl)

    asked_moves : (tx : ℕ) (request : Result Request WireErr) → Moves (act_or_refuse m c conn tx request)
    asked_moves tx (Err error) = kept_done (refused error m) (all_kept m ids)
    asked_moves tx (Ok request) = act_moves tx request

  conn_moves : (served : List ℕ) (c : ℕ) (bytes : List ℕ) (found : Option Connection) → find nat_cmp c m.conns ≡ found
      → Moved m.conns (step_of_conn served m c bytes found).0.conns (step_of_conn served m c bytes found).1
  conn_moves served c bytes None e = kept_moves m.conns m.conns [] (all_kept m ids)
  conn_moves served c bytes (Some conn) e =
      let head = header_of bytes in
      let request = request_of served head.kind (payload_of bytes) (caller_of conn.spec).domid in
      asked_moves c conn e (reply_message head (act_or_refuse m c conn head.tx_id request).reply) head.tx_id request

  pub step_moves : (served : List ℕ) (item : Item) → Moved m.conns (step_with served m item).0.conns (step_with served m item).1
  step_moves served (Asked c bytes) = conn_moves served c bytes (find nat_cmp c m.conns) refl
  step_moves served (Lost c) = lost_moves c []
