-- The connections that came, where one of them changes or one more comes.
use Rattle.std.proofs.Common.{◌≡◌, ℕ, ◌+◌, ◌==◌, Bool, true, false, cond, ◌&&◌, ◌||◌, List, [], ◌∷◌, ◌++◌, map, Option, Some, None, is_some, nat_le, Result, refl, sym, ap, subst, ◌∙◌, eqb-true, add_comm}
use Rattle.std.specs.Option.{option_map, ForSome}
use Rattle.std.specs.Result.{OnOk, OnErr}
use Rattle.std.proofs.lemmas.Result.{on_ok_weaker, on_err_weaker}
use Rattle.conn_rows.proofs.NoteLemmas.{either_way}
use Rattle.std.specs.List.{AllByRecursion, list_any}
use Rattle.std.specs.Ordering.{nat_cmp, eq_by_cmp}
use Rattle.std.specs.declared.cmp.Ordering.TheVariants.{Less, Equal, Greater}
use Rattle.std.specs.Cmp.{nat_cmp_total}
use Rattle.std.specs.FinMap.{find, put, is_sorted, nat_cmp-IsAntisymmetric}
use Rattle.std.specs.FinMap.Entries.{by_order}
use Rattle.xs_model.proofs.Maps.{tied, same_maps, sorted_put, not_both, keys_put, keys_found}
use Rattle.xs_model.specs.Watches.{Watch}
use Rattle.machine_model.specs.declared.ConnSpec.{ConnSpec}
use Rattle.machine_model.specs.declared.ConnSpec.TheVariants.{Ring, Socket}
use Rattle.machine_model.specs.Connections.{is_ring_of, caller_of}
use Rattle.machine_model.specs.History.{bytes_or_none}
use Rattle.mark_model.proofs.StoreMaps.{sorted_entries}
use Rattle.kept_model.specs.States.{ConnectionOf}
use Rattle.kept_model.specs.Said.{Said}
use Rattle.kept_model.specs.Sound as sound
use Rattle.kept_model.specs.Loading.{with_opens, with_watch, is_end_of, is_one_too_many}
use Rattle.kept_model.specs.Loading as loading
use Rattle.kept_model.proofs.LoadTests.{map_some}
use Rattle.conn_table.specs.Tables.{Specs, ring_id, has_its_ring, is_taken, is_socket, count_sockets}
use Rattle.out_queues.specs.Queues.{Queue}
use Rattle.watch_table.specs.Tables.{Made, watches_in}
use Rattle.watchers.specs.Watched.{Watched, or_none, made_by, watches_of, AreOwn}
use Rattle.conn_rows.specs.Queued.{unsent_of, rests_of}
use Rattle.conn_rows.proofs.IdEntries.{put_map, found_at, found_itself, put_again}
use Rattle.store_parts.specs.States.{or_zero}
use Rattle.mig_load.specs.Came.{Opens, Saids, or_no_opens, said_of, Tables, connection_at, connections_in, AreOf, changed_found, changed_at}

-- A NEW VALUE at each id, by the id and the old one
module _ {X Y : Type 0} (f : ℕ → X → Y) where
  abbrev pub at_ids : List (ℕ × X) → List (ℕ × Y)
  at_ids es = map (λ e. (e.0, f e.0 e.1)) es

  pub at_found : (k : ℕ) (es : List (ℕ × X)) → find nat_cmp k (at_ids es) ≡ option_map (f k) (find nat_cmp k es)
  at_found k [] = refl
  at_found k (e ∷ es) =
      elim (eq_by_cmp nat_cmp k e.0) as (λ b. eq_by_cmp nat_cmp k e.0 ≡ b → cond b (Some (f e.0 e.1)) (find nat_cmp k (at_ids es)) ≡ option_map (f k) (cond b (Some e.1) (find nat_cmp k es))) [
        | true ↦ λ t. ap (λ i. Some (f i e.1)) (sym (nat_cmp-IsAntisymmetric k e.0 (tied nat_cmp nat_cmp_total k e.0 t)))
        | false ↦ λ _. at_found k es
      ] refl

  pub at_put : (k : ℕ) (x : X) (es : List (ℕ × X)) → at_ids (put nat_cmp k x es) ≡ put nat_cmp k (f k x) (at_ids es)
  at_put k x [] = refl
  at_put k x (e ∷ es) =
      let rest : List (ℕ × Y) = at_ids es in
      elim (nat_cmp k e.0) as (λ o. nat_cmp k e.0 ≡ o → at_ids (by_order o ((k, x) ∷ e ∷ es) ((e.0, x) ∷ es) (e ∷ put nat_cmp k x es))
      ≡ by_order o ((k, f k x) ∷ (e.0, f e.0 e.1) ∷ rest) ((e.0, f k x) ∷ rest) ((e.0, f e.0 e.1) ∷ put nat_cmp k (f k x) rest)) [
        | Less ↦ λ _. refl
        | Equal ↦ λ t. ap (λ i. (e.0, f i x) ∷ rest) (sym (nat_cmp-IsAntisymmetric k e.0 t))
        | Greater ↦ λ _. ap (λ l. (e.0, f e.0 e.1) ∷ l) (at_put k x es)
      ] refl

  pub at_rising : (es : List (ℕ × X)) → is_sorted nat_cmp (at_ids es) ≡ is_sorted nat_cmp es
  at_rising es = sorted_entries nat_cmp (λ e. f e.0 e.1) es

-- two that are alike but at one id
module _ {X Y : Type 0} (f g : ℕ → X → Y) (c : ℕ) (alike : (k : ℕ) (x : X) → (k == c) ≡ false → g k x ≡ f k x) where
  mapped_alike : (k : ℕ) (o : Option X) → (k == c) ≡ false → option_map (g k) o ≡ option_map (f k) o
  mapped_alike k None h = refl
  mapped_alike k (Some x) h = ap Some (alike k x h)

  pub put_alike : (v : Y) (es : List (ℕ × X)) → is_sorted nat_cmp es ≡ true → put nat_cmp c v (at_ids g es) ≡ put nat_cmp c v (at_ids f es)
  put_alike v es rising =
      same_maps nat_cmp nat_cmp_total nat_cmp-IsAntisymmetric (put nat_cmp c v (at_ids g es)) (put nat_cmp c v (at_ids f es))
      (sorted_put nat_cmp nat_cmp_total c v (at_ids g es) (at_rising g es ∙ rising)) (sorted_put nat_cmp nat_cmp_total c v (at_ids f es) (at_rising f es ∙ rising))
      (λ q. found_at q c v (at_ids g es) ∙ by q (q == c) refl ∙ sym (found_at q c v (at_ids f es)))
    where
      by : (q : ℕ) (b : Bool) → (q == c) ≡ b → cond b (Some v) (find nat_cmp q (at_ids g es)) ≡ cond b (Some v) (find nat_cmp q (at_ids f es))
      by q true t = refl
      by q false t = at_found g q es ∙ mapped_alike q (find nat_cmp q es) t ∙ sym (at_found f q es)

-- THE CONNECTIONS of tables
abbrev pub AlikeBut : ℕ → Tables → Tables → Type 0
AlikeBut c t new = (k : ℕ) (s : ConnSpec) → (k == c) ≡ false → connection_at new k s ≡ connection_at t k s

pub one_put : (t new : Tables) (c : ℕ) (spec : ConnSpec) → is_sorted nat_cmp t.specs ≡ true → new.specs ≡ put nat_cmp c spec t.specs → AlikeBut c t new
    → connections_in new ≡ put nat_cmp c (connection_at new c spec) (connections_in t)
one_put t new c spec rising specs alike =
    ap (at_ids (connection_at new)) specs ∙ at_put (connection_at new) c spec t.specs ∙ put_alike (connection_at t) (connection_at new) c alike (connection_at new c spec) t.specs rising

pub came_found : (t : Tables) (c : ℕ) (found : ConnectionOf Said) → find nat_cmp c (connections_in t) ≡ Some found → (spec : ConnSpec) × (find nat_cmp c t.specs ≡ Some spec) × (connection_at t c spec ≡ found)
came_found t c found e = map_some (connection_at t c) (find nat_cmp c t.specs) found (sym (at_found (connection_at t) c t.specs) ∙ e)

is_mapped : {A B : Type 0} (f : A → B) (o : Option A) → is_some (option_map f o) ≡ is_some o
is_mapped f None = refl
is_mapped f (Some x) = refl

pub came_there : (t : Tables) (c : ℕ) → is_some (find nat_cmp c (connections_in t)) ≡ is_some (find nat_cmp c t.specs)
came_there t c = ap is_some (at_found (connection_at t) c t.specs) ∙ is_mapped (connection_at t c) (find nat_cmp c t.specs)

pub there_is : {A : Type 0} (o : Option A) → is_some o ≡ true → (x : A) × (o ≡ Some x)
there_is None h = not_both h refl
there_is (Some x) h = (x, refl)

-- what the tables have of one that came
pub came_at : (t : Tables) (c : ℕ) → is_some (find nat_cmp c (connections_in t)) ≡ true → (spec : ConnSpec) × (find nat_cmp c t.specs ≡ Some spec) × (find nat_cmp c (connections_in t) ≡ Some (connection_at t c spec))
came_at t c there =
    let spec = there_is (find nat_cmp c t.specs) (sym (came_there t c) ∙ there) in
    (spec.0, spec.1, at_found (connection_at t) c t.specs ∙ ap (option_map (connection_at t c)) spec.1)

-- one that came is changed
pub one_changed : (t new : Tables) (c : ℕ) (change : ConnectionOf Said → ConnectionOf Said) → is_sorted nat_cmp t.specs ≡ true → is_some (find nat_cmp c (connections_in t)) ≡ true → new.specs ≡ t.specs
    → AlikeBut c t new → ((spec : ConnSpec) → connection_at new c spec ≡ change (connection_at t c spec)) → connections_in new ≡ changed_at c change (connections_in t)
one_changed t new c change rising there specs alike here =
    let spec = there_is (find nat_cmp c t.specs) (sym (came_there t c) ∙ there) in
    one_put t new c spec.0 rising (specs ∙ sym (put_again c spec.0 t.specs rising spec.1)) alike
    ∙ ap (λ v. put nat_cmp c v (connections_in t)) (here spec.0)
    ∙ sym (ap (changed_found c change (connections_in t)) (at_found (connection_at t) c t.specs ∙ ap (option_map (connection_at t c)) spec.1))

-- THE ENDS
rings_in : (f : ℕ → ConnSpec → ConnectionOf Said) → ((k : ℕ) (s : ConnSpec) → (f k s).spec ≡ s) → (domid : ℕ) (specs : Specs) → is_some (ring_id domid specs) ≡ list_any (λ e. is_ring_of domid e.1.spec) (at_ids f specs)
rings_in f same domid [] = refl
rings_in f same domid (e ∷ specs) =
    elim (is_ring_of domid e.1) as (λ b. is_some (cond b (Some e.0) (ring_id domid specs)) ≡ (b || list_any (λ e. is_ring_of domid e.1.spec) (at_ids f specs))) [
      | true ↦ refl
      | false ↦ rings_in f same domid specs
    ]
    ∙ ap (λ s. is_ring_of domid s || list_any (λ e. is_ring_of domid e.1.spec) (at_ids f specs)) (sym (same e.0 e.1))

no_rings : (es : List (ℕ × ConnectionOf Said)) → false ≡ list_any (λ e. false) es
no_rings [] = refl
no_rings (e ∷ es) = no_rings es

has_ring_in : (t : Tables) (spec : ConnSpec) → has_its_ring spec t.specs ≡ list_any (λ e. is_end_of spec e.1.spec) (connections_in t)
has_ring_in t (Ring domid target evtchn) = rings_in (connection_at t) (λ k s. refl) domid t.specs
has_ring_in t (Socket fd) = no_rings (connections_in t)

pub taken_in : (t : Tables) (c : ℕ) (spec : ConnSpec) → is_taken c spec t.specs ≡ (is_some (find nat_cmp c (connections_in t)) || list_any (λ e. is_end_of spec e.1.spec) (connections_in t))
taken_in t c spec = ap (λ b. b || has_its_ring spec t.specs) (sym (came_there t c)) ∙ ap (λ b. is_some (find nat_cmp c (connections_in t)) || b) (has_ring_in t spec)

socket_is : (spec : ConnSpec) → is_socket spec ≡ sound.is_socket spec
socket_is (Ring domid target evtchn) = refl
socket_is (Socket fd) = refl

sockets_in : (f : ℕ → ConnSpec → ConnectionOf Said) → ((k : ℕ) (s : ConnSpec) → (f k s).spec ≡ s) → (specs : Specs) → count_sockets specs ≡ loading.count_sockets (at_ids f specs)
sockets_in f same [] = refl
sockets_in f same (e ∷ specs) =
    ap (λ b. cond b (count_sockets specs + 1) (count_sockets specs)) (socket_is e.1 ∙ ap sound.is_socket (sym (same e.0 e.1)))
    ∙ ap (λ n. cond (sound.is_socket (f e.0 e.1).spec) (n + 1) n) (sockets_in f same specs)
    ∙ ap (λ n. cond (sound.is_socket (f e.0 e.1).spec) n (loading.count_sockets (at_ids f specs))) (add_comm (loading.count_sockets (at_ids f specs)) 1)

pub too_many_in : (t : Tables) (spec : ConnSpec) → (is_socket spec && nat_le 65536 (count_sockets t.specs)) ≡ is_one_too_many spec (connections_in t)
too_many_in t spec = ap (λ b. b && nat_le 65536 (count_sockets t.specs)) (socket_is spec) ∙ ap (λ n. sound.is_socket spec && nat_le 65536 n) (sockets_in (connection_at t) (λ k s. refl) t.specs)

-- WHAT IS PUT at one id
module _ {X Y : Type 0} (or_else : Option X → Y) where
  pub elsewhere : (k c : ℕ) (x : X) (es : List (ℕ × X)) → (k == c) ≡ false → or_else (find nat_cmp k (put nat_cmp c x es)) ≡ or_else (find nat_cmp k es)
  elsewhere k c x es h = ap or_else (found_at k c x es ∙ ap (λ b. cond b (Some x) (find nat_cmp k es)) h)

  pub right_here : (c : ℕ) (x : X) (es : List (ℕ × X)) → or_else (find nat_cmp c (put nat_cmp c x es)) ≡ or_else (Some x)
  right_here c x es = ap or_else (found_itself c x es)

abbrev pub with_saids : Saids → Tables → Tables
with_saids saids t = record { specs = t.specs; watched = t.watched; queues = t.queues; ins = t.ins; saids = saids }

abbrev pub with_watched : Watched → Tables → Tables
with_watched watched t = record { specs = t.specs; watched = watched; queues = t.queues; ins = t.ins; saids = t.saids }

abbrev with_watches : List Watch → ConnectionOf Said → ConnectionOf Said
with_watches watches conn = record { spec = conn.spec; watches = watches; inbox = conn.inbox; rest = conn.rest; unsent = conn.unsent; opens = conn.opens }

-- other transactions
pub said_changed : (t : Tables) (c : ℕ) (opens : Opens) (change : ConnectionOf Said → ConnectionOf Said) → is_sorted nat_cmp t.specs ≡ true → is_some (find nat_cmp c (connections_in t)) ≡ true
    → ((spec : ConnSpec) → with_opens opens (connection_at t c spec) ≡ change (connection_at t c spec)) → connections_in (with_saids (put nat_cmp c opens t.saids) t) ≡ changed_at c change (connections_in t)
said_changed t c opens change rising there here =
    one_changed t (with_saids (put nat_cmp c opens t.saids) t) c change rising there refl
    (λ k s h. ap (λ o. with_opens o (connection_at t k s)) (elsewhere or_no_opens k c opens t.saids h))
    (λ spec. ap (λ o. with_opens o (connection_at t c spec)) (right_here or_no_opens c opens t.saids) ∙ here spec)

told_put : (specs : Specs) (c : ℕ) (opens : Opens) (saids : Saids) → is_some (find nat_cmp c specs) ≡ true → AreOf specs saids → AreOf specs (put nat_cmp c opens saids)
told_put specs c opens saids there told = keys_put nat_cmp (λ k. is_some (find nat_cmp k specs) ≡ true) c opens saids there told

pub told_either : {E : Type 0} (r : Result (Unit {0}) E) (specs : Specs) (c : ℕ) (opens : Opens) (saids new : Saids) → is_some (find nat_cmp c specs) ≡ true → AreOf specs saids
    → OnOk r (new ≡ put nat_cmp c opens saids) → OnErr r (new ≡ saids) → AreOf specs new
told_either r specs c opens saids new there told ok err =
    either_way r (on_ok_weaker r (λ is. subst (λ (s : Saids). AreOf specs s) (sym is) (told_put specs c opens saids there told)) ok)
    (on_err_weaker r (λ is. subst (λ (s : Saids). AreOf specs s) (sym is) told) err)

watches_more : (made : List Made) (m : Made) → watches_in (made ++ m ∷ []) ≡ watches_in made ++ m.watch ∷ []
watches_more [] m = refl
watches_more (n ∷ made) m = ap (λ ws. n.watch ∷ ws) (watches_more made m)

-- one watch more
pub watch_changed : (t : Tables) (c : ℕ) (m : Made) → is_sorted nat_cmp t.specs ≡ true → is_some (find nat_cmp c (connections_in t)) ≡ true
    → connections_in (with_watched (put nat_cmp c (made_by c t.watched ++ m ∷ []) t.watched) t) ≡ changed_at c (with_watch m.watch) (connections_in t)
watch_changed t c m rising there =
    let made : List Made = made_by c t.watched ++ m ∷ [] in
    one_changed t (with_watched (put nat_cmp c made t.watched) t) c (with_watch m.watch) rising there refl
    (λ k s h. ap (λ ws. with_watches ws (connection_at t k s)) (elsewhere (λ o. watches_in (or_none o)) k c made t.watched h))
    (λ spec. ap (λ ws. with_watches ws (connection_at t c spec)) (right_here (λ o. watches_in (or_none o)) c made t.watched ∙ watches_more (made_by c t.watched) m))

-- ONE MORE comes
pub not_of : {X : Type 0} (specs : Specs) (c : ℕ) (es : List (ℕ × X)) → AreOf specs es → find nat_cmp c specs ≡ None → find nat_cmp c es ≡ None
not_of {X} specs c es of none = by (find nat_cmp c es) refl
  where
    by : (o : Option X) → find nat_cmp c es ≡ o → o ≡ None
    by None e = refl
    by (Some x) e = not_both (keys_found nat_cmp (λ k. is_some (find nat_cmp k specs) ≡ true) nat_cmp-IsAntisymmetric c es x of e) (ap is_some none)

pub of_more : {X : Type 0} (specs : Specs) (c : ℕ) (spec : ConnSpec) (es : List (ℕ × X)) → AreOf specs es → AreOf (put nat_cmp c spec specs) es
of_more specs c spec [] h = tt
of_more specs c spec (e ∷ es) h = (ap is_some (found_at e.0 c spec specs) ∙ by (e.0 == c), of_more specs c spec es h.1)
  where
    by : (b : Bool) → is_some (cond b (Some spec) (find nat_cmp e.0 specs)) ≡ true
    by true = refl
    by false = h.0

apart : (specs : Specs) (c k : ℕ) → find nat_cmp c specs ≡ None → is_some (find nat_cmp k specs) ≡ true → (k == c) ≡ false
apart specs c k none there = by (k == c) refl
  where
    by : (b : Bool) → (k == c) ≡ b → b ≡ false
    by true t = not_both (sym (ap (λ i. is_some (find nat_cmp i specs)) (eqb-true k c t)) ∙ there) (ap is_some none)
    by false t = refl

pub own_more : (specs : Specs) (c : ℕ) (spec : ConnSpec) (watched : Watched) → find nat_cmp c specs ≡ None → AreOf specs watched → AreOwn specs watched → AreOwn (put nat_cmp c spec specs) watched
own_more specs c spec [] none of own = tt
own_more specs c spec (e ∷ watched) none of own = (
  subst (λ (o : Option ConnSpec). ForSome o (λ spec. AllByRecursion (λ m. m.domid ≡ (caller_of spec).domid) e.1))
      (sym (found_at e.0 c spec specs ∙ ap (λ b. cond b (Some spec) (find nat_cmp e.0 specs)) (apart specs c e.0 none of.0))) own.0,
  own_more specs c spec watched none of.1 own.1,
)

abbrev pub with_one_more : ℕ → ConnSpec → Queue → List ℕ → Tables → Tables
with_one_more c spec queue inbox t = record { specs = put nat_cmp c spec t.specs; watched = t.watched; queues = put nat_cmp c queue t.queues; ins = put nat_cmp c inbox t.ins; saids = t.saids }

unsent_else : (or_else : Option (List ℕ) → List ℕ) (k c : ℕ) (queue : Queue) (queues : List (ℕ × Queue)) → (k == c) ≡ false → or_else (find nat_cmp k (unsent_of (put nat_cmp c queue queues))) ≡ or_else (find nat_cmp k (unsent_of queues))
unsent_else or_else k c queue queues h = ap (λ es. or_else (find nat_cmp k es)) (put_map (λ q. q.bytes) c queue queues) ∙ elsewhere or_else k c queue.bytes (unsent_of queues) h

rests_else : (or_else : Option ℕ → ℕ) (k c : ℕ) (queue : Queue) (queues : List (ℕ × Queue)) → (k == c) ≡ false → or_else (find nat_cmp k (rests_of (put nat_cmp c queue queues))) ≡ or_else (find nat_cmp k (rests_of queues))
rests_else or_else k c queue queues h = ap (λ es. or_else (find nat_cmp k es)) (put_map (λ q. q.rest) c queue queues) ∙ elsewhere or_else k c queue.rest (rests_of queues) h

pub one_more : (t : Tables) (c : ℕ) (spec : ConnSpec) (queue : Queue) (inbox : List ℕ) → is_sorted nat_cmp t.specs ≡ true → find nat_cmp c t.specs ≡ None → AreOf t.specs t.watched → AreOf t.specs t.saids
    → connections_in (with_one_more c spec queue inbox t) ≡ put nat_cmp c (record { spec = spec; watches = []; inbox = inbox; rest = queue.rest; unsent = queue.bytes; opens = [] }) (connections_in t)
one_more t c spec queue inbox rising none named told =
    let new : Tables = with_one_more c spec queue inbox t in
    one_put t new c spec rising refl
    (λ k s h i. record {
      spec = s;
      watches = watches_of k t.watched;
      inbox = elsewhere bytes_or_none k c inbox t.ins h i;
      rest = rests_else or_zero k c queue t.queues h i;
      unsent = unsent_else bytes_or_none k c queue t.queues h i;
      opens = said_of k t.saids;
    })
    ∙ ap (λ v. put nat_cmp c v (connections_in t)) (λ i. record {
      spec = spec;
      watches = ap (λ o. watches_in (or_none o)) (not_of t.specs c t.watched named none) i;
      inbox = right_here bytes_or_none c inbox t.ins i;
      rest = (ap (λ es. or_zero (find nat_cmp c es)) (put_map (λ q. q.rest) c queue t.queues) ∙ right_here or_zero c queue.rest (rests_of t.queues)) i;
      unsent = (ap (λ es. bytes_or_none (find nat_cmp c es)) (put_map (λ q. q.bytes) c queue t.queues) ∙ right_here bytes_or_none c queue.bytes (unsent_of t.queues)) i;
      opens = ap or_no_opens (not_of t.specs c t.saids told none) i;
    })
